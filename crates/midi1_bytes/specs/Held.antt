-- How the parser holds what is open, and its running status.
use Rattle.std.specs.Prelude.{◌≡◌, ℕ, ◌+◌, ◌<◌, ◌≤◌, List, [], drop, Option, Some, None}
use Rattle.midi1_bytes.specs.declared.begun.Begun.{Begun}
use Rattle.midi1_bytes.specs.declared.begun.Begun.TheVariants as begun
use Rattle.midi1_bytes.specs.declared.begun.Running.{Running}
use Rattle.midi1_bytes.specs.declared.begun.Running.TheVariants as running
use Rattle.midi1_bytes.specs.Messages.{AreData}
use Rattle.midi1_bytes.specs.Parsing as parsing
use Rattle.midi1_bytes.specs.Sorts.{one, two, voice_status, count_of, sort_of}

-- what is open, with the bytes of the exclusive after its F0
abbrev pub begun_view : Begun → List ℕ → Option parsing.Begun
begun_view begun.Nothing bytes = None
begun_view (begun.Only start status) bytes = Some (parsing.begun_message start status None)
begun_view (begun.First start status) bytes = Some (parsing.begun_message start status None)
begun_view (begun.Second start status first) bytes = Some (parsing.begun_message start status (Some first))
begun_view (begun.Exclusive start) bytes = Some (parsing.begun_exclusive start (drop 1 bytes))

abbrev pub running_view : Running → Option ℕ
running_view running.Unset = None
running_view (running.One status) = Some status
running_view (running.Two status) = Some status

-- A message has as many data bytes as its status says, and its first data byte is one; an open exclusive
-- keeps to its limit, F0 aside.
abbrev pub IsKept : ℕ → Begun → ℕ → Type 0
IsKept room begun.Nothing size = Unit {0}
IsKept room (begun.Only start status) size = count_of (sort_of status) ≡ Some one
IsKept room (begun.First start status) size = count_of (sort_of status) ≡ Some two
IsKept room (begun.Second start status first) size = (count_of (sort_of status) ≡ Some two) × (first < 128)
IsKept room (begun.Exclusive start) size = size ≤ room + 1

-- an open exclusive has data bytes alone after its F0
abbrev pub HoldsData : Begun → List ℕ → Type 0
HoldsData begun.Nothing bytes = Unit {0}
HoldsData (begun.Only start status) bytes = Unit {0}
HoldsData (begun.First start status) bytes = Unit {0}
HoldsData (begun.Second start status first) bytes = Unit {0}
HoldsData (begun.Exclusive start) bytes = AreData (drop 1 bytes)

-- the messages of the running status have as many data bytes as it says
abbrev pub IsCounted : Running → Type 0
IsCounted running.Unset = Unit {0}
IsCounted (running.One status) = sort_of status ≡ voice_status one
IsCounted (running.Two status) = sort_of status ≡ voice_status two

abbrev pub bytes_in : Option parsing.Begun → List ℕ
bytes_in None = []
bytes_in (Some (parsing.begun_message start status first)) = []
bytes_in (Some (parsing.begun_exclusive start bytes)) = bytes

-- the bytes of the exclusive that is open
abbrev pub bytes_begun : parsing.Parsing → List ℕ
bytes_begun held = bytes_in held.begun
