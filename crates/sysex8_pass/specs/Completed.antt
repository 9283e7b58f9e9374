-- The 8-bit exclusives that a recording completes.
use Rattle.std.specs.Prelude.{ℕ, ◌/◌, ◌==◌, if◌then◌else◌, List, [], ◌∷◌, ◌++◌, length, map, filter, Option, None, Some}
use Rattle.std.specs.Option.{option_to_list}
use Rattle.sysex_groups.specs.Exclusives.{Part}
use Rattle.sysex8_streams.specs.History.{Answer8, held8, whole8, stray8, restarted8, restarted_whole8, too_long8, full8, answer8}

-- the bytes of the exclusive that an answer gives
abbrev pub whole_in : Answer8 → Option (List ℕ)
whole_in held8 = None
whole_in (whole8 bytes) = Some bytes
whole_in stray8 = None
whole_in (restarted8 at) = None
whole_in (restarted_whole8 at bytes) = Some bytes
whole_in too_long8 = None
whole_in full8 = None

-- the exclusive that the answer to a part of a stream gives: the key of the stream, and the bytes
abbrev pub given_by : ℕ → Answer8 → List (ℕ × List ℕ)
given_by key answer = map (λ bytes. (key, bytes)) (option_to_list (whole_in answer))

-- the exclusives that these parts, the newest first, complete, in their order
abbrev pub completed8 : ℕ → ℕ → List Part → List (ℕ × List ℕ)
completed8 slots room [] = []
completed8 slots room (part ∷ past) =
    completed8 slots room past ++ given_by part.group (answer8 slots room past part)

-- those of a stream
abbrev pub of_stream : ℕ → List (ℕ × List ℕ) → List (ℕ × List ℕ)
of_stream key exclusives = filter (λ exclusive. exclusive.0 == key) exclusives

-- an exclusive in the lanes: its bytes in the lane of the group that its key has, unless there are none
abbrev pub piece_of : ℕ × List ℕ → List (ℕ × List ℕ)
piece_of exclusive = if length exclusive.1 == 0 then [] else (exclusive.0 / 256, exclusive.1) ∷ []
