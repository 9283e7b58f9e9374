-- What is put, and into which place, in the order in which it is put.
use Rattle.std.specs.Prelude.{◌≡◌, ◌⊎◌, ℕ, ◌<◌, List, [], ◌∷◌, length, take}
use Rattle.std.specs.List.{flat_map}
use Rattle.pass_loop.specs.declared.ends.RunEnd.{RunEnd}
use Rattle.pass_loop.specs.declared.ends.RunEnd.TheVariants.{LaneFault, OutputFault, NoteFault}

-- a piece in a lane, text in the output, or text in the notes
pub data Put : Type 0 where
  in_lane : ℕ → List ℕ → Put
  in_output : List ℕ → Put
  in_notes : List ℕ → Put

-- the pairs of a lane and a piece among them
abbrev pub pair_of : Put → List (ℕ × List ℕ)
pair_of (in_lane lane piece) = (lane, piece) ∷ []
pair_of (in_output text) = []
pair_of (in_notes text) = []

abbrev pub pairs_in : List Put → List (ℕ × List ℕ)
pairs_in puts = flat_map pair_of puts

-- the bytes for the output among them
abbrev pub output_of : Put → List ℕ
output_of (in_lane lane piece) = []
output_of (in_output text) = text
output_of (in_notes text) = []

abbrev pub output_in : List Put → List ℕ
output_in puts = flat_map output_of puts

-- the bytes for the notes among them
abbrev pub notes_of : Put → List ℕ
notes_of (in_lane lane piece) = []
notes_of (in_output text) = []
notes_of (in_notes text) = text

abbrev pub notes_in : List Put → List ℕ
notes_in puts = flat_map notes_of puts

-- what may stand of a put that failed: a front that isn't all of it; in a lane nothing, or a front that isn't empty either
abbrev pub IsPartOf : Put → List Put → Type 0
IsPartOf (in_lane lane piece) part =
    (part ≡ []) ⊎ ((n : ℕ) × (0 < n) × (n < length piece) × (part ≡ in_lane lane (take n piece) ∷ []))
IsPartOf (in_output text) part = (n : ℕ) × (n < length text) × (part ≡ in_output (take n text) ∷ [])
IsPartOf (in_notes text) part = (n : ℕ) × (n < length text) × (part ≡ in_notes (take n text) ∷ [])

-- the end that follows if it failed
abbrev pub fault_of : Put → RunEnd
fault_of (in_lane lane piece) = LaneFault
fault_of (in_output text) = OutputFault
fault_of (in_notes text) = NoteFault
