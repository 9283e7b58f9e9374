-- What a packer holds between two bytes, and what a byte leaves.
use Rattle.std.specs.Prelude.{ℕ, List}
use Rattle.midi1_bytes.specs.Parsing.{Parsing, held_over, parse}
use Rattle.midi1_bytes.specs.Steps.{Step}

-- the cable of its events, and what is open of a message or an exclusive
pub record PackerState : Type 0 where
  pub cable : ℕ
  pub parsing : Parsing

-- what the byte does
abbrev pub step_in : PackerState → ℕ → ℕ → Step
step_in packer offset byte = (parse packer.parsing offset byte).step

abbrev pub packer_after : PackerState → ℕ → ℕ → PackerState
packer_after packer offset byte = record packer { parsing = (parse packer.parsing offset byte).after }

-- what it holds after these bytes, newest first
abbrev pub packer_over : ℕ → ℕ → List ℕ → PackerState
packer_over room cable past = record { cable = cable; parsing = held_over room past }
