-- The number of bytes of the exclusive that a parser has open.
use Rattle.std.specs.Prelude.{◌≡◌, ◌≤◌, ℕ, length, Option}
use Rattle.midi1_bytes.specs.Held.{bytes_begun, bytes_in}
use Rattle.midi1_bytes.specs.Messages.{exclusive}
use Rattle.midi1_bytes.specs.Parsing.{Begun, Parsed, Parsing, parse}
use Rattle.midi1_bytes.specs.Steps.{Step, completes}

-- it is at most the limit
abbrev pub IsWithin : Parsing → Type 0
IsWithin parsing = length (bytes_begun parsing) ≤ parsing.room

-- an exclusive that a step completes is within this limit
abbrev pub CompletesWithin : ℕ → Step → Type 0
CompletesWithin room (completes (exclusive bytes)) = length bytes ≤ room
CompletesWithin room _ = Unit {0}

-- and so is an exclusive that is open
abbrev pub IsOpenWithin : ℕ → Option Begun → Type 0
IsOpenWithin room begun = length (bytes_in begun) ≤ room

-- both are, and the limit stays
pub record StaysWithin (limit : ℕ) (parsed : Parsed) : Type 0 where
  pub completed : CompletesWithin limit parsed.step
  pub opened : IsOpenWithin limit parsed.after.begun
  pub same : parsed.after.room ≡ limit

abbrev pub ExclusivesStayWithinTheirLimit : Type 0
ExclusivesStayWithinTheirLimit =
    (parsing : Parsing) (offset byte : ℕ) → IsWithin parsing → StaysWithin parsing.room (parse parsing offset byte)
