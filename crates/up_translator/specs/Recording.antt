-- The state of the translator after the bytes of a stream, which are listed newest first, with controllers
-- paired or not.
use Rattle.std.specs.Prelude.{◌≡◌, ℕ, Bool, List, [], ◌∷◌, length}
use Rattle.midi1_bytes.specs.Parsing.{held_over}
use Rattle.midi_meaning.specs.Messages.{meaning1}
use Rattle.param_collector.specs.Holding.{IsHolding}
use Rattle.param_collector.specs.Keeps.{Keeps}
use Rattle.up_translator.specs.Held.{UpState, new_up, up_after}

pub record HoldsUp (paired : Bool) (room group : ℕ) (past : List ℕ) (up : UpState) : Type 0 where
  pub group_is : up.group ≡ group
  pub parsing_is : up.parsing ≡ held_over room past
  pub paired_is : up.holding.paired ≡ paired
  pub sizes : IsHolding up.holding
  pub keeps : Keeps up.holding (meaning1 paired past)

-- what a new translator holds after these bytes, each at its offset
abbrev pub up_over : Bool → ℕ → ℕ → List ℕ → UpState
up_over paired room group [] = new_up paired room group
up_over paired room group (byte ∷ past) = up_after (up_over paired room group past) (length past) byte
