-- What a handle holds after a call.
use Rattle.std.specs.Prelude.{◌≡◌, ◌&&◌, nat_le, ℕ, Bool, true, false, Option, Some, None, MatchOption}
use Rattle.down_translator.specs.Held.{DownState}
use Rattle.up_translator.specs.Held.{UpState}
use Rattle.c_answers.specs.Numbers.{number_of}
use Rattle.c_answers.specs.declared.status.Status.TheVariants as statuses
use Rattle.c_handles.specs.declared.engine.Engine.{Engine}
use Rattle.c_handles.specs.declared.engine.Engine.TheVariants as engine

-- the handle holds a translator down of which `IsSo` holds
abbrev pub HoldsDown : Option Engine → (DownState → Type 0) → Type 0
HoldsDown (Some (engine.Down state)) IsSo = IsSo state
HoldsDown _ IsSo = ⊥

-- the same of a translator up
abbrev pub HoldsUp : Option Engine → (UpState → Type 0) → Type 0
HoldsUp (Some (engine.Up state)) IsSo = IsSo state
HoldsUp _ IsSo = ⊥

-- ---- after it is opened

abbrev pub is_room : ℕ → Bool
is_room room = nat_le 6 room && nat_le room 1048576

-- An open handle stays as it is. A closed one then holds `fresh`, or nothing if there isn't enough memory.
abbrev pub Opens : Option Engine → Engine → ℕ → Option Engine → Type 0
Opens (Some held) fresh status after = (status ≡ number_of statuses.AlreadyOpen) × (after ≡ Some held)
Opens None fresh status after =
    MatchOption after (status ≡ number_of statuses.NoMemory) (λ held. (held ≡ fresh) × (status ≡ number_of statuses.Done))

-- the handle stays as it is if an argument is out of range
abbrev pub opens_in_range : Bool → Option Engine → Engine → ℕ → Option Engine → Type 0
opens_in_range false before fresh status after = (status ≡ number_of statuses.BadRoom) × (after ≡ before)
opens_in_range true before fresh status after = Opens before fresh status after
