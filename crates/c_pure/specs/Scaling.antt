-- Values between widths, each a number of bits (M2-115-U).
use Rattle.std.specs.Prelude.{◌≡◌, ◌==◌, ◌&&◌, ◌||◌, ◌^◌, nat_lt, ℕ, Bool, true, false, Option, Some, None, if◌then◌else◌}
use Rattle.bit_scaling.specs.Scaling.{down7, down14, release_down, up}
use Rattle.c_answers.specs.Numbers.{number_of}
use Rattle.c_answers.specs.declared.status.Status.{Status}
use Rattle.c_answers.specs.declared.status.Status.TheVariants as statuses

-- the widths of velocities, of values, and of values with two data bytes
abbrev pub is_scaling : ℕ → ℕ → Bool
is_scaling narrow wide = narrow == 7 && wide == 16 || narrow == 7 && wide == 32 || narrow == 14 && wide == 32

abbrev pub Leaves : Status → ℕ → ℕ → ℕ → Type 0
Leaves why old status new = (status ≡ number_of why) × (new ≡ old)

-- a value that has no more bits than its width is scaled
abbrev pub scales : Bool → ℕ → ℕ → ℕ → ℕ → Type 0
scales false scaled old status new = Leaves statuses.BadValue old status new
scales true scaled old status new = (status ≡ number_of statuses.Done) × (new ≡ scaled)

abbrev pub raises_value : ℕ → ℕ → ℕ → ℕ → ℕ → ℕ → Type 0
raises_value value narrow wide old status new = scales (nat_lt value (2 ^ narrow)) (up value narrow wide) old status new

abbrev pub raises : Bool → ℕ → ℕ → ℕ → ℕ → ℕ → ℕ → Type 0
raises false value narrow wide old status new = Leaves statuses.BadBits old status new
raises true value narrow wide old status new = raises_value value narrow wide old status new

abbrev pub IsRaised : ℕ → ℕ → ℕ → ℕ → ℕ → ℕ → Type 0
IsRaised value narrow wide old status new = raises (is_scaling narrow wide) value narrow wide old status new

-- the value lowered between two widths, if there is such a scaling
abbrev pub lowered : ℕ → ℕ → ℕ → Option ℕ
lowered value wide narrow =
    if wide == 16 && narrow == 7 then Some (release_down value)
    else (if wide == 32 && narrow == 7 then Some (down7 value)
    else (if wide == 32 && narrow == 14 then Some (down14 value) else None))

abbrev pub lowers : Option ℕ → ℕ → ℕ → ℕ → ℕ → ℕ → Type 0
lowers None value wide old status new = Leaves statuses.BadBits old status new
lowers (Some scaled) value wide old status new = scales (nat_lt value (2 ^ wide)) scaled old status new

abbrev pub IsLowered : ℕ → ℕ → ℕ → ℕ → ℕ → ℕ → Type 0
IsLowered value wide narrow old status new = lowers (lowered value wide narrow) value wide old status new
