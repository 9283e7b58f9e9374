-- Raising and lowering of values between 7, 14, 16 and 32 bits (M2-115-U, min-centre-max).
use Rattle.std.specs.Prelude.{ℕ, ◌≡◌, ◌+◌, ◌*◌, ◌-◌, ◌/◌, ◌^◌, ◌<◌, ◌⊎◌, nat_le, if◌then◌else◌, min, max}

-- the numbers of bits from which and to which values are raised
abbrev pub IsScaling : ℕ → ℕ → Type 0
IsScaling narrow wide = ((narrow ≡ 7) × (wide ≡ 16)) ⊎ ((narrow ≡ 7) × (wide ≡ 32)) ⊎ ((narrow ≡ 14) × (wide ≡ 32))

-- a value of `narrow` bits as one of `wide` bits: the least, the centre and the greatest stay the least, the
-- centre and the greatest
unfoldable pub up : ℕ → ℕ → ℕ → ℕ
up value narrow wide =
    if nat_le value (2 ^ (narrow - 1)) then value * 2 ^ (wide - narrow)
    else value * 2 ^ (wide - narrow)
    + min (2 ^ (wide - narrow) - 1) ((value - 2 ^ (narrow - 1)) * 2 ^ (wide - narrow) / (2 ^ (narrow - 1) - 1))

-- a value of 32 bits as one of 7
unfoldable pub down7 : ℕ → ℕ
down7 value = value / 2 ^ 25

-- a value of 32 bits as one of 14
unfoldable pub down14 : ℕ → ℕ
down14 value = value / 2 ^ 18

-- a release velocity of 16 bits as one of 7
unfoldable pub release_down : ℕ → ℕ
release_down velocity = velocity / 512

-- a velocity of 16 bits as one of 7 that is never 0, so that a note on stays one
unfoldable pub velocity_down : ℕ → ℕ
velocity_down velocity = max 1 (velocity / 512)

-- a greater value is raised to a greater one
abbrev pub IsIncreasing : ℕ → ℕ → Type 0
IsIncreasing narrow wide = (value greater : ℕ) → value < greater → greater < 2 ^ narrow → up value narrow wide < up greater narrow wide

-- the least value is raised to the least, the centre to the centre and the greatest to the greatest
abbrev pub KeepsEnds : ℕ → ℕ → Type 0
KeepsEnds narrow wide =
    (up 0 narrow wide ≡ 0) × (up (2 ^ (narrow - 1)) narrow wide ≡ 2 ^ (wide - 1)) × (up (2 ^ narrow - 1) narrow wide ≡ 2 ^ wide - 1)
