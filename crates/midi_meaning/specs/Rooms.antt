-- When no exclusive exceeds its limit.
use Rattle.std.specs.Prelude.{◌≡◌, ℕ, ◌≤◌, List, [], ◌∷◌, length, false, Some}
use Rattle.sysex_groups.specs.Exclusives.{Part, passes_room}

-- No part exceeds the limit after those before it, and each fits it alone. The parts are newest first.
abbrev pub AreWithinRoom : ℕ → List Part → Type 0
AreWithinRoom room [] = Unit {0}
AreWithinRoom room (part ∷ past) =
    (passes_room (Some room) past part ≡ false) × (length part.bytes ≤ room) × AreWithinRoom room past
