-- The running status as one number.
use Rattle.std.specs.Prelude.{ℕ, ◌==◌, if◌then◌else◌, Option, Some, None}

-- a status byte, or 256 for none
abbrev pub running_by : ℕ → Option ℕ
running_by number = if number == 256 then None else Some number
