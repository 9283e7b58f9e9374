-- The numbers of a command line: 1 to 10 decimal digits, in a range.
use Rattle.std.specs.Prelude.{◌&&◌, ◌≤◌, ℕ, Bool, length, Option, Some, None, if◌then◌else◌, nat_le}
use Rattle.std.specs.List.{list_all}
use Rattle.std.specs.Str.Parse.{digits_value}
use Rattle.std.specs.Char.{is_ascii_digit}
use Rattle.clap.specs.Walk.{Text}

-- one to ten decimal digits
abbrev pub is_number : Text → Bool
is_number t = nat_le 1 (length t) && (nat_le (length t) 10 && list_all is_ascii_digit t)

abbrev pub within : ℕ → ℕ → ℕ → Option ℕ
within least most n = if nat_le least n && nat_le n most then Some n else None

-- the number of a text, from the least to the most
abbrev pub number_of : ℕ → ℕ → Text → Option ℕ
number_of least most t = if is_number t then within least most (digits_value 10 t) else None

-- the same of an option, which may be left out
abbrev pub number_or : ℕ → ℕ → ℕ → Option Text → Option ℕ
number_or least most absent None = Some absent
number_or least most absent (Some t) = number_of least most t

-- the room for an exclusive: 6 to 1,048,576, at first the greatest
abbrev pub room_in : Option Text → Option ℕ
room_in = number_or 6 1048576 1048576

-- a group: 0 to 15, at first 0
abbrev pub group_in : Option Text → Option ℕ
group_in = number_or 0 15 0

-- a cable: 0 to 15, at first 0
abbrev pub cable_in : Option Text → Option ℕ
cable_in = number_or 0 15 0

-- the room for an exclusive, 6 to 1,048,576 bytes
abbrev pub IsRoom : ℕ → Type 0
IsRoom n = (6 ≤ n) × (n ≤ 1048576)
