-- How many bytes the parts of an endpoint's lines take at most.
use Rattle.std.specs.Prelude.{ℕ, ◌*◌}

-- the word of a name of the command `endpoint`: `reserved-muid`
abbrev pub longest_name : ℕ
longest_name = 13

-- the ID of a profile: five bytes, each in two digits
abbrev pub id_digits : ℕ
id_digits = 5 * 2
