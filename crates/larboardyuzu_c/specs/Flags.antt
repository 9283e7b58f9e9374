-- The flags of the calls that open a translator. An argument is the sum of the flags that are set.
use Rattle.std.specs.Prelude.{◌==◌, ◌||◌, ◌/◌, ◌%◌, nat_le, ℕ, Bool}

abbrev pub compact_flag : ℕ
compact_flag = 1

abbrev pub paired_flag : ℕ
paired_flag = 2

abbrev pub has_compact : ℕ → Bool
has_compact flags = flags / compact_flag % 2 == 1

abbrev pub has_paired : ℕ → Bool
has_paired flags = flags / paired_flag % 2 == 1

-- no flag is set except these two
abbrev pub are_of_down : ℕ → Bool
are_of_down flags = nat_le flags 3

-- no flag is set except that of paired controllers
abbrev pub are_of_up : ℕ → Bool
are_of_up flags = flags == 0 || flags == paired_flag
