-- The values of the keys of a TOML table.
use Rattle.std.specs.Prelude.{ℕ, ℤ, pos, negsuc, Bool, ◌==◌, ◌&&◌, ◌+◌, List, [], ◌∷◌, length, Option}
use Rattle.std.specs.Prelude.{Some, None, option_map, option_and_then, if◌then◌else◌, nat_le, is_some, Ok}
use Rattle.std.specs.List.{list_all}
use Rattle.std.specs.Str.{is_utf8}
use Rattle.toml.specs.Data.{Data, Items, no_items, item, Members, get_member, as_str, as_integer, as_bool, as_array, as_table}
use Rattle.function_blocks.specs.declared.rules.Rule.{Rule}
use Rattle.function_blocks.specs.Rules.{Read, holds, needs, and_then, in_front}

abbrev pub table_at : List ℕ → Members → Option Members
table_at key members = option_and_then as_table (get_member key members)

abbrev pub text_at : List ℕ → Members → Option (List ℕ)
text_at key members = option_and_then as_str (get_member key members)

abbrev pub flag_at : List ℕ → Members → Option Bool
flag_at key members = option_and_then as_bool (get_member key members)

abbrev pub array_at : List ℕ → Members → Option Items
array_at key members = option_and_then as_array (get_member key members)

-- a text of 1 to `most` bytes, in UTF-8, as every TOML string is
abbrev pub limited : ℕ → List ℕ → Option (List ℕ)
limited most text = if (nat_le 1 (length text) && nat_le (length text) most) && is_utf8 text then Some text else None

abbrev pub limited_text_at : ℕ → List ℕ → Members → Option (List ℕ)
limited_text_at most key members = option_and_then (limited most) (text_at key members)

-- a number from `least` to `most`
abbrev pub within : ℕ → ℕ → ℤ → Option ℕ
within least most (pos n) = if nat_le least n && nat_le n most then Some n else None
within least most (negsuc n) = None

abbrev pub number_in : ℕ → ℕ → Data → Option ℕ
number_in least most value = option_and_then (within least most) (as_integer value)

abbrev pub number_at : ℕ → ℕ → List ℕ → Members → Option ℕ
number_at least most key members = option_and_then (number_in least most) (get_member key members)

-- the numbers of a list, each from 0 to `most`
abbrev pub numbers_in : ℕ → Items → Option (List ℕ)
numbers_in most no_items = Some []
numbers_in most (item value values) = option_and_then (λ n. option_map (λ ns. n ∷ ns) (numbers_in most values)) (number_in 0 most value)

abbrev pub count_items : Items → ℕ
count_items no_items = 0
count_items (item value values) = count_items values + 1

-- a list of exactly this many numbers from 0 to `most`
abbrev pub exactly : ℕ → ℕ → Items → Option (List ℕ)
exactly count most values = if count_items values == count then numbers_in most values else None

abbrev pub numbers_at : ℕ → ℕ → List ℕ → Members → Option (List ℕ)
numbers_at count most key members = option_and_then (exactly count most) (array_at key members)

-- a list of at most this many numbers from 0 to `most`
abbrev pub at_most : ℕ → ℕ → Items → Option (List ℕ)
at_most count most values = if nat_le (count_items values) count then numbers_in most values else None

abbrev pub short_numbers_at : ℕ → ℕ → List ℕ → Members → Option (List ℕ)
short_numbers_at count most key members = option_and_then (at_most count most) (array_at key members)

-- the items as a list
abbrev pub list_of : Items → List Data
list_of no_items = []
list_of (item value values) = value ∷ list_of values

abbrev pub entries_in : Data → Option (List Data)
entries_in value = option_map list_of (as_array value)

abbrev pub is_table : Data → Bool
is_table value = is_some (as_table value)

-- at most this many tables
abbrev pub are_tables : ℕ → List Data → Bool
are_tables most values = nat_le (length values) most && list_all is_table values

-- The entries of a list of tables, which may be absent: the rule asks for at most this many.
abbrev pub entries_of : Rule → ℕ → Option Data → Read (List Data)
entries_of rule most None = Ok []
entries_of rule most (Some value) = needs rule (entries_in value) (λ values. holds rule (are_tables most values) (Ok values))

abbrev pub entries_at : Rule → ℕ → List ℕ → Members → Read (List Data)
entries_at rule most key members = entries_of rule most (get_member key members)

-- each entry is read in its turn, up to the first that breaks a rule
abbrev pub each : {A : Type 0} → Rule → (Members → Read A) → List Data → Read (List A)
each rule read [] = Ok []
each rule read (value ∷ values) = and_then (needs rule (as_table value) read) (λ x. in_front x (each rule read values))
