-- The fields of lines.
use Rattle.std.specs.Prelude.{ℕ, zero, suc, ◌+◌, ◌-◌, ◌/◌, ◌%◌, List, [], ◌∷◌, ◌++◌, codes}
use Rattle.std.specs.Prelude.{decimal, flat_map, if◌then◌else◌, nat_lt, Option, None, Some}

-- an upper case hexadecimal digit: 0 to 9 from 48 on, A to F from 65 on
abbrev pub hex_digit : ℕ → ℕ
hex_digit digit = if nat_lt digit 10 then 48 + digit else 65 + (digit - 10)

-- the last `width` hexadecimal digits of a number
unfoldable pub hex : ℕ → ℕ → List ℕ
hex zero number = []
hex (suc width) number = hex width (number / 16) ++ hex_digit (number % 16) ∷ []

-- each byte in two digits, with nothing between them
abbrev pub hex_bytes : List ℕ → List ℕ
hex_bytes bytes = flat_map (hex 2) bytes

-- each word in eight digits, with a space before it
abbrev pub hex_words : List ℕ → List ℕ
hex_words words = flat_map (λ word. codes " " ++ hex 8 word) words

-- ` name=value`, the value in decimal digits
abbrev pub field : List ℕ → ℕ → List ℕ
field name value = codes " " ++ name ++ codes "=" ++ decimal value

-- ` name=word`
abbrev pub word_field : List ℕ → List ℕ → List ℕ
word_field name word = codes " " ++ name ++ codes "=" ++ word

-- ` name=value`, the value in hexadecimal digits
abbrev pub hex_field : List ℕ → ℕ → ℕ → List ℕ
hex_field name width value = codes " " ++ name ++ codes "=" ++ hex width value

-- ` group=GROUP`, or nothing if there is no group
unfoldable pub group_field : Option ℕ → List ℕ
group_field None = []
group_field (Some group) = field (codes "group") group

-- the group, and ` channel=CHANNEL`
unfoldable pub group_and_channel : Option ℕ → ℕ → List ℕ
group_and_channel group channel = group_field group ++ field (codes "channel") channel
