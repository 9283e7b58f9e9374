-- The lines of the texts of stream messages: the kind of the text, and its bytes.
use Rattle.std.specs.Prelude.{ℕ, ◌≤◌, List, [], ◌∷◌, ◌++◌, length, codes, Option, None, Some}
use Rattle.system_stream.specs.declared.joined.Joined.{Joined}
use Rattle.system_stream.specs.declared.joined.Joined.TheVariants as joined
use Rattle.system_stream.specs.declared.texts.TextKind.{TextKind}
use Rattle.system_stream.specs.declared.texts.TextKind.TheVariants as kinds
use Rattle.system_stream.specs.Parts.{Answer, held, whole, bad}
use Rattle.system_stream.specs.Texts.{limit_of}
use Rattle.text_lines.specs.Fields.{hex_bytes}

abbrev pub text_kind_word : TextKind → List ℕ
text_kind_word kinds.EndpointName = codes "endpoint-name"
text_kind_word kinds.ProductId = codes "product-id"
text_kind_word kinds.BlockName = codes "block-name"

-- the bytes with a space before them, or nothing if there are none
abbrev pub spaced_bytes : List ℕ → List ℕ
spaced_bytes [] = []
spaced_bytes (byte ∷ bytes) = codes " " ++ hex_bytes (byte ∷ bytes)

-- the line of a text that has ended; of one that is held there is none
abbrev pub joined_text : TextKind → Answer → Option (List ℕ)
joined_text kind held = None
joined_text kind (whole bytes) =
    Some (codes "text " ++ text_kind_word kind ++ spaced_bytes bytes ++ codes "\n")
joined_text kind bad = Some (codes "text " ++ text_kind_word kind ++ codes " bad" ++ codes "\n")

-- a text has no more bytes than its kind
abbrev pub IsWithinLimit : TextKind → Joined → Type 0
IsWithinLimit kind (joined.Whole bytes) = length bytes.now ≤ limit_of kind
IsWithinLimit kind _ = Unit {0}
