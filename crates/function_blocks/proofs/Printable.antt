-- Printable characters of ASCII are UTF-8.
use Rattle.std.proofs.Common.{ℕ, ◌≡◌, ◌<◌, ◌≤◌, zero, suc, List, [], ◌∷◌, true, leb, arith, lit<}
use Rattle.std.specs.List.{list_all}
use Rattle.std.specs.Str.{IsAscii, IsUtf8}
use Rattle.std.proofs.lemmas.Bool.{leb-true}
use Rattle.std.proofs.lemmas.Str.{IsUtf8-from_ascii}
use Rattle.system_stream.specs.Texts.{is_printable}
use Rattle.function_blocks.proofs.FitLaws.{left, right}

byte-ascii : (b : ℕ) → is_printable b ≡ true → b < 128
byte-ascii b e =
    let most : b ≤ 126 = leb-true b 126 (right (leb 32 b) (leb b 126) e) in
    omega arith

ascii : (bs : List ℕ) → list_all is_printable bs ≡ true → IsAscii bs
ascii [] e i = lit< tt
ascii (b ∷ bs) e zero = byte-ascii b (left (is_printable b) (list_all is_printable bs) e)
ascii (b ∷ bs) e (suc i) = ascii bs (right (is_printable b) (list_all is_printable bs) e) i

pub utf8_of_printable : (bs : List ℕ) → list_all is_printable bs ≡ true → IsUtf8 bs
utf8_of_printable bs e = IsUtf8-from_ascii bs (ascii bs e)
