-- Words of which few bytes tell that no byte of seven bits is high: there is no reason to refuse them.
use Rattle.std.proofs.Common.{◌≡◌, ℕ, Bool, true, false, not, leb, nat_lt, List, [], ◌∷◌, refl}
use Rattle.std.specs.Prelude.{◌==◌, slice_index, if◌then◌else◌, None}
use Rattle.std.proofs.lemmas.Bool.{and_parts, eqb-true, lt-leb, ltb-true}
use Rattle.ump_grammar.specs.WordFields.{byte, opcode_of, type_of}
use Rattle.ump_grammar.specs.Reason.{has_high, reason}
use Rattle.encoded_packets.specs.Pairs.{begins_low_voice2}
use Rattle.encoded_packets.specs.Parts.{is_low_part}
use Rattle.encoded_packets.proofs.PartLaws.{fine_part, low_of}

pub fine_low_part : (words : List ℕ) → is_low_part words ≡ true → reason words ≡ None
fine_low_part words e = fine_part words (low_of words e)

none-high : (unread both : Bool) (b c : ℕ) → leb 128 b ≡ false → leb 128 c ≡ false
    → has_high (if unread then [] else if both then b ∷ c ∷ [] else b ∷ []) ≡ false
none-high true both b c low lower = refl
none-high false true b c low lower = rw (low, lower) refl
none-high false false b c low lower = rw low refl

negated : (b : Bool) → not b ≡ true → b ≡ false
negated true e = cc
negated false e = refl

pub fine_voice2 : (words : List ℕ) → begins_low_voice2 (slice_index words 0) ≡ true → reason words ≡ None
fine_voice2 words e =
    let l4 = and_parts _ (nat_lt (byte words 4) 128) e in
    let l3 = and_parts _ (nat_lt (byte words 3) 128) l4.0 in
    let begins = and_parts (type_of words == 4) (not (opcode_of words == 0xC)) l3.0 in
    let type : type_of words ≡ 4 = eqb-true (type_of words) 4 begins.0 in
    let other : (opcode_of words == 0xC) ≡ false = negated (opcode_of words == 0xC) begins.1 in
    let low3 : leb 128 (byte words 3) ≡ false = lt-leb 128 (byte words 3) (ltb-true (byte words 3) 128 l3.1) in
    let low4 : leb 128 (byte words 4) ≡ false = lt-leb 128 (byte words 4) (ltb-true (byte words 4) 128 l4.1) in
    rw (type, other, none-high _ _ (byte words 3) (byte words 4) low3 low4) refl
