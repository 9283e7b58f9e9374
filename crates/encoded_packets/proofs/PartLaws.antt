-- A 7-bit exclusive in which no byte is high is a part of an exclusive with the bytes that it counts.
use Rattle.std.proofs.Common.{◌≡◌, ◌<◌, ◌≤◌, ◌/◌, ◌^◌, ℕ, zero, suc, Bool, true, false, ◌||◌, ◌&&◌, leb, List, [], ◌∷◌}
use Rattle.std.proofs.Common.{length, refl, sym, ap, ◌∙◌, subst, arith, lit≤, nat_le, nat_lt, slice_index_or, take}
use Rattle.std.specs.Prelude.{◌==◌, ◌≢◌, slice_index, Some, None, All}
use Rattle.std.proofs.lemmas.Bool.{and_parts, eqb-true, le-leb, le-ltb, leb-false, leb-true}
use Rattle.std.proofs.lemmas.Bool.{lt-leb, lt-ltb, ltb-false, ltb-true, or_parts, true≢false}
use Rattle.std.proofs.lemmas.List.{length-take-le, take_all}
use Rattle.std.specs.Coded.{Coded, Coded-set, codes}
use mathlib.Core.Logic.{∥∥₁_elim}
use Rattle.ump_grammar.specs.declared.packet.Bad.TheVariants.{BadCount, HighBit}
use Rattle.voice_messages.specs.declared.voice2.Form.{Form}
use Rattle.voice_messages.specs.declared.voice2.Form.TheVariants as form
use Rattle.packet_words.specs.Words.{IsWhole}
use Rattle.ump_grammar.specs.declared.packet.Packet.{Packet}
use Rattle.ump_grammar.specs.declared.packet.Packet.TheVariants as packet
use Rattle.ump_grammar.specs.WordFields.{byte, count_of, field, group_of, opcode_of, type_of}
use Rattle.ump_grammar.specs.Reason.{has_high, reason}
use Rattle.ump_grammar.specs.Spelling.{Spells, exclusive_places, form_number}
use Rattle.encoded_packets.specs.Encoded.{ThePacket}
use Rattle.encoded_packets.specs.Parts.{begins_part, continues_by_six, has_low_bytes, is_full_part, is_low_part, is_six_more}
use Rattle.encoded_packets.proofs.EncodedLaws.{is_whole, the_one}

-- the form with a number
abbrev pub form_at : ℕ → Form
form_at zero = form.Complete
form_at (suc zero) = form.Start
form_at (suc (suc zero)) = form.Continue
form_at (suc (suc (suc n))) = form.End

pub form-at-is : (number : ℕ) → number ≤ 3 → number ≡ form_number (form_at number)
form-at-is zero small = refl
form-at-is (suc zero) small = refl
form-at-is (suc (suc zero)) small = refl
form-at-is (suc (suc (suc zero))) small = refl
form-at-is (suc (suc (suc (suc n)))) small = absurd (omega (arith, small))

-- no byte of a front is high if none is
none-high : (bytes : List ℕ) (n : ℕ) → has_high bytes ≡ false → has_high (take n bytes) ≡ false
none-high bytes zero e = refl
none-high [] (suc n) e = refl
none-high (b ∷ bytes) (suc n) e = go (leb 128 b) e (λ rest. none-high bytes n rest)
  where
    go : (high : Bool) → (high || has_high bytes) ≡ false → (has_high bytes ≡ false → has_high (take n bytes) ≡ false)
        → (high || has_high (take n bytes)) ≡ false
    go true e others = cc
    go false e others = others e

-- what the test tells
pub record IsLow (words : List ℕ) : Type 0 where
  pub type : type_of words ≡ 3
  pub opcode : opcode_of words ≤ 3
  pub count : count_of words ≤ 6
  pub byte3 : byte words 3 < 128
  pub byte4 : byte words 4 < 128
  pub byte5 : byte words 5 < 128
  pub byte6 : byte words 6 < 128
  pub byte7 : byte words 7 < 128
  pub byte8 : byte words 8 < 128

below : (a b : ℕ) → nat_lt a b ≡ true → a < b
below a b e = ltb-true a b e

within : (a b : ℕ) → nat_le a b ≡ true → a ≤ b
within a b e = leb-true a b e

pub low_of : (words : List ℕ) → is_low_part words ≡ true → IsLow words
low_of words e =
    let both = and_parts (begins_part (slice_index words 0)) (has_low_bytes words) e in
    let b = and_parts (type_of words == 3 && nat_le (opcode_of words) 3) (nat_le (count_of words) 6) both.0 in
    let c = and_parts (type_of words == 3) (nat_le (opcode_of words) 3) b.0 in
    let l8 = and_parts _ (nat_lt (byte words 8) 128) both.1 in
    let l7 = and_parts _ (nat_lt (byte words 7) 128) l8.0 in
    let l6 = and_parts _ (nat_lt (byte words 6) 128) l7.0 in
    let l5 = and_parts _ (nat_lt (byte words 5) 128) l6.0 in
    let l4 = and_parts (nat_lt (byte words 3) 128) (nat_lt (byte words 4) 128) l5.0 in
    record {
      type = eqb-true (type_of words) 3 c.0;
      opcode = within (opcode_of words) 3 c.1;
      count = within (count_of words) 6 b.1;
      byte3 = below (byte words 3) 128 l4.0;
      byte4 = below (byte words 4) 128 l4.1;
      byte5 = below (byte words 5) 128 l5.1;
      byte6 = below (byte words 6) 128 l6.1;
      byte7 = below (byte words 7) 128 l7.1;
      byte8 = below (byte words 8) 128 l8.1;
    }

pub two_words : (words : List ℕ) → IsWhole words → slice_index words 0 < 2 ^ 32 → type_of words ≡ 3 → length words ≡ 2
two_words words whole small kind =
    let type : slice_index words 0 / 2 ^ 28 ≡ 3 = omega arith in
    whole ∙ rw type refl

pub data_in : (words : List ℕ) → IsLow words → All (λ b. b < 128) (exclusive_places words)
data_in words low = at
  where
    at : (k d : ℕ) → k < 6 → slice_index_or (exclusive_places words) k d < 128
    at zero d small = low.byte3
    at (suc zero) d small = low.byte4
    at (suc (suc zero)) d small = low.byte5
    at (suc (suc (suc zero))) d small = low.byte6
    at (suc (suc (suc (suc zero)))) d small = low.byte7
    at (suc (suc (suc (suc (suc zero))))) d small = low.byte8
    at (suc (suc (suc (suc (suc (suc k)))))) d small = absurd (omega (arith, small))

none-high-in : (words : List ℕ) → IsLow words → has_high (exclusive_places words) ≡ false
none-high-in words low =
    rw (
      lt-leb 128 (byte words 3) low.byte3,
      lt-leb 128 (byte words 4) low.byte4,
      lt-leb 128 (byte words 5) low.byte5,
      lt-leb 128 (byte words 6) low.byte6,
      lt-leb 128 (byte words 7) low.byte7,
      lt-leb 128 (byte words 8) low.byte8,
    )
    refl

pub fine_part : (words : List ℕ) → IsLow words → reason words ≡ None
fine_part words low =
    let opcode : nat_le (opcode_of words) 3 ≡ true = le-leb (opcode_of words) 3 low.opcode in
    let count : nat_lt 6 (count_of words) ≡ false = le-ltb 6 (count_of words) low.count in
    let high : has_high (take (count_of words) (exclusive_places words)) ≡ false =
    none-high (exclusive_places words) (count_of words) (none-high-in words low) in
    rw (low.type, opcode, count, high) refl

-- it is the packet with the fields of the words
pub is_part : (words : List ℕ) (t : ThePacket words) (group count : ℕ) (f : Form) (bytes : List ℕ) → IsLow words → group ≡ group_of words
    → opcode_of words ≡ form_number f
    → count ≡ count_of words → bytes ≡ exclusive_places words → t.0 ≡ packet.Exclusive group f (take count bytes)
is_part words t group count f bytes low same_group same_form same_count same_bytes =
    let taken : take count bytes ≡ take (count_of words) (exclusive_places words) =
    ap (λ n. take n bytes) same_count ∙ ap (λ places. take (count_of words) places) same_bytes in
    the_one words t (packet.Exclusive group f (take count bytes))
    (record { whole = is_whole words t; row = (low.type, same_group, (same_form, taken)) })

-- ---- a full part has no high byte

form-small : (f : Form) → form_number f ≤ 3
form-small form.Complete = lit≤ tt
form-small form.Start = lit≤ tt
form-small form.Continue = lit≤ tt
form-small form.End = lit≤ tt

-- words that pass the test
low_is : (words : List ℕ) → IsLow words → is_low_part words ≡ true
low_is words low =
    rw (
      low.type,
      le-leb (opcode_of words) 3 low.opcode,
      le-leb (count_of words) 6 low.count,
      lt-ltb (byte words 3) 128 low.byte3,
      lt-ltb (byte words 4) 128 low.byte4,
      lt-ltb (byte words 5) 128 low.byte5,
      lt-ltb (byte words 6) 128 low.byte6,
      lt-ltb (byte words 7) 128 low.byte7,
      lt-ltb (byte words 8) 128 low.byte8,
    ) refl

-- there is no reason to refuse an exclusive: it counts at most six bytes, of which none is high
counted : (words : List ℕ) → reason words ≡ None → type_of words ≡ 3 → opcode_of words ≤ 3
    → (count_of words ≤ 6) × (has_high (take (count_of words) (exclusive_places words)) ≡ false)
counted words fine type few = go (nat_lt 6 (count_of words)) (has_high (take (count_of words) (exclusive_places words))) refl refl
  where
    opcode : nat_le (opcode_of words) 3 ≡ true
    opcode = le-leb (opcode_of words) 3 few

    go : (bad high : Bool) → nat_lt 6 (count_of words) ≡ bad → has_high (take (count_of words) (exclusive_places words)) ≡ high
        → (count_of words ≤ 6) × (has_high (take (count_of words) (exclusive_places words)) ≡ false)
    go true high many is = absurd (let told : reason words ≡ Some BadCount = rw (type, opcode, many) refl in let other = fine in cc)
    go false true some is = absurd (let told : reason words ≡ Some HighBit = rw (type, opcode, some, is) refl in let other = fine in cc)
    go false false some is = (ltb-false 6 (count_of words) some, is)

low-bytes : (words : List ℕ) → type_of words ≡ 3 → opcode_of words ≤ 3 → count_of words ≤ 6 → has_high (exclusive_places words) ≡ false
    → IsLow words
low-bytes words type opcode count none =
    let h3 = or_parts (leb 128 (byte words 3)) _ none in
    let h4 = or_parts (leb 128 (byte words 4)) _ h3.1 in
    let h5 = or_parts (leb 128 (byte words 5)) _ h4.1 in
    let h6 = or_parts (leb 128 (byte words 6)) _ h5.1 in
    let h7 = or_parts (leb 128 (byte words 7)) _ h6.1 in
    let h8 = or_parts (leb 128 (byte words 8)) _ h7.1 in
    record {
      type = type;
      opcode = opcode;
      count = count;
      byte3 = leb-false 128 (byte words 3) h3.0;
      byte4 = leb-false 128 (byte words 4) h4.0;
      byte5 = leb-false 128 (byte words 5) h5.0;
      byte6 = leb-false 128 (byte words 6) h6.0;
      byte7 = leb-false 128 (byte words 7) h7.0;
      byte8 = leb-false 128 (byte words 8) h8.0;
    }

full_is_low : (words : List ℕ) (group : ℕ) (f : Form) (bytes : List ℕ) → Spells (packet.Exclusive group f bytes) words → reason words ≡ None
    → length bytes ≡ 6 → is_low_part words ≡ true
full_is_low words group f bytes spells fine full =
    let few : opcode_of words ≤ 3 = let Few : ℕ → Type 0 = λ n. n ≤ 3 in subst Few (sym spells.row.2.0) (form-small f) in
    let told = counted words fine spells.row.0 few in
    let size : length (take (count_of words) (exclusive_places words)) ≡ 6 = ap length (sym spells.row.2.1) ∙ full in
    let count : 6 ≤ count_of words = omega (arith, size, length-take-le (count_of words) (exclusive_places words) told.0) in
    let whole : take (count_of words) (exclusive_places words) ≡ exclusive_places words =
    take_all (count_of words) (exclusive_places words) count in
    low_is words (low-bytes words spells.row.0 few told.0 (ap has_high (sym whole) ∙ told.1))

bool-code : Coded Bool
bool-code = hlevel codes

-- words that have a high byte encode no full part
pub not_full : (words : List ℕ) (t : ThePacket words) → is_low_part words ≡ false → is_full_part t.0 ≡ false
not_full words t none = ∥∥₁_elim t.1 (Coded-set bool-code (is_full_part t.0) false) (λ a. by_packet t.0 a.spelled a.fine)
  where
    by_size : (group : ℕ) (f : Form) (bytes : List ℕ) (full : Bool) → (length bytes == 6) ≡ full
        → Spells (packet.Exclusive group f bytes) words → reason words ≡ None → full ≡ false
    by_size group f bytes false e spells fine = refl
    by_size group f bytes true e spells fine =
        absurd (true≢false (sym (full_is_low words group f bytes spells fine (eqb-true (length bytes) 6 e)) ∙ none))

    by_packet : (p : Packet) → Spells p words → reason words ≡ None → is_full_part p ≡ false
    by_packet (packet.Exclusive group f bytes) spells fine = by_size group f bytes (length bytes == 6) refl spells fine
    by_packet _ spells fine = refl

-- ---- six more bytes

-- the opcode and the count are the two halves of a byte
six_fields : (words : List ℕ) → field (slice_index words 0) 16 8 ≡ 0x26 → (opcode_of words ≡ 2) × (count_of words ≡ 6)
six_fields words e = (omega (arith, e), omega (arith, e))

fields_six : (words : List ℕ) → opcode_of words ≡ 2 → count_of words ≡ 6 → field (slice_index words 0) 16 8 ≡ 0x26
fields_six words opcode count = omega (arith, opcode, count)

pub is_six : (words : List ℕ) (t : ThePacket words) (group : ℕ) (bytes : List ℕ) → IsLow words
    → field (slice_index words 0) 16 8 ≡ 0x26 → group ≡ group_of words → bytes ≡ exclusive_places words
    → t.0 ≡ packet.Exclusive group form.Continue bytes
is_six words t group bytes low six same_group same_bytes =
    let fields = six_fields words six in
    is_part words t group 6 form.Continue bytes low same_group fields.0 (sym fields.1) same_bytes
    ∙ ap (packet.Exclusive group form.Continue) (ap (take 6) same_bytes ∙ sym same_bytes)

not_six_more : (f : Form) (bytes : List ℕ) → (length bytes == 6) ≡ false → is_six_more f bytes ≡ false
not_six_more form.Complete bytes e = refl
not_six_more form.Start bytes e = refl
not_six_more form.Continue bytes e = e
not_six_more form.End bytes e = refl

-- what isn't full doesn't continue an exclusive by six bytes
pub not_continued : (p : Packet) → is_full_part p ≡ false → continues_by_six p ≡ false
not_continued (packet.Exclusive group f bytes) e = not_six_more f bytes e
not_continued _ e = refl

pub not_six : (words : List ℕ) (t : ThePacket words) → IsLow words → field (slice_index words 0) 16 8 ≢ 0x26
    → continues_by_six t.0 ≡ false
not_six words t low other = ∥∥₁_elim t.1 (Coded-set bool-code (continues_by_six t.0) false) (λ a. by_packet t.0 a.spelled)
  where
    by_size : (bytes : List ℕ) (full : Bool) → (length bytes == 6) ≡ full → opcode_of words ≡ 2
        → bytes ≡ take (count_of words) (exclusive_places words) → full ≡ false
    by_size bytes false e opcode spelled = refl
    by_size bytes true e opcode spelled =
        let size : length (take (count_of words) (exclusive_places words)) ≡ 6 = ap length (sym spelled) ∙ eqb-true (length bytes) 6 e in
        let count : 6 ≤ count_of words = omega (arith, size, length-take-le (count_of words) (exclusive_places words) low.count) in
        absurd (other (fields_six words opcode (omega (arith, count, low.count))))

    by_form : (f : Form) (bytes : List ℕ) → opcode_of words ≡ form_number f
        → bytes ≡ take (count_of words) (exclusive_places words) → is_six_more f bytes ≡ false
    by_form form.Complete bytes opcode spelled = refl
    by_form form.Start bytes opcode spelled = refl
    by_form form.Continue bytes opcode spelled = by_size bytes (length bytes == 6) refl opcode spelled
    by_form form.End bytes opcode spelled = refl

    by_packet : (p : Packet) → Spells p words → continues_by_six p ≡ false
    by_packet (packet.Exclusive group f bytes) spells = by_form f bytes spells.row.2.0 spells.row.2.1
    by_packet _ spells = refl
