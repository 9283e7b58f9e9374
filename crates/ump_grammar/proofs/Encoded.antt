-- The words of an exclusive spell it.
use Rattle.std.proofs.Common.{◌≡◌, ℕ, true, false, leb, ltb, List, [], ◌∷◌, length, get_or, take, refl, sym, ◌∙◌}
use Rattle.std.proofs.lemmas.Bool.{le-ltb}
use Rattle.packet_words.specs.Words.{IsWhole}
use Rattle.voice_messages.specs.declared.voice2.Form.{Form}
use Rattle.voice_messages.specs.declared.voice2.Form.TheVariants as form
use Rattle.ump_grammar.specs.declared.packet.Packet.TheVariants as packet
use Rattle.ump_grammar.specs.WordFields.{type_of, group_of, opcode_of, count_of}
use Rattle.ump_grammar.specs.Ranges.{IsPacket}
use Rattle.ump_grammar.specs.Reading.{Encodes}
use Rattle.ump_grammar.specs.Reason.{has_bad_count, has_high, marked}
use Rattle.ump_grammar.specs.Spelling.{exclusive_places, form_number}
use Rattle.ump_grammar.proofs.Marked.{append-zeros, has_high-small, take-six}

-- there are four forms
form_number-le : (f : Form) → leb (form_number f) 3 ≡ true
form_number-le form.Complete = refl
form_number-le form.Start = refl
form_number-le form.Continue = refl
form_number-le form.End = refl

pub Encodes-exclusive : (group : ℕ) (f : Form) (bytes words : List ℕ) → IsPacket (packet.Exclusive group f bytes)
    → IsWhole words → type_of words ≡ 3 → group_of words ≡ group → opcode_of words ≡ form_number f → count_of words ≡ length bytes
    → exclusive_places words
    ≡ (get_or bytes 0 0 ∷ get_or bytes 1 0 ∷ get_or bytes 2 0 ∷ get_or bytes 3 0 ∷ get_or bytes 4 0 ∷ get_or bytes 5 0 ∷ [])
    → Encodes (packet.Exclusive group f bytes) words
Encodes-exclusive group f bytes words fits whole kind in_group opcode count places =
    let same : bytes ≡ take (count_of words) (exclusive_places words) = rw (count, places) (take-six bytes fits.1) in
    let form_is : leb (opcode_of words) 3 ≡ true = rw opcode (form_number-le f) in
    let few : ltb 6 (count_of words) ≡ false = rw count (le-ltb 6 (length bytes) fits.1) in
    let bad : has_bad_count words ≡ false = simp (kind, form_is, few) in
    let low : has_high (take (count_of words) (exclusive_places words)) ≡ false = rw (← same) (has_high-small bytes fits.2) in
    let high : has_high (marked words) ≡ false = simp (kind, form_is) low in
    record {
      spelled = record { whole = whole; row = (kind, sym in_group, (opcode, same)) };
      accepted = simp (bad, high);
      zeros = places ∙ append-zeros bytes fits.1;
    }
