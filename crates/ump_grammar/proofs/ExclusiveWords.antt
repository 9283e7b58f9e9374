-- The words of each exclusive whose fields fit.
use Rattle.std.proofs.Common.{◌≡◌, ◌+◌, ◌*◌, ◌<◌, ◌≤◌, ◌/◌, ◌%◌, ℕ, zero, suc, List, [], ◌∷◌, length, get_or, ap, sym, arith}
use Rattle.std.specs.Prelude.{slice_index_or}
use Rattle.std.specs.List.{All}
use Rattle.std.proofs.lemmas.List.Elements.{All-head, All-tail}
use Rattle.packet_words.specs.Words.{word_counts, words_asked}
use Rattle.voice_messages.specs.declared.voice2.Form.{Form}
use Rattle.voice_messages.specs.declared.voice2.Form.TheVariants as form
use Rattle.ump_grammar.specs.declared.packet.Packet.TheVariants.{Exclusive}
use Rattle.ump_grammar.specs.Ranges.{IsPacket}
use Rattle.ump_grammar.specs.Reading.{Encodes}
use Rattle.ump_grammar.specs.Spelling.{form_number}
use Rattle.ump_grammar.proofs.Encoded.{Encodes-exclusive}

form_small : (f : Form) → form_number f < 16
form_small form.Complete = omega arith
form_small form.Start = omega arith
form_small form.Continue = omega arith
form_small form.End = omega arith

-- a data byte, or a zero after the last
place_small : (bytes : List ℕ) (i : ℕ) → All (λ b. b < 128) bytes → get_or bytes i 0 < 256
place_small [] i small = omega arith
place_small (b ∷ bytes) zero small = let low : b < 128 = All-head (λ x. x < 128) b bytes small in omega (arith, low)
place_small (b ∷ bytes) (suc i) small = place_small bytes i (All-tail (λ x. x < 128) b bytes small)

six : (a b c d e f a' b' c' d' e' f' : ℕ) → a ≡ a' → b ≡ b' → c ≡ c' → d ≡ d' → e ≡ e' → f ≡ f'
    → (a ∷ b ∷ c ∷ d ∷ e ∷ f ∷ []) ≡ (a' ∷ b' ∷ c' ∷ d' ∷ e' ∷ f' ∷ [])
six a b c d e f a' b' c' d' e' f' p q r s t u = cc

abbrev first_word : ℕ → ℕ → ℕ → ℕ → ℕ → ℕ
first_word group form count b c = 805306368 + group * 16777216 + form * 1048576 + count * 65536 + b * 256 + c

abbrev second_word : ℕ → ℕ → ℕ → ℕ → ℕ
second_word d e f g = d * 16777216 + e * 65536 + f * 256 + g

record HasFields (group form count b c : ℕ) : Type 0 where
  typed : first_word group form count b c / 268435456 ≡ 3
  kind : first_word group form count b c / 268435456 % 16 ≡ 3
  in_group : first_word group form count b c / 16777216 % 16 ≡ group
  opcode : first_word group form count b c / 1048576 % 16 ≡ form
  counted : first_word group form count b c / 65536 % 16 ≡ count
  third : first_word group form count b c / 256 % 256 ≡ b
  fourth : first_word group form count b c / 1 % 256 ≡ c

first_fields : (group form count b c : ℕ) → group < 16 → form < 16 → count ≤ 6 → b < 256 → c < 256 → HasFields group form count b c
first_fields group form count b c few small counted low last =
    record {
      typed = omega arith;
      kind = omega arith;
      in_group = omega arith;
      opcode = omega arith;
      counted = omega arith;
      third = omega arith;
      fourth = omega arith;
    }

second_fields : (d e f g : ℕ) → d < 256 → e < 256 → f < 256 → g < 256
    → (second_word d e f g / 16777216 % 256 ≡ d) × (second_word d e f g / 65536 % 256 ≡ e) × (second_word d e f g / 256 % 256 ≡ f)
    × (second_word d e f g / 1 % 256 ≡ g)
second_fields d e f g small low last least = (omega arith, omega arith, omega arith, omega arith)

pub exclusive_words : (group : ℕ) (f : Form) (bytes : List ℕ) → IsPacket (Exclusive group f bytes)
    → (words : List ℕ) × Encodes (Exclusive group f bytes) words
exclusive_words group f bytes fits =
    let at = λ (i : ℕ). get_or bytes i 0 in
    let small = λ (i : ℕ). place_small bytes i fits.2 in
    let first = first_fields group (form_number f) (length bytes) (at 0) (at 1) fits.0 (form_small f) fits.1 (small 0) (small 1) in
    let second = second_fields (at 2) (at 3) (at 4) (at 5) (small 2) (small 3) (small 4) (small 5) in
    let words : List ℕ = first_word group (form_number f) (length bytes) (at 0) (at 1) ∷ second_word (at 2) (at 3) (at 4) (at 5) ∷ [] in
    let whole : 2 ≡ words_asked (first_word group (form_number f) (length bytes) (at 0) (at 1)) =
    ap (λ (kind : ℕ). slice_index_or word_counts kind 4) (sym first.typed) in (
      words,
      Encodes-exclusive group f bytes words fits whole first.kind first.in_group first.opcode first.counted
          (six _ _ _ _ _ _ _ _ _ _ _ _ first.third first.fourth second.0 second.1 second.2 second.3),
    )
