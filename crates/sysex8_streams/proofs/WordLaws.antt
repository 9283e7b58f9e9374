-- The places of a packet for data, and the bytes that it has.
use Rattle.std.proofs.Common.{◌≡◌, ◌≤◌, ◌+◌, ◌-◌, ◌∙◌, ℕ, List, [], ◌∷◌, take, drop, length, ap, sym, refl, arith, false}
use Rattle.std.specs.Prelude.{slice_index, replicate, nat_lt, ◌==◌, ◌||◌}
use Rattle.std.proofs.lemmas.Bool.{or_from, le-ltb, ne_eqb}
use Rattle.voice_messages.specs.declared.voice2.Form.{Form}
use Rattle.voice_messages.specs.declared.voice2.Form.TheVariants as form
use Rattle.ump_grammar.specs.WordFields.{type_of, group_of, opcode_of, count_of}
use Rattle.ump_grammar.specs.Spelling.{form_number}
use Rattle.sysex8_streams.specs.Reading.{data_places, is_left_out}
use Rattle.sysex8_streams.specs.declared.part8.Part8.{Part8}
use Rattle.sysex8_streams.specs.Cut8.{stream_of, Encodes8}

-- the bytes, and zeros up to thirteen
abbrev pub places_of : List ℕ → List ℕ
places_of bytes =
    slice_index bytes 0 ∷ slice_index bytes 1 ∷ slice_index bytes 2 ∷ slice_index bytes 3 ∷ slice_index bytes 4 ∷ slice_index bytes 5
    ∷ slice_index bytes 6 ∷ slice_index bytes 7 ∷ slice_index bytes 8 ∷ slice_index bytes 9 ∷ slice_index bytes 10
    ∷ slice_index bytes 11 ∷ slice_index bytes 12 ∷ []

record ArePlaced (bytes : List ℕ) : Type 0 where
  front : bytes ≡ take (length bytes) (places_of bytes)
  zeros : drop (length bytes) (places_of bytes) ≡ replicate (13 - length bytes) 0

are-placed : (bytes : List ℕ) → length bytes ≤ 13 → ArePlaced bytes
are-placed [] few = record { front = refl; zeros = refl }
are-placed (a ∷ []) few = record { front = refl; zeros = refl }
are-placed (a ∷ b ∷ []) few = record { front = refl; zeros = refl }
are-placed (a ∷ b ∷ c ∷ []) few = record { front = refl; zeros = refl }
are-placed (a ∷ b ∷ c ∷ d ∷ []) few = record { front = refl; zeros = refl }
are-placed (a ∷ b ∷ c ∷ d ∷ e ∷ []) few = record { front = refl; zeros = refl }
are-placed (a ∷ b ∷ c ∷ d ∷ e ∷ f ∷ []) few = record { front = refl; zeros = refl }
are-placed (a ∷ b ∷ c ∷ d ∷ e ∷ f ∷ g ∷ []) few = record { front = refl; zeros = refl }
are-placed (a ∷ b ∷ c ∷ d ∷ e ∷ f ∷ g ∷ h ∷ []) few = record { front = refl; zeros = refl }
are-placed (a ∷ b ∷ c ∷ d ∷ e ∷ f ∷ g ∷ h ∷ i ∷ []) few = record { front = refl; zeros = refl }
are-placed (a ∷ b ∷ c ∷ d ∷ e ∷ f ∷ g ∷ h ∷ i ∷ j ∷ []) few = record { front = refl; zeros = refl }
are-placed (a ∷ b ∷ c ∷ d ∷ e ∷ f ∷ g ∷ h ∷ i ∷ j ∷ k ∷ []) few = record { front = refl; zeros = refl }
are-placed (a ∷ b ∷ c ∷ d ∷ e ∷ f ∷ g ∷ h ∷ i ∷ j ∷ k ∷ l ∷ []) few = record { front = refl; zeros = refl }
are-placed (a ∷ b ∷ c ∷ d ∷ e ∷ f ∷ g ∷ h ∷ i ∷ j ∷ k ∷ l ∷ m ∷ []) few = record { front = refl; zeros = refl }
are-placed (a ∷ b ∷ c ∷ d ∷ e ∷ f ∷ g ∷ h ∷ i ∷ j ∷ k ∷ l ∷ m ∷ n ∷ more) few = absurd (omega (arith, few))

form-few : (f : Form) → form_number f ≤ 3
form-few form.Complete = omega arith
form-few form.Start = omega arith
form-few form.Continue = omega arith
form-few form.End = omega arith

kept-in : (words : List ℕ) (f : Form) (count : ℕ) → opcode_of words ≡ form_number f → count_of words ≡ count + 1 → count ≤ 13
    → is_left_out words ≡ false
kept-in words f count is counted few =
    or_from (nat_lt 3 (opcode_of words) || count_of words == 0) (count_of words == 15)
    (or_from (nat_lt 3 (opcode_of words)) (count_of words == 0) (le-ltb 3 (opcode_of words) (omega (arith, is, form-few f)))
    (ne_eqb (count_of words) 0 (λ none. omega (arith, none, counted))))
    (ne_eqb (count_of words) 15 (λ most. omega (arith, most, counted, few)))

encodes : (part : Part8) (words : List ℕ) → length part.bytes ≤ 13 → length words ≡ 4 → type_of words ≡ 5 → group_of words ≡ part.group →
    opcode_of words ≡ form_number part.form → count_of words ≡ length part.bytes + 1 → stream_of words ≡ part.stream →
    data_places words ≡ places_of part.bytes → Encodes8 part words
encodes part words few four kind in_group opcode counted named placed =
    let bytes : List ℕ = part.bytes in
    let one_less : count_of words - 1 ≡ length bytes = omega (arith, counted) in
    record {
      four = four;
      kind = kind;
      kept = kept-in words part.form (length bytes) opcode counted few;
      spelled = record {
        group = sym in_group;
        form = sym opcode;
        stream = sym named;
        bytes = (are-placed bytes few).front ∙ ap (take (length bytes)) (sym placed) ∙ ap (λ n. take n (data_places words)) (sym one_less);
      };
      zeros = ap (drop (length bytes)) placed ∙ (are-placed bytes few).zeros;
    }

-- the same of the bytes as they were read
pub encodes-seen : (part : Part8) (words seen : List ℕ) → seen ≡ part.bytes → length part.bytes ≤ 13 → length words ≡ 4
    → type_of words ≡ 5 →
    group_of words ≡ part.group → opcode_of words ≡ form_number part.form → count_of words ≡ length seen + 1
    → stream_of words ≡ part.stream →
    data_places words ≡ places_of seen → Encodes8 part words
encodes-seen part words seen saw few four kind in_group opcode counted named placed =
    encodes part words few four kind in_group opcode (counted ∙ ap (λ bs. length bs + 1) saw) named (placed ∙ ap places_of saw)
