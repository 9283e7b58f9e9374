-- What is read of the words of a packet.
use Rattle.std.proofs.Common.{ℕ, ◌≡◌, ◌≤◌, ◌-◌, ◌∙◌, ap, sym, List, [], ◌++◌, take, false, arith, nat_lt, ◌==◌, ◌||◌, slice_index}
use Rattle.std.proofs.lemmas.Bool.{or_from, le-ltb, ne_eqb}
use Rattle.voice_messages.specs.declared.voice2.Form.{Form}
use Rattle.voice_messages.specs.declared.voice2.Form.TheVariants as form
use Rattle.ump_grammar.specs.WordFields.{field, opcode_of, count_of}
use Rattle.ump_grammar.specs.Spelling.{form_number}
use Rattle.sysex8_streams.specs.Reading.{data_places, is_left_out, Spells8}

form-few : (f : Form) → form_number f ≤ 3
form-few form.Complete = omega arith
form-few form.Start = omega arith
form-few form.Continue = omega arith
form-few form.End = omega arith

kept-in : (words : List ℕ) (f : Form) → opcode_of words ≡ form_number f → (count_of words ≡ 0 → ⊥) → (count_of words ≡ 15 → ⊥)
    → is_left_out words ≡ false
kept-in words f is some most =
    or_from (nat_lt 3 (opcode_of words) || count_of words == 0) (count_of words == 15)
    (or_from (nat_lt 3 (opcode_of words)) (count_of words == 0) (le-ltb 3 (opcode_of words) (omega (arith, is, form-few f)))
    (ne_eqb (count_of words) 0 some))
    (ne_eqb (count_of words) 15 most)

pub part-is : (words seen again : List ℕ) (group : ℕ) (f : Form) (stream number count : ℕ) (bytes places empty : List ℕ) → seen ≡ words
    → again ≡ words →
    number ≡ field (slice_index seen 0) 20 4 → number ≡ form_number f → count ≡ field (slice_index seen 0) 16 4 → (count ≡ 0 → ⊥)
    → (count ≡ 15 → ⊥) →
    group ≡ field (slice_index seen 0) 24 4 → stream ≡ field (slice_index seen 0) 8 8 → places ≡ data_places again → empty ≡ []
    → bytes ≡ empty ++ take (count - 1) places →
    (is_left_out words ≡ false) × Spells8 (record { group = group; form = f; stream = stream; bytes = bytes }) words
part-is words seen again group f stream number count bytes places empty saw saw_again opcode numbered counted some most grouped named placed
    nothing taken =
    let opcode_is : number ≡ opcode_of words = opcode ∙ ap (λ ws. field (slice_index ws 0) 20 4) saw in
    let count_is : count ≡ count_of words = counted ∙ ap (λ ws. field (slice_index ws 0) 16 4) saw in (
      kept-in words f (sym opcode_is ∙ numbered) (λ e. some (count_is ∙ e)) (λ e. most (count_is ∙ e)),
      record {
        group = grouped ∙ ap (λ ws. field (slice_index ws 0) 24 4) saw;
        form = sym numbered ∙ opcode_is;
        stream = named ∙ ap (λ ws. field (slice_index ws 0) 8 8) saw;
        bytes =
            taken
            ∙ ap (λ e. e ++ take (count - 1) places) nothing
            ∙ ap (take (count - 1)) (placed ∙ ap data_places saw_again)
            ∙ ap (λ n. take (n - 1) (data_places words)) count_is;
      },
    )
