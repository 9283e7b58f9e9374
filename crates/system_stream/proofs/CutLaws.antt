-- A text that is cut into packets is joined again.
use Rattle.std.proofs.Common.{lit<, ℕ, ◌≡◌, ◌≢◌, ◌<◌, ◌≤◌, ◌+◌, ◌*◌, ◌-◌, ◌∙◌, zero, suc, ap, sym, refl, List, [], ◌∷◌}
use Rattle.std.proofs.Common.{◌++◌, length, take, drop, reverse, replicate, get_or, Option, Some, true, cond, arith}
use Rattle.std.proofs.Common.{◌==◌, leb, length-take, length-drop, length-append, append-nil, append_assoc, inl, inr}
use Rattle.std.proofs.lemmas.Bool.{le-leb, eq-eqb, ne_eqb, cases_eq}
use Rattle.std.proofs.lemmas.Grind.{div_ceil_times}
use Rattle.std.proofs.lemmas.List.{take_all, take-append-drop, reverse-append, reverse-reverse, length-replicate}
use Rattle.std.proofs.Math.Seq.{drop-cons}
use Rattle.std.proofs.lemmas.List.{drop_all}
use Rattle.std.specs.Fork.{slice_chunk}
use Rattle.std.specs.Option.{option_and_then}
use Rattle.voice_messages.specs.declared.voice2.Form.{Form}
use Rattle.voice_messages.specs.declared.voice2.Form.TheVariants as form
use Rattle.voice_messages.proofs.FormLaws.{form_at-only, form_at-first, form_at-last, form_at-inner, chunk-joins}
use Rattle.system_stream.specs.declared.texts.TextKind.{TextKind}
use Rattle.system_stream.specs.declared.texts.TextKind.TheVariants as kind
use Rattle.system_stream.specs.Texts.{limit_of, part_size, without_leading_zeros, without_trailing_zeros, is_text}
use Rattle.system_stream.specs.Cut.{part_count, form_at, filled, part_bytes, sent_part, sent}
use Rattle.system_stream.specs.Parts.{Part, Answer, answer_at, finished, held, whole, bad}
use Rattle.system_stream.specs.Joining.{OpenText, joined_with, limited, answer_of, open_after, opened_text}
use Rattle.system_stream.proofs.PartLaws.{opened-more, answer-more}

-- zeros at the end are lost
one-zero : (bytes : List ℕ) → without_trailing_zeros (bytes ++ 0 ∷ []) ≡ without_trailing_zeros bytes
one-zero bytes = ap (λ backward. reverse (without_leading_zeros backward)) (reverse-append bytes (0 ∷ []))

zeros : (count : ℕ) (bytes : List ℕ) → without_trailing_zeros (bytes ++ replicate count 0) ≡ without_trailing_zeros bytes
zeros zero bytes = ap without_trailing_zeros (append-nil bytes)
zeros (suc count) bytes =
    ap without_trailing_zeros (sym (append_assoc bytes (0 ∷ []) (replicate count 0)))
    ∙ zeros count (bytes ++ 0 ∷ [])
    ∙ one-zero bytes

-- all before the last byte, and the last byte
ending : (bytes : List ℕ) → 0 < length bytes → bytes ≡ take (length bytes - 1) bytes ++ get_or bytes (length bytes - 1) 0 ∷ []
ending bytes some =
    let last : ℕ = length bytes - 1 in
    sym (take-append-drop last bytes)
    ∙ ap (λ rest. take last bytes ++ rest)
    (drop-cons bytes last 0 (omega arith) ∙ ap (λ rest. get_or bytes last 0 ∷ rest) (drop_all (suc last) bytes (omega arith)))

-- bytes that don't end in a zero lose nothing
no-zero : (bytes : List ℕ) → 0 < length bytes → get_or bytes (length bytes - 1) 0 ≢ 0 → without_trailing_zeros bytes ≡ bytes
no-zero bytes some last =
    let front : List ℕ = take (length bytes - 1) bytes in
    let byte : ℕ = get_or bytes (length bytes - 1) 0 in
    let turned : reverse bytes ≡ byte ∷ reverse front = ap reverse (ending bytes some) ∙ reverse-append front (byte ∷ []) in
    let kept : without_leading_zeros (byte ∷ reverse front) ≡ byte ∷ reverse front = rw (ne_eqb byte 0 last) refl in
    ap (λ backward. reverse (without_leading_zeros backward)) turned
    ∙ ap reverse (kept ∙ sym turned)
    ∙ reverse-reverse bytes

-- each packet but the last is full
filled-full : (size : ℕ) (bytes : List ℕ) → length bytes ≡ size → filled size bytes ≡ bytes
filled-full size bytes full =
    let none : size - length bytes ≡ 0 = omega arith in
    ap (λ n. bytes ++ replicate n 0) none ∙ append-nil bytes

chunk-full : (size : ℕ) (text : List ℕ) (k : ℕ) → (k + 1) * size ≤ length text → length (slice_chunk text size k) ≡ size
chunk-full size text k within =
    let more : k * size + size ≡ (k + 1) * size = grind arith in
    omega (arith, length-take size (drop (k * size) text), length-drop (k * size) text, more)

-- none of them exceeds the limit
size-some : (kind : TextKind) → 0 < part_size kind
size-some kind.EndpointName = lit< tt
size-some kind.ProductId = lit< tt
size-some kind.BlockName = lit< tt

whole-packets : (kind : TextKind) (n count : ℕ) → n ≤ limit_of kind → count * part_size kind < n + part_size kind
    → count * part_size kind ≤ limit_of kind
whole-packets kind.EndpointName n count fits below = omega arith
whole-packets kind.ProductId n count fits below = omega arith
whole-packets kind.BlockName n count fits below = omega arith

front-fits : (kind : TextKind) (text : List ℕ) (n : ℕ) → length text ≤ limit_of kind → leb (length (take n text)) (limit_of kind) ≡ true
front-fits kind text n fits = le-leb (length (take n text)) (limit_of kind) (omega (arith, length-take n text))

-- a part of these fields
abbrev part_of : Form → ℕ → List ℕ → Part
part_of f block bytes = record { form = f; block = block; bytes = bytes }

-- a packet that isn't the last
inner-part : (kind : TextKind) (block : ℕ) (text : List ℕ) (k : ℕ) (f : Form) → k + 1 < part_count kind text
    → form_at (part_count kind text) k ≡ f →
    sent_part kind block text k ≡ part_of f block (slice_chunk text (part_size kind) k)
inner-part kind block text k f more form_is =
    let size : ℕ = part_size kind in
    let count : ℕ = part_count kind text in
    let bounds : (length text ≤ count * size) × (count * size < length text + size) = div_ceil_times (length text) size (size-some kind) in
    let below : (k + 2) * size ≤ count * size = grind arith in
    let two : (k + 2) * size ≡ (k + 1) * size + size = grind arith in
    let bytes_are : part_bytes size text k ≡ slice_chunk text size k =
    filled-full size (slice_chunk text size k) (chunk-full size text k (omega arith)) in
    λ i. record { form = form_is i; block = block; bytes = bytes_are i }

-- what is open after all packets up to k, which isn't the last
sent-opened : (kind : TextKind) (block : ℕ) (text : List ℕ) (past : List Part) → length text ≤ limit_of kind → (k : ℕ)
    → k + 1 < part_count kind text →
    opened_text kind (sent kind block text past (suc k)) ≡ Some (record { block = block; bytes = take ((k + 1) * part_size kind) text })
sent-opened kind block text past fits zero more =
    let size : ℕ = part_size kind in
    let chunk : List ℕ = slice_chunk text size 0 in
    let none : 0 * size ≡ 0 = omega arith in
    let joins : chunk ≡ take ((0 + 1) * size) text = ap (λ n. take n text ++ chunk) (sym none) ∙ chunk-joins size text 0 in
    opened-more kind past (sent_part kind block text 0)
    ∙ ap (λ part. open_after part (option_and_then (limited kind) (joined_with (opened_text kind past) part)))
    (inner-part kind block text 0 form.Start more (form_at-first (part_count kind text) 0 (omega arith) refl))
    ∙ ap (λ bytes. open_after (part_of form.Start block chunk) (limited kind bytes)) joins
    ∙ rw (front-fits kind text ((0 + 1) * size) fits) refl
sent-opened kind block text past fits (suc k) more =
    let size : ℕ = part_size kind in
    let chunk : List ℕ = slice_chunk text size (suc k) in
    let front : List ℕ = take ((k + 1) * size) text in
    let before : List Part = sent kind block text past (suc k) in
    let part : Part = part_of form.Continue block chunk in
    let same : suc k ≡ k + 1 = omega arith in
    let joins : front ++ chunk ≡ take ((suc k + 1) * size) text =
    ap (λ n. take (n * size) text ++ chunk) (sym same) ∙ chunk-joins size text (suc k) in
    opened-more kind before (sent_part kind block text (suc k))
    ∙ ap (λ p. open_after p (option_and_then (limited kind) (joined_with (opened_text kind before) p)))
    (inner-part kind block text (suc k) form.Continue more (form_at-inner (part_count kind text) (suc k) (omega arith) more))
    ∙ ap (λ text. open_after part (option_and_then (limited kind) (joined_with text part)))
    (sent-opened kind block text past fits k (omega arith))
    ∙ rw (eq-eqb block block refl) refl
    ∙ ap (λ bytes. open_after part (limited kind bytes)) joins
    ∙ rw (front-fits kind text ((suc k + 1) * size) fits) refl

-- the last packet: the text, and the zeros that fill it
last-joins : (kind : TextKind) (text : List ℕ) (k : ℕ) → k + 1 ≡ part_count kind text →
    take (k * part_size kind) text ++ part_bytes (part_size kind) text k
    ≡ text ++ replicate (part_size kind - length (slice_chunk text (part_size kind) k)) 0
last-joins kind text k last =
    let size : ℕ = part_size kind in
    let count : ℕ = part_count kind text in
    let chunk : List ℕ = slice_chunk text size k in
    let bounds : (length text ≤ count * size) × (count * size < length text + size) = div_ceil_times (length text) size (size-some kind) in
    let same : (k + 1) * size ≡ count * size = ap (λ n. n * size) last in
    let covered : take ((k + 1) * size) text ≡ text = take_all ((k + 1) * size) text (omega arith) in
    sym (append_assoc (take (k * size) text) chunk (replicate (size - length chunk) 0))
    ∙ ap (λ front. front ++ replicate (size - length chunk) 0) (chunk-joins size text k ∙ covered)

last-fits : (kind : TextKind) (text : List ℕ) (k : ℕ) → length text ≤ limit_of kind → k + 1 ≡ part_count kind text →
    leb (length (text ++ replicate (part_size kind - length (slice_chunk text (part_size kind) k)) 0)) (limit_of kind) ≡ true
last-fits kind text k fits last =
    let size : ℕ = part_size kind in
    let count : ℕ = part_count kind text in
    let chunk : List ℕ = slice_chunk text size k in
    let bounds : (length text ≤ count * size) × (count * size < length text + size) = div_ceil_times (length text) size (size-some kind) in
    let same : (k + 1) * size ≡ count * size = ap (λ n. n * size) last in
    let more : k * size + size ≡ (k + 1) * size = grind arith in
    let limit : count * size ≤ limit_of kind = whole-packets kind (length text) count fits bounds.1 in
    let filling : List ℕ = replicate (size - length chunk) 0 in
    le-leb (length (text ++ filling)) (limit_of kind)
    (omega (
      arith,
      length-append text filling,
      length-replicate {A = ℕ} (size - length chunk) 0,
      length-take size (drop (k * size) text),
      length-drop (k * size) text,
    ))

ended : (kind : TextKind) (text : List ℕ) (count : ℕ) → 0 < length text → get_or text (length text - 1) 0 ≢ 0 → is_text kind text ≡ true →
    finished kind (text ++ replicate count 0) ≡ whole text
ended kind text count some last is =
    ap (λ bytes. cond (is_text kind bytes) (whole bytes) bad) (zeros count text ∙ no-zero text some last) ∙ rw is refl

-- the last packet gives the text, and those before are held
pub cut-joined : (kind : TextKind) (block : ℕ) (text : List ℕ) → 0 < length text → length text ≤ limit_of kind
    → get_or text (length text - 1) 0 ≢ 0 → is_text kind text ≡ true →
    (past : List Part) (k : ℕ) → k < part_count kind text →
    answer_at kind (sent kind block text past k) (sent_part kind block text k) ≡ cond (k + 1 == part_count kind text) (whole text) held
cut-joined kind block text some fits last is past zero within =
    let size : ℕ = part_size kind in
    let count : ℕ = part_count kind text in
    let chunk : List ℕ = slice_chunk text size 0 in
    let none : 0 * size ≡ 0 = omega arith in
    let answers : Part → Answer =
    λ part. answer_of kind part.form (option_and_then (limited kind) (joined_with (opened_text kind past) part)) in
    answer-more kind past (sent_part kind block text 0)
    ∙ elim (cases_eq count 1) [
      | inl only ↦
          let filling : ℕ = size - length chunk in
          let form_is : form_at count 0 ≡ form.Complete = form_at-only count 0 only in
          let bytes_are : part_bytes size text 0 ≡ text ++ replicate filling 0 =
          ap (λ n. take n text ++ part_bytes size text 0) (sym none) ∙ last-joins kind text 0 (sym only) in
          ap answers (let same : sent_part kind block text 0 ≡ part_of form.Complete block (text ++ replicate filling 0) =
          λ i. record { form = form_is i; block = block; bytes = bytes_are i } in
          same)
          ∙ rw (last-fits kind text 0 fits (sym only), eq-eqb (0 + 1) count (sym only)) (ended kind text filling some last is)
      | inr many ↦
          let joins : chunk ≡ take ((0 + 1) * size) text = ap (λ n. take n text ++ chunk) (sym none) ∙ chunk-joins size text 0 in
          ap answers (inner-part kind block text 0 form.Start (omega arith) (form_at-first count 0 (omega arith) refl))
          ∙ ap (λ bytes. answer_of kind form.Start (limited kind bytes)) joins
          ∙ rw (front-fits kind text ((0 + 1) * size) fits, ne_eqb (0 + 1) count (λ e. many (sym e))) refl
    ]
cut-joined kind block text some fits last is past (suc k) within =
    let size : ℕ = part_size kind in
    let count : ℕ = part_count kind text in
    let chunk : List ℕ = slice_chunk text size (suc k) in
    let front : List ℕ = take ((k + 1) * size) text in
    let before : List Part = sent kind block text past (suc k) in
    let same : suc k ≡ k + 1 = omega arith in
    let answers : Option OpenText → Part → Answer =
    λ open_text part. answer_of kind part.form (option_and_then (limited kind) (joined_with open_text part)) in
    let known : Option OpenText = Some (record { block = block; bytes = front }) in
    answer-more kind before (sent_part kind block text (suc k))
    ∙ ap (λ o. answers o (sent_part kind block text (suc k))) (sent-opened kind block text past fits k (omega arith))
    ∙ elim (cases_eq (suc k + 1) count) [
      | inl ends_now ↦
          let filling : ℕ = size - length chunk in
          let form_is : form_at count (suc k) ≡ form.End = form_at-last count (suc k) (omega arith) ends_now in
          let bytes : List ℕ = part_bytes size text (suc k) in
          let joins : front ++ bytes ≡ text ++ replicate filling 0 =
          ap (λ n. take (n * size) text ++ bytes) (sym same) ∙ last-joins kind text (suc k) ends_now in
          ap (answers known) (let part_is : sent_part kind block text (suc k) ≡ part_of form.End block bytes =
          λ i. record { form = form_is i; block = block; bytes = bytes } in
          part_is)
          ∙ rw (eq-eqb block block refl) refl
          ∙ ap (λ all. answer_of kind form.End (limited kind all)) joins
          ∙ rw (last-fits kind text (suc k) fits ends_now, eq-eqb (suc k + 1) count ends_now) (ended kind text filling some last is)
      | inr inner ↦
          let joins : front ++ chunk ≡ take ((suc k + 1) * size) text =
          ap (λ n. take (n * size) text ++ chunk) (sym same) ∙ chunk-joins size text (suc k) in
          ap (answers known)
          (inner-part kind block text (suc k) form.Continue (omega arith) (form_at-inner count (suc k) (omega arith) (omega arith)))
          ∙ rw (eq-eqb block block refl) refl
          ∙ ap (λ all. answer_of kind form.Continue (limited kind all)) joins
          ∙ rw (front-fits kind text ((suc k + 1) * size) fits, ne_eqb (suc k + 1) count inner) refl
    ]
