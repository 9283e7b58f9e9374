-- A payload that is cut, every `size` bytes, is joined again.
use Rattle.std.proofs.Common.{ℕ, ◌≡◌, ◌<◌, ◌≤◌, ◌+◌, ◌*◌, ◌∙◌, zero, suc, ap, sym, refl, List, ◌∷◌, ◌++◌, length, take}
use Rattle.std.proofs.Common.{drop, Option, Some, None, true, cond, arith, ◌==◌, ◌/◌, ◌%◌, min, length-take, length-drop, inl, inr}
use Rattle.std.proofs.lemmas.Nat.{mul-le}
use Rattle.std.proofs.lemmas.Bool.{le-leb, leb-true, eq-eqb, ne_eqb, cases_eq}
use Rattle.std.proofs.lemmas.Grind.{div_ceil_times}
use Rattle.std.proofs.lemmas.List.{take_all}
use Rattle.std.specs.Fork.{slice_chunk}
use Rattle.std.specs.Option.{option_map}
use Rattle.voice_messages.specs.declared.voice2.Form.{Form}
use Rattle.voice_messages.specs.declared.voice2.Form.TheVariants as form
use Rattle.voice_messages.proofs.FormLaws.{form_at-only, form_at-first, form_at-last, form_at-inner, chunk-joins}
use Rattle.sysex_groups.specs.Exclusives.{Part, Room, fits, ended_by}
use Rattle.sysex_groups.specs.Table.{Begun, begun_after}
use Rattle.sysex_groups.specs.Cut.{form_at, cut_count, cut_part, cut_parts}
use Rattle.sysex_groups.specs.Laws.{IsJoinedBySize}
use Rattle.sysex_groups.proofs.ExclusiveLaws.{begun_on, begun_on-more, joined-begun}

-- what is shorter than something that fits, fits
pub fits-less : (room : Room) (less more : ℕ) → less ≤ more → fits room more ≡ true → fits room less ≡ true
fits-less None less more within fitting = refl
fits-less (Some room) less more within fitting = le-leb less room (omega (arith, leb-true more room fitting))

front-fits : (room : Room) (payload : List ℕ) (n : ℕ) → fits room (length payload) ≡ true → fits room (length (take n payload)) ≡ true
front-fits room payload n fitting = fits-less room (length (take n payload)) (length payload) (omega (arith, length-take n payload)) fitting

rest-fits : (room : Room) (payload : List ℕ) (n : ℕ) → fits room (length payload) ≡ true → fits room (length (drop n payload)) ≡ true
rest-fits room payload n fitting = fits-less room (length (drop n payload)) (length payload) (omega (arith, length-drop n payload)) fitting

-- what is open after one part, by its form
begun_on-form : (room : Room) (part : Part) (own : List Part) (f : Form) → part.form ≡ f → fits room (length part.bytes) ≡ true
    → begun_on room (part ∷ own) ≡ begun_after room (begun_on room own) f part.bytes part.offset
begun_on-form room part own f is fitting =
    begun_on-more room part own fitting ∙ ap (λ g. begun_after room (begun_on room own) g part.bytes part.offset) is

-- all packets have room for the whole payload
all-within : (size count : ℕ) (payload : List ℕ) → 0 < size → count ≡ cut_count size payload → length payload ≤ count * size
all-within size count payload some e =
    let q : ℕ = length payload / size + min 1 (length payload % size) in
    let most : q * size ≤ count * size = mul-le q size count size (omega (arith, e)) (omega arith) in
    omega (arith, most, (div_ceil_times (length payload) size some).0)

module _ (size : ℕ) (room : Room) (group : ℕ) (offsets : ℕ → ℕ) (payload : List ℕ) (past : List Part)
    (fitting : fits room (length payload) ≡ true) where
  chunk-fits : (k : ℕ) → fits room (length (slice_chunk payload size k)) ≡ true
  chunk-fits k = front-fits room (drop (k * size) payload) size (rest-fits room payload (k * size) fitting)

  first-chunk : slice_chunk payload size 0 ≡ take ((0 + 1) * size) payload
  first-chunk =
      let none : 0 ≡ 0 * size = omega arith in
      ap (λ n. take n payload ++ slice_chunk payload size 0) none ∙ chunk-joins size payload 0

  -- the bytes up to packet k, and those of the next one
  joins : (k : ℕ) → take ((k + 1) * size) payload ++ slice_chunk payload size (suc k) ≡ take ((suc k + 1) * size) payload
  joins k =
      let same : suc k ≡ k + 1 = omega arith in
      ap (λ n. take (n * size) payload ++ slice_chunk payload size (suc k)) (sym same) ∙ chunk-joins size payload (suc k)

  -- what is open after all packets up to k, which isn't the last
  sent-begun : (k : ℕ) → k + 1 < cut_count size payload →
      begun_on room (cut_parts size group offsets payload past (suc k))
      ≡ Some (record { start = offsets 0; bytes = take ((k + 1) * size) payload })
  sent-begun zero more =
      begun_on-form room (cut_part size group offsets payload 0) past form.Start
      (form_at-first (cut_count size payload) 0 (omega arith) refl) (chunk-fits 0)
      ∙ ap (λ bs. Some (record { start = offsets 0; bytes = bs })) first-chunk
  sent-begun (suc k) more =
      let chunk : List ℕ = slice_chunk payload size (suc k) in
      let begun : Option Begun → Option Begun = λ before. begun_after room before form.Continue chunk (offsets (suc k)) in
      begun_on-form room (cut_part size group offsets payload (suc k)) (cut_parts size group offsets payload past (suc k)) form.Continue
      (form_at-inner (cut_count size payload) (suc k) (omega arith) more) (chunk-fits (suc k))
      ∙ ap begun (sent-begun k (omega arith))
      ∙ ap (λ bs. cond (fits room (length bs)) (Some (record { start = offsets 0; bytes = bs })) None) (joins k)
      ∙ rw (front-fits room payload ((suc k + 1) * size) fitting) refl

  module _ (some : 0 < size) where
    -- all packets together are the payload
    covered : (k : ℕ) → k + 1 ≡ cut_count size payload → take ((k + 1) * size) payload ≡ payload
    covered k last = take_all ((k + 1) * size) payload (all-within size (k + 1) payload some last)

    -- the last packet ends the payload, and none before it ends anything
    sent-ended : (k : ℕ) → k < cut_count size payload →
        ended_by room (form_at (cut_count size payload) k)
        (option_map (λ begun. begun.bytes) (begun_on room (cut_parts size group offsets payload past k))) (slice_chunk payload size k)
        ≡ cond (k + 1 == cut_count size payload) (Some payload) None
    sent-ended zero within =
        let count : ℕ = cut_count size payload in
        let ends : Form → Option (List ℕ) =
        λ f. ended_by room f (option_map (λ begun. begun.bytes) (begun_on room past)) (slice_chunk payload size 0) in
        elim (cases_eq count 1) [
          | inl only ↦
              ap ends (form_at-only count 0 only)
              ∙ ap Some (first-chunk ∙ covered 0 (sym only))
              ∙ rw (eq-eqb (0 + 1) count (sym only)) refl
          | inr many ↦ ap ends (form_at-first count 0 (omega arith) refl) ∙ rw (ne_eqb (0 + 1) count (λ e. many (sym e))) refl
        ]
    sent-ended (suc k) within =
        let count : ℕ = cut_count size payload in
        let own : List Part = cut_parts size group offsets payload past (suc k) in
        let chunk : List ℕ = slice_chunk payload size (suc k) in
        let ends : Form → Option (List ℕ) = λ f. ended_by room f (option_map (λ begun. begun.bytes) (begun_on room own)) chunk in
        elim (cases_eq (suc k + 1) count) [
          | inl last ↦
              ap ends (form_at-last count (suc k) (omega arith) last)
              ∙ ap (λ before. ended_by room form.End (option_map (λ begun. begun.bytes) before) chunk) (sent-begun k (omega arith))
              ∙ ap (λ bs. cond (fits room (length bs)) (Some bs) None) (joins k ∙ covered (suc k) last)
              ∙ rw (fitting, eq-eqb (suc k + 1) count last) refl
          | inr inner ↦ ap ends (form_at-inner count (suc k) (omega arith) (omega arith)) ∙ rw (ne_eqb (suc k + 1) count inner) refl
        ]

-- whatever other groups send between the packets
pub cut-joined : (size : ℕ) → 0 < size → IsJoinedBySize size
cut-joined size some room payload fitting group offsets past all k within own =
    let ends : Option (List ℕ) → Option (List ℕ) =
    λ before. ended_by room (form_at (cut_count size payload) k) before (slice_chunk payload size k) in
    ap ends (joined-begun room group all)
    ∙ ap (λ parts. ends (option_map (λ begun. begun.bytes) (begun_on room parts))) own
    ∙ sent-ended size room group offsets payload past fitting some k within
