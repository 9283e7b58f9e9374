-- The packets of a message that takes several: the form of each, and the bytes that they carry up to one of them.
use Rattle.std.proofs.Common.{ℕ, ◌≡◌, ◌<◌, ◌+◌, ◌*◌, ◌∙◌, ap, sym, refl, List, ◌++◌, take, arith}
use Rattle.std.proofs.lemmas.Bool.{eq-eqb, ne_eqb}
use Rattle.std.proofs.Math.Seq.{take-add}
use Rattle.std.specs.Fork.{slice_chunk}
use Rattle.voice_messages.specs.declared.voice2.Form.TheVariants as form
use Rattle.voice_messages.specs.Forms.{form_at}

-- the only packet, the first, the last, and one between
pub form_at-only : (count k : ℕ) → count ≡ 1 → form_at count k ≡ form.Complete
form_at-only count k one = rw (eq-eqb count 1 one) refl

pub form_at-first : (count k : ℕ) → 1 < count → k ≡ 0 → form_at count k ≡ form.Start
form_at-first count k many first = rw (ne_eqb count 1 (λ e. omega arith), eq-eqb k 0 first) refl

pub form_at-last : (count k : ℕ) → 1 < count → k + 1 ≡ count → form_at count k ≡ form.End
form_at-last count k many last = rw (ne_eqb count 1 (λ e. omega arith), ne_eqb k 0 (λ e. omega arith), eq-eqb (k + 1) count last) refl

pub form_at-inner : (count k : ℕ) → 0 < k → k + 1 < count → form_at count k ≡ form.Continue
form_at-inner count k later inner =
    rw (ne_eqb count 1 (λ e. omega arith), ne_eqb k 0 (λ e. omega arith), ne_eqb (k + 1) count (λ e. omega arith)) refl

-- one more packet's bytes
pub chunk-joins : (size : ℕ) (bytes : List ℕ) (k : ℕ) → take (k * size) bytes ++ slice_chunk bytes size k ≡ take ((k + 1) * size) bytes
chunk-joins size bytes k =
    let more : k * size + size ≡ (k + 1) * size = grind arith in
    sym (take-add (k * size) size bytes) ∙ ap (λ n. take n bytes) more
