-- Bytes that are taken into an array, run after run.
use Rattle.std.proofs.Common.{◌≡◌, ◌+◌, ◌-◌, ◌≤◌, ◌<◌, ◌++◌, ℕ, List, [], length, take}
use Rattle.std.proofs.Common.{drop, Option, None, Some, false, arith, ap, subst, sym, ◌∙◌}
use Rattle.std.proofs.lemmas.List.{append-nil, length-drop, length-take-le, take-append-le}
use Rattle.std.proofs.Math.Seq.{take-append-add}
use borrow.Rule.Slice.PartMut.{put_mid, post_of, same_len_mid}
use Rattle.outside.specs.Outside.{IsUsedUp, Loses}
use Rattle.outside.specs.Runs.{runs_are_lost}
use Rattle.midi_clip.specs.Header.{HasTaken}

-- the bytes before a place, and then what was taken there
taken-behind : (m n k : ℕ) (front buf : List ℕ) → m ≤ length front → n ≤ length buf
    → take (m + n) (put_mid m k front buf) ≡ take m front ++ take n buf
taken-behind m n k front buf fits enough =
    let len : length (take m front) ≡ m = length-take-le m front fits in
    let e : m + n ≡ length (take m front) + n = omega arith in
    rw (e, take-append-add) (ap (λ xs. take m front ++ xs) (take-append-le n buf (post_of m k front) enough))

-- one more run is lost
pub lost-more : (old mid new : Option (List ℕ)) (m n k : ℕ) (bytes buf : List ℕ) → m ≤ length bytes → n ≤ length buf
    → Loses old mid (take m bytes) → Loses mid new (take n buf)
    → Loses old new (take (m + n) (put_mid m k bytes buf))
lost-more old mid new m n k bytes buf fits enough first second =
    let L : List ℕ → Type 0 = λ xs. Loses old new xs in
    subst L (sym (taken-behind m n k bytes buf fits enough)) (runs_are_lost.both old mid new (take m bytes) (take n buf) first second)

pub size-stays : (m : ℕ) (bytes buf : List ℕ) → length bytes ≡ 8 → m ≤ 8 → length buf ≡ 8 - m → length (put_mid m (8 - m) bytes buf) ≡ 8
size-stays m bytes buf size most full =
    let rest : 8 - m ≤ length (drop m bytes) = omega (arith, length-drop m bytes) in
    same_len_mid m (8 - m) bytes buf (full ∙ sym (length-take-le (8 - m) (drop m bytes) rest)) ∙ size

used-up : (mid new : Option (List ℕ)) → Loses mid new [] → IsUsedUp mid → IsUsedUp new
used-up None None lost none = tt
used-up (Some m) (Some n) lost none = sym lost ∙ none
used-up None (Some n) lost none = absurd lost
used-up (Some m) None lost none = absurd lost

-- the source ended before eight bytes came
pub ends-early : (old mid new : Option (List ℕ)) (m n : ℕ) (bytes buf : List ℕ) → length bytes ≡ 8 → m < 8 → n ≡ 0
    → Loses old mid (take m bytes) → Loses mid new (take n buf) → (n ≡ 0 → IsUsedUp mid)
    → HasTaken old new false
ends-early old mid new m n bytes buf size few none first second end =
    let L : ℕ → Type 0 = λ k. Loses mid new (take k buf) in
    let nothing : Loses mid new [] = subst L none second in
    let T : List ℕ → Type 0 = λ xs. Loses old new xs in
    let len : length (take m bytes) ≡ m = length-take-le m bytes (omega arith) in
    record {
      taken = take m bytes;
      lost = subst T (append-nil (take m bytes)) (runs_are_lost.both old mid new (take m bytes) [] first nothing);
      most = omega arith;
      all = λ fewer. used-up mid new nothing (end none);
      told = (λ is. absurd cc, λ same. absurd (omega (arith, ap length same)));
    }
