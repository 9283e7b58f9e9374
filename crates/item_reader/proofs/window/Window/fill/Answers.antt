use Rattle.std.proofs.Common.{◌≡◌, ◌+◌, ◌-◌, ◌≤◌, ◌++◌, ℕ, List, length, take, drop, Option, None, Some, arith, ap, subst, sym, ◌∙◌, refl}
use Rattle.std.specs.List.{copy_within}
use Rattle.std.proofs.Math.Seq.{take-append-add}
use Rattle.std.proofs.lemmas.List.{length-drop, take_at, take-append-le, append_assoc, length-take-le}
use borrow.Rule.Slice.PartMut.{put_mid, post_of}
use Rattle.outside.specs.Outside.{Loses, ahead}
use Rattle.item_reader.specs.ForProofs.Window.{Held}
use Rattle.item_reader.proofs.window.Window.fill.Goals as goal

-- what stands at the front of the buffer after the move
moved_front : (start end : ℕ) (bytes : List ℕ) → start ≤ end → end ≤ length bytes
    → take (end - start) (copy_within bytes start end 0) ≡ take (end - start) (drop start bytes)
moved_front start end bytes order fits =
    take_at (take (end - start) (drop start bytes)) (drop (0 + (end - start)) bytes) (end - start)
    (length-take-le (end - start) (drop start bytes) (omega (arith, length-drop start bytes)))

-- the front, and then what was taken
taken_behind : (m n k : ℕ) (front buf : List ℕ) → m ≤ length front → n ≤ length buf
    → take (m + n - 0) (put_mid m k front buf) ≡ take m front ++ take n buf
taken_behind m n k front buf fits room =
    let len : length (take m front) ≡ m = length-take-le m front fits in
    let e : m + n - 0 ≡ length (take m front) + n = omega arith in
    rw (e, take-append-add) (ap (λ xs. take m front ++ xs) (take-append-le n buf (post_of m k front) room))

-- what is taken goes from what is left to the bytes
ahead-append : (bytes chunk : List ℕ) (old new : Option (List ℕ)) → Loses old new chunk → ahead (bytes ++ chunk) new ≡ ahead bytes old
ahead-append bytes chunk None None lost = refl
ahead-append bytes chunk (Some old) (Some new) lost = ap Some (append_assoc bytes chunk new ∙ ap (λ xs. bytes ++ xs) (sym lost))
ahead-append bytes chunk None (Some new) lost = absurd lost
ahead-append bytes chunk (Some old) None lost = absurd lost

abbrev bytes_of : Held → List ℕ
bytes_of held = held.bytes

window_after : (start end n k : ℕ) (bytes front buf value : List ℕ) → start ≤ end → end ≤ length bytes → n ≤ length buf
    → length front ≡ length bytes → front ≡ copy_within bytes start end 0
    → take (end - start) (drop start bytes) ≡ value → take (end - start + n - 0) (put_mid (end - start) k front buf) ≡ value ++ take n buf
window_after start end n k bytes front buf value order fits room len moved view =
    taken_behind (end - start) n k front buf (omega arith) room
    ∙ ap (λ xs. xs ++ take n buf) (ap (take (end - start)) moved ∙ moved_front start end bytes order fits ∙ view)

pub returns-clause-ahead : goal.returns-clause-ahead
returns-clause-ahead g c =
    let view =
    window_after c.self.inside.start c.self.inside.end c.in_ok-count.count (4096 - (c.self.inside.end - c.self.inside.start))
    c.self.inside.bytes c.copy_within.new.self c.take.new.buf c.args.self.now.bytes
    (omega arith) (omega arith) c.in_ok-count.ensures.bound c.copy_within.ensures.len c.copy_within.ensures.after (ap bytes_of c.self.view_is) in
    ap (λ xs. ahead xs (g.S.Source.left c.take.new.self)) view
    ∙ ahead-append c.args.self.now.bytes _ _ _ c.in_ok-count.ensures.bytes.0

pub returns-clause-kept : goal.returns-clause-kept
returns-clause-kept g c = (
  take c.in_ok-count.count c.take.new.buf,
  window_after c.self.inside.start c.self.inside.end c.in_ok-count.count (4096 - (c.self.inside.end - c.self.inside.start))
      c.self.inside.bytes c.copy_within.new.self c.take.new.buf c.args.self.now.bytes
      (omega arith) (omega arith) c.in_ok-count.ensures.bound c.copy_within.ensures.len c.copy_within.ensures.after (ap bytes_of c.self.view_is),
)

pub returns-in_err-count-clause-kept : goal.returns-in_err-count-clause-kept
returns-in_err-count-clause-kept g c =
    let i = c.self.inside in
    let held : ℕ = i.end - i.start in
    let front : List ℕ = c.copy_within.new.self in
    let same : held + 0 ≡ held = omega arith in
    let P : ℕ → Type 0 = λ n. take (n - 0) (put_mid held (4096 - held) front c.take.new.buf) ≡ c.args.self.now.bytes ++ take 0 c.take.new.buf in (
      take 0 c.take.new.buf,
      subst P same
          (window_after i.start i.end 0 (4096 - held) i.bytes front c.take.new.buf c.args.self.now.bytes
          (omega arith) (omega arith) (omega arith) c.copy_within.ensures.len c.copy_within.ensures.after (ap bytes_of c.self.view_is)),
    )
