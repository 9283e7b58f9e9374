use Rattle.std.proofs.Common.{◌≡◌, ◌+◌, ◌-◌, ◌≤◌, ℕ, List, take, drop, arith, ap, ◌∙◌}
use Rattle.std.proofs.lemmas.List.{drop-take, drop-drop}
use Rattle.item_reader.specs.ForProofs.Window.{Held}
use Rattle.item_reader.proofs.window.Window.consume.Goals as goal

-- what is left of a part of the buffer after its first n bytes
part_behind : (start n end : ℕ) (bytes : List ℕ) → start + n ≤ end
    → take (end - (start + n)) (drop (start + n) bytes) ≡ drop n (take (end - start) (drop start bytes))
part_behind start n end bytes fits =
    let e : end - start ≡ n + (end - (start + n)) = omega arith in
    rw (e, drop-take, drop-drop)

same_held : (b c : List ℕ) (m n : ℕ) → b ≡ c → m ≡ n
    → ◌≡◌ {A = Held} (record { bytes = b; allowed = m }) (record { bytes = c; allowed = n })
same_held b c m n same count =
    let by_bytes : List ℕ → Held = λ xs. record { bytes = xs; allowed = m } in
    let by_count : ℕ → Held = λ k. record { bytes = c; allowed = k } in
    ap by_bytes same ∙ ap by_count count

pub returns : goal.returns
returns c =
    let i = c.self.inside in
    let bytes_of : Held → List ℕ = λ held. held.bytes in
    let allowed_of : Held → ℕ = λ held. held.allowed in
    let count : i.stop - i.start ≡ c.args.self.now.allowed = ap allowed_of c.self.view_is in
    let fits : i.start + c.args.count ≤ i.end = omega (arith, count, c.requires, c.self.invariant.0, c.self.invariant.1) in
    same_held _ _ _ _
    (part_behind i.start c.args.count i.end i.bytes fits ∙ ap (drop c.args.count) (ap bytes_of c.self.view_is))
    (omega (arith, count))
