use Rattle.std.proofs.Common.{◌≡◌, ◌≤◌, ◌-◌, ◌+◌, ℕ, List, ap, arith, drop, length, sym, subst, take, ◌∙◌}
use Rattle.item_reader.specs.Reading.{BeginsItemAt, Reading, allowed_bytes, held_bytes}
use Rattle.item_reader.proofs.Next.{all_behind, held-within, held_at, length-held}
use Rattle.item_reader.proofs.reader.ItemReader.rest_in.Goals as goal

pub returns-clause-within : goal.returns-clause-within
returns-clause-within g c =
    let now = c.args.self.now in
    let W : Reading g.row.H.Denot → Type 0 = λ v. v.offset ≤ v.limit in
    let L : List ℕ → Type 0 = λ bytes. now.offset + length bytes ≤ now.limit in
    subst L (sym c.requires.held) (held-within now (subst W c.self.view_is c.self.invariant.0))

pub returns-clause-item : goal.returns-clause-item
returns-clause-item g c =
    let now = c.args.self.now in
    let shown = c.args.held.now in
    let at = c.args.at in
    let W : Reading g.row.H.Denot → Type 0 = λ v. v.offset ≤ v.limit in
    let same : take (length shown - at) (drop at shown) ≡ drop at (held_bytes now) = all_behind at shown ∙ ap (drop at) c.requires.held in
    let fits : at ≤ allowed_bytes now = omega (arith, c.requires.at, ap length c.requires.held, length-held now) in
    let B : List ℕ → Type 0 = λ bytes. BeginsItemAt (g.H.Cut.asked now.how) (g.H.Cut.item_of now.how) at now bytes in
    subst B (sym same)
    (held_at g.H.Cut.asked g.H.Cut.item_of now (g.met.H.Cut.lengths now.how) (subst W c.self.view_is c.self.invariant.0) at fits)
