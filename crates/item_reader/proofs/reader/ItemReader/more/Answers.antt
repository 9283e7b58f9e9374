use Rattle.std.proofs.Common.{◌≡◌, ◌-◌, ℕ, List, Option, ap, sym, subst, ◌∙◌}
use Rattle.item_reader.specs.ForProofs.Front.{Sees}
use Rattle.item_reader.specs.ForProofs.Window.{Held}
use Rattle.item_reader.specs.Reading.{Keeps, Reading}
use Rattle.item_reader.specs.declared.cutting.Tail.{Tail}
use Rattle.item_reader.specs.declared.reader.Front.TheVariants.{Item as FrontItem}
use Rattle.outside.specs.Outside.{ahead}
use Rattle.item_reader.proofs.Next.{sees_brought}
use Rattle.item_reader.proofs.reader.ItemReader.more.Goals as goal

pub returns-in-Ok-Item-clause-answer : goal.returns-in-Ok-Item-clause-answer
returns-in-Ok-Item-clause-answer g c = λ going.
    let i = c.self.inside in
    let before = g.S.Source.left c.args.src.now in
    let left = g.S.Source.left c.look_ahead.new.src in
    let size = c.in-Ok-Item.field-0-0 in
    let bytes_of : Held → List ℕ = λ held. held.bytes in
    let end_of : Reading g.row.H.Denot → Option Tail = λ r. r.end in
    let kept : c.allow.new.self.bytes ≡ c.look_ahead.new.window.bytes = ap bytes_of c.allow.ensures in
    let A : List ℕ → Type 0 = λ xs. ahead xs left ≡ ahead i.window.bytes before in
    let K : List ℕ → Type 0 = λ xs. Keeps i.window.bytes xs in
    let S : List ℕ → Type 0 = λ xs. Sees (g.H.Cut.asked i.how) xs (i.limit - i.offset) (FrontItem size) in
    sees_brought g.H.Cut.asked i.how (g.met.H.Cut.lengths i.how) i.offset i.limit i.end i.window.bytes c.allow.new.self.bytes before left
    (subst A (sym kept) c.in-Ok-Item.ensures.ahead) size c.args.self.now (ap end_of c.self.view_is ∙ going)
    (subst K (sym kept) c.in-Ok-Item.ensures.kept)
    (subst S (sym kept) (rw c.in-Ok-Item.field-0-is at c.in-Ok-Item.ensures.seen)) c.self.view_is
