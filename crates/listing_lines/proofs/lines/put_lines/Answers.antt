use Rattle.std.proofs.Common.{◌≡◌, List, Option, sym, ◌∙◌, subst}
use Rattle.std.specs.Prelude.{Ok}
use Rattle.std.specs.Option.{option_to_list}
use Rattle.listing_terms.specs.declared.listed.Listed.{Listed}
use Rattle.listing_terms.specs.ByteLines.{first_in, second_in}
use Rattle.pass_loop.specs.Places.{Puts, over_puts}
use Rattle.pass_loop.specs.Put.{Put}
use Rattle.pass_loop.specs.ForProofs.PutLaws.{over_puts-none, then_puts}
use Rattle.listing_lines.specs.ForProofs.LineLaws.{lines-then, none-lines}
use Rattle.listing_lines.specs.Lines.{line_puts}
use Rattle.listing_lines.proofs.lines.put_lines.Goals as goal

pub returns-then-is_empty : goal.returns-then-is_empty
returns-then-is_empty g c =
    let old = g.O.Outputs.places c.args.outputs.now in
    let P : List Listed → Type 0 = λ lines. Puts (line_puts lines) old old (Ok tt) in
    subst P (sym (none-lines c.args.lines.now (sym c.is_empty.ensures ∙ c.if-is_empty.true))) (sym (over_puts-none old))

pub returns : goal.returns
returns g c =
    let old = g.O.Outputs.places c.args.outputs.now in
    let mid = g.O.Outputs.places c.put_listed.new.outputs in
    let new = g.O.Outputs.places c.put_listed-2.new.outputs in
    let first : List Listed = option_to_list (first_in c.args.lines.now) in
    let second : List Listed = option_to_list (second_in c.args.lines.now) in
    let F : Option Listed → Type 0 = λ listed. mid ≡ over_puts (line_puts (option_to_list listed)) old in
    let S : Option Listed → Type 0 = λ listed. Puts (line_puts (option_to_list listed)) mid new c.put_listed-2.result in
    let P : List Put → Type 0 = λ puts. Puts puts old new c.put_listed-2.result in
    subst P (sym (lines-then first second))
    (then_puts (line_puts first) (line_puts second) old mid new c.put_listed-2.result (subst F c.first.ensures c.in_ok-put_listed.ensures)
    (subst S c.second.ensures c.put_listed-2.ensures))
