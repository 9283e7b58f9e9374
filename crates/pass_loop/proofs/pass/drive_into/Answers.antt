use Rattle.std.proofs.Common.{refl, ap, sym, ◌∙◌, subst}
use Rattle.std.specs.Prelude.{reverse}
use Rattle.item_reader.specs.SoFar.{given}
use Rattle.pass_loop.specs.ForProofs.HeldLaws.{IsSoFar}
use Rattle.pass_loop.specs.ForProofs.NamedLaws.{stands_ends}
use Rattle.pass_loop.specs.ForProofs.PassLaws.{nothing_yet, still, still_by, ends_at_close, ends_refused, ends_failed}
use Rattle.pass_loop.specs.Pass.{Ends, end_of, seen_with}
use Rattle.pass_loop.specs.declared.ends.RunEnd.{RunEnd}
use Rattle.pass_loop.specs.declared.ends.RunEnd.TheVariants.{Refused, ReadFault}
use Rattle.pass_loop.proofs.pass.drive_into.Goals as goal

pub loop-reader-init : goal.loop-reader-init
loop-reader-init g c =
    nothing_yet (g.E.Engine.work c.args.engine) _ _ (seen_with g.S.Source c.args.input.now (g.O.Outputs.places c.args.outputs.now))
    (g.met.R.Items.starts c.args.reader (g.S.Source.left c.args.input.now) c.requires.new)
    (g.met.E.Engine.starts c.args.engine c.requires.ready)

pub take_held-requires-clause-begun : goal.take_held-requires-clause-begun
take_held-requires-clause-begun g c = λ uses. ap (λ s. s.begun) (c.write_out.ensures ∙ c.loop-reader.invariant.places) ∙ c.requires.begun uses

pub take_held-requires-clause-under_way : goal.take_held-requires-clause-under_way
take_held-requires-clause-under_way g c =
    let i = c.loop-reader.invariant in
    let all = g.S.Source.left c.args.input.now in (
      c.args.reader,
      c.args.engine,
      seen_with g.S.Source c.args.input.now (g.O.Outputs.places c.args.outputs.now),
      seen_with g.S.Source c.more.new.input (g.O.Outputs.places c.write_out.new.outputs),
      still_by (g.E.Engine.work c.args.engine) _
          (λ items. g.R.Items.HasGiven c.args.reader c.more.new.self (given all (g.S.Source.left c.more.new.input) items)) _ _ _
          (seen_with g.S.Source c.more.new.input (g.O.Outputs.places c.write_out.new.outputs)) i
          (c.in-Held.ensures.answer c.args.reader all i.items i.has) c.write_out.ensures c.in-Held.ensures.cause,
    )

pub close-requires : goal.close-requires
close-requires g c = λ uses. ap (λ s. s.begun) (c.write_out.ensures ∙ c.loop-reader.invariant.places) ∙ c.requires.begun uses

pub loop-reader-preserved : goal.loop-reader-preserved
loop-reader-preserved g c =
    let i = c.loop-reader.invariant in
    let all = g.S.Source.left c.args.input.now in
    let old = seen_with g.S.Source c.args.input.now (g.O.Outputs.places c.args.outputs.now) in
    let now = seen_with g.S.Source c.more.new.input (g.O.Outputs.places c.write_out.new.outputs) in
    let entry =
    still_by (g.E.Engine.work c.args.engine) _
    (λ items. g.R.Items.HasGiven c.args.reader c.more.new.self (given all (g.S.Source.left c.more.new.input) items)) _ _ _ now i
    (c.in-Held.ensures.answer c.args.reader all i.items i.has) c.write_out.ensures c.in-Held.ensures.cause in
    let R : g.row.R.Denot → Type 0 =
    λ reader. IsSoFar g.E.Engine.work g.R.Items.HasGiven g.E.Engine.Holds c.args.reader c.args.engine old
    (seen_with g.S.Source c.more.new.input (g.O.Outputs.places c.take_held.new.outputs)) reader c.take_held.new.engine in
    subst R (sym c.pass.ensures) (c.in-Ok.ensures.under_way c.args.reader c.args.engine old now entry)

pub returns-in-Err : goal.returns-in-Err
returns-in-Err g c =
    let i = c.loop-reader.invariant in
    let all = g.S.Source.left c.args.input.now in
    let old = seen_with g.S.Source c.args.input.now (g.O.Outputs.places c.args.outputs.now) in
    let now = seen_with g.S.Source c.more.new.input (g.O.Outputs.places c.write_out.new.outputs) in
    c.in-Err.ensures.under_way c.args.reader c.args.engine old now
    (still_by (g.E.Engine.work c.args.engine) _
    (λ items. g.R.Items.HasGiven c.args.reader c.more.new.self (given all (g.S.Source.left c.more.new.input) items)) _ _ _ now i
    (c.in-Held.ensures.answer c.args.reader all i.items i.has) c.write_out.ensures c.in-Held.ensures.cause)

pub returns-in-End : goal.returns-in-End
returns-in-End g c =
    let i =
    still _ _ _ _ _ (seen_with g.S.Source c.loop-reader.input (g.O.Outputs.places c.write_out.new.outputs)) c.loop-reader.invariant
    c.write_out.ensures refl in
    let E : RunEnd → Type 0 =
    λ end. Ends (g.R.Items.IsCut c.args.reader) (g.E.Engine.work c.args.engine)
    (seen_with g.S.Source c.args.input.now (g.O.Outputs.places c.args.outputs.now))
    (seen_with g.S.Source c.more.new.input (g.O.Outputs.places c.close.new.outputs)) end in
    subst E (sym c.end_of.ensures)
    (stands_ends (g.R.Items.IsCut c.args.reader) (g.E.Engine.work c.args.engine) (g.met.E.Engine.puts_are_named c.args.engine)
    (g.met.E.Engine.last_puts_are_named c.args.engine) _ _ (end_of c.close.result)
    (ends_at_close (g.R.Items.IsCut c.args.reader) (g.E.Engine.work c.args.engine) _ _ _ _ i
    (g.met.E.Engine.means c.args.engine c.loop-reader.engine) c.close.result _
    (c.in-End.ensures.answer c.args.reader (g.S.Source.left c.args.input.now) i.items i.has) c.in-End.ensures.cause
    (c.close.ensures c.args.engine (reverse i.items) i.holds)))

pub returns-in-Refused : goal.returns-in-Refused
returns-in-Refused g c =
    let i =
    still _ _ _ _ _ (seen_with g.S.Source c.loop-reader.input (g.O.Outputs.places c.write_out.new.outputs)) c.loop-reader.invariant
    c.write_out.ensures refl in
    stands_ends (g.R.Items.IsCut c.args.reader) (g.E.Engine.work c.args.engine) (g.met.E.Engine.puts_are_named c.args.engine)
    (g.met.E.Engine.last_puts_are_named c.args.engine) _ _ (Refused c.in-Refused.reason c.in-Refused.offset)
    (ends_refused (g.R.Items.IsCut c.args.reader) (g.E.Engine.work c.args.engine) _ _ _ _ i
    (g.met.E.Engine.means c.args.engine c.loop-reader.engine) c.in-Refused.reason c.in-Refused.offset _
    (c.in-Refused.ensures.answer c.args.reader (g.S.Source.left c.args.input.now) i.items i.has) refl c.in-Refused.ensures.cause)

pub returns-in-Failed : goal.returns-in-Failed
returns-in-Failed g c =
    let i =
    still _ _ _ _ _ (seen_with g.S.Source c.loop-reader.input (g.O.Outputs.places c.write_out.new.outputs)) c.loop-reader.invariant
    c.write_out.ensures refl in
    stands_ends (g.R.Items.IsCut c.args.reader) (g.E.Engine.work c.args.engine) (g.met.E.Engine.puts_are_named c.args.engine)
    (g.met.E.Engine.last_puts_are_named c.args.engine) _ _ ReadFault
    (ends_failed (g.R.Items.IsCut c.args.reader) (g.E.Engine.work c.args.engine) _ _ _ _ i
    (g.met.E.Engine.means c.args.engine c.loop-reader.engine) _
    (c.in-Failed.ensures.answer c.args.reader (g.S.Source.left c.args.input.now) i.items i.has).1 refl c.in-Failed.ensures.cause)
