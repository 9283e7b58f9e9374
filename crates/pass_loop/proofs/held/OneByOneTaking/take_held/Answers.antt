use Rattle.std.proofs.Common.{◌≡◌, ◌<◌, ℕ, refl, arith, ap, inl, inr, length, subst, sym, ◌∙◌}
use Rattle.std.proofs.lemmas.Result.{err_from_is_err_and}
use Rattle.std.specs.Prelude.{reverse, ◌⊎◌}
use Rattle.item_reader.specs.SoFar.{given}
use Rattle.pass_loop.specs.ForProofs.HeldLaws.{found_at, with_places}
use Rattle.pass_loop.specs.ForProofs.NamedLaws.{stands_ends}
use Rattle.pass_loop.specs.ForProofs.PassLaws.{one_more, ends_at_step, ends_refused}
use Rattle.pass_loop.specs.Next.{IsFurther}
use Rattle.pass_loop.specs.declared.ends.RunEnd.TheVariants.{Refused}
use Rattle.pass_loop.specs.declared.pass.Found.{Found}
use Rattle.pass_loop.proofs.held.OneByOneTaking.take_held.Goals as goal

pub step-requires-clause-item : goal.step-requires-clause-item
step-requires-clause-item g c =
    let way = c.requires.under_way in
    let i = c.loop-at.invariant.2 way.0 way.1 way.2 way.3 way.4 in
    let answer = found_at g.R.Items.IsCut g.R.Items.Promises g.R.Items.HasGiven g.R.Items.passed way.0 c.args.reader.now
    (given way.2.left way.3.left i.items) _ _ c.in-Some-Item.field-0-is (c.in-Some-Item.ensures.answer way.0 way.2.left way.3.left i.items i.has) in
    (c.requires.items (reverse i.items) (c.in-Some-Item.at, c.in-Some-Item.item) answer.1).0

pub step-requires-clause-holds : goal.step-requires-clause-holds
step-requires-clause-holds g c =
    let way = c.requires.under_way in
    let i = c.loop-at.invariant.2 way.0 way.1 way.2 way.3 way.4 in
    let answer = found_at g.R.Items.IsCut g.R.Items.Promises g.R.Items.HasGiven g.R.Items.passed way.0 c.args.reader.now
    (given way.2.left way.3.left i.items) _ _ c.in-Some-Item.field-0-is (c.in-Some-Item.ensures.answer way.0 way.2.left way.3.left i.items i.has) in
    (way.1, reverse i.items, i.holds, (c.requires.items (reverse i.items) (c.in-Some-Item.at, c.in-Some-Item.item) answer.1).1)

pub step-requires-clause-begun : goal.step-requires-clause-begun
step-requires-clause-begun g c = λ uses.
    let way = c.requires.under_way in
    let i = c.loop-at.invariant.2 way.0 way.1 way.2 way.3 way.4 in
    ap (λ s. s.begun) i.places ∙ sym (ap (λ s. s.begun) way.4.places) ∙ c.requires.begun uses

pub returns-in_err-step-in-Some-Item-clause-under_way : goal.returns-in_err-step-in-Some-Item-clause-under_way
returns-in_err-step-in-Some-Item-clause-under_way g c = λ first begun old now entry.
    let i = c.loop-at.invariant.2 first begun old now entry in
    let answer = found_at g.R.Items.IsCut g.R.Items.Promises g.R.Items.HasGiven g.R.Items.passed first c.args.reader.now
    (given old.left now.left i.items) _ _ c.in-Some-Item.field-0-is (c.in-Some-Item.ensures.answer first old.left now.left i.items i.has) in
    let steps =
    c.in_err-step-in-Some-Item.ensures begun (reverse i.items) i.holds
    (c.requires.items (reverse i.items) (c.in-Some-Item.at, c.in-Some-Item.item) answer.1).1 in
    let p = err_from_is_err_and c.from_residual.result c.from_residual.ensures.1 in
    rw (p.1, p.2)
    (stands_ends (g.R.Items.IsCut first) (g.E.Engine.work begun) (g.met.E.Engine.puts_are_named begun)
    (g.met.E.Engine.last_puts_are_named begun) _ _ c.in_err-step-in-Some-Item.field-0.0
    (ends_at_step (g.R.Items.IsCut first) (g.E.Engine.work begun) _ _ _ _ i (g.met.E.Engine.means begun c.loop-at.engine)
    (c.in-Some-Item.at, c.in-Some-Item.item) c.in_err-step-in-Some-Item.field-0.0 (with_places now (g.O.Outputs.places c.step.new.outputs))
    answer.2 refl steps.0))

pub loop-at-preserved : goal.loop-at-preserved
loop-at-preserved g c =
    let N : Found g.row.A.Denot g.row.I.Denot → Type 0 =
    λ found. IsFurther (λ at. g.R.Items.to_go (g.R.Items.passed at c.args.reader.now)) (length c.held-offset.result.0.now) c.loop-at.place found in
    let further = subst N c.in-Some-Item.field-0-is c.in-Some-Item.ensures.further in (
      omega (arith, further.0, ap length c.held-offset.ensures.bytes),
      inr (nearer c.loop-at.invariant.1 further.1),
      λ first begun old now entry.
          let i = c.loop-at.invariant.2 first begun old now entry in
          let answer = found_at g.R.Items.IsCut g.R.Items.Promises g.R.Items.HasGiven g.R.Items.passed first c.args.reader.now
          (given old.left now.left i.items) _ _ c.in-Some-Item.field-0-is (c.in-Some-Item.ensures.answer first old.left now.left i.items i.has) in
          let steps =
          c.in_ok-step-in-Some-Item.ensures begun (reverse i.items) i.holds
          (c.requires.items (reverse i.items) (c.in-Some-Item.at, c.in-Some-Item.item) answer.1).1 in
          one_more (g.R.Items.IsCut first) (g.E.Engine.work begun) _ _ _ _ i (g.met.E.Engine.means begun c.loop-at.engine) _ _
          (c.in-Some-Item.at, c.in-Some-Item.item) (with_places now (g.O.Outputs.places c.step.new.outputs)) answer.0 refl steps.0 steps.1,
    )
  where
    nearer : (c.loop-at.place ≡ 0) ⊎ (g.R.Items.to_go (g.R.Items.passed c.loop-at.place c.args.reader.now) < g.R.Items.to_go c.args.reader.now)
        → g.R.Items.to_go (g.R.Items.passed c.in-Some-Item.next c.args.reader.now)
        < g.R.Items.to_go (g.R.Items.passed c.loop-at.place c.args.reader.now)
        → g.R.Items.to_go (g.R.Items.passed c.in-Some-Item.next c.args.reader.now) < g.R.Items.to_go c.args.reader.now
    nearer (inl none) less =
        let P : ℕ → Type 0 =
        λ n. g.R.Items.to_go (g.R.Items.passed c.in-Some-Item.next c.args.reader.now) < g.R.Items.to_go (g.R.Items.passed n c.args.reader.now) in
        let Q : g.row.R.Denot → Type 0 = λ r. g.R.Items.to_go (g.R.Items.passed c.in-Some-Item.next c.args.reader.now) < g.R.Items.to_go r in
        subst Q (g.met.R.Items.stays c.args.reader.now) (subst P none less)
    nearer (inr some) less = omega (arith, some, less)

pub returns-in-Some-Refused-clause-under_way : goal.returns-in-Some-Refused-clause-under_way
returns-in-Some-Refused-clause-under_way g c = λ first begun old now entry.
    let i = c.loop-at.invariant.2 first begun old now entry in
    let answer = found_at g.R.Items.IsCut g.R.Items.Promises g.R.Items.HasGiven g.R.Items.passed first c.args.reader.now
    (given old.left now.left i.items) _ _ c.in-Some-Refused.field-0-is (c.in-Some-Refused.ensures.answer first old.left now.left i.items i.has) in
    stands_ends (g.R.Items.IsCut first) (g.E.Engine.work begun) (g.met.E.Engine.puts_are_named begun)
    (g.met.E.Engine.last_puts_are_named begun) _ _ (Refused c.in-Some-Refused.reason c.in-Some-Refused.offset)
    (ends_refused (g.R.Items.IsCut first) (g.E.Engine.work begun) _ _ _ _ i (g.met.E.Engine.means begun c.loop-at.engine)
    c.in-Some-Refused.reason c.in-Some-Refused.offset (with_places now (g.O.Outputs.places c.loop-at.outputs)) answer refl refl)
