use Rattle.std.proofs.Common.{◌+◌, ◌≤◌, ℕ, List, arith, ap, drop, length, refl, subst, sym, take, ◌∙◌}
use Rattle.std.proofs.lemmas.List.{length-drop}
use Rattle.std.proofs.lemmas.Result.{err_from_is_err_and}
use Rattle.std.specs.Prelude.{reverse}
use Rattle.item_reader.specs.Reading.{Reading, held_bytes, passed}
use Rattle.item_reader.specs.declared.byte_reader.EachByte.{EachByte}
use Rattle.pass_loop.specs.Bytes.{GivenSoFar, byte_cutting, placed_at}
use Rattle.pass_loop.specs.ForProofs.HeldLaws.{IsSoFar, with_places}
use Rattle.pass_loop.specs.ForProofs.NamedLaws.{stands_ends}
use Rattle.pass_loop.specs.ForProofs.Starting.{none_passed}
use Rattle.pass_loop.specs.Runs.{EndsWithin, StepsOver}
use Rattle.pass_loop.proofs.ByteLaws.{at_end}
use Rattle.pass_loop.proofs.RunLaws.{all_behind, all_taken, ends_in, goes_on}
use Rattle.pass_loop.proofs.runs.SeveralAtOnceTakingU64U8ByteReader.take_held.Goals as goal

pub loop-place-init : goal.loop-place-init
loop-place-init g c = (
  omega arith,
  λ first begun old now entry.
      let R : Reading EachByte → Type 0 =
      λ reader. IsSoFar g.E.Engine.work (λ first reader so_far. GivenSoFar reader so_far) g.E.Engine.Holds first begun old
      (with_places now (g.O.Outputs.places c.args.outputs.now)) reader c.args.engine.now in
      subst R (sym (none_passed c.args.reader.now)) entry,
)

pub take_some-requires-clause-holds : goal.take_some-requires-clause-holds
take_some-requires-clause-holds g c =
    let way = c.requires.under_way in
    let i = c.loop-place.invariant.1 way.0 way.1 way.2 way.3 way.4 in (
      way.1,
      reverse i.items,
      i.holds,
      ap (λ n. n + c.loop-place.place) c.held-offset.ensures.offset
          ∙ at_end (passed c.loop-place.place c.args.reader.now) way.2.left way.3.left i.items i.has,
    )

pub take_some-requires-clause-begun : goal.take_some-requires-clause-begun
take_some-requires-clause-begun g c = λ uses.
    let way = c.requires.under_way in
    let i = c.loop-place.invariant.1 way.0 way.1 way.2 way.3 way.4 in
    ap (λ s. s.begun) i.places ∙ sym (ap (λ s. s.begun) way.4.places) ∙ c.requires.begun uses

pub returns-in_err-place-clause-under_way : goal.returns-in_err-place-clause-under_way
returns-in_err-place-clause-under_way g c = λ first begun old now entry.
    let i = c.loop-place.invariant.1 first begun old now entry in
    let at =
    ap (λ n. n + c.loop-place.place) c.held-offset.ensures.offset
    ∙ at_end (passed c.loop-place.place c.args.reader.now) old.left now.left i.items i.has in
    let behind =
    all_behind c.loop-place.place c.held-offset.result.0.now ∙ ap (λ held. drop c.loop-place.place held) c.held-offset.ensures.bytes in
    let E : List ℕ → Type 0 =
    λ bytes. EndsWithin (g.E.Engine.work begun) (g.E.Engine.Holds begun) (reverse i.items) bytes
    (g.O.Outputs.places c.loop-place.outputs) (g.O.Outputs.places c.take_some.new.outputs) c.in_err-place.field-0.0 in
    let ends = subst E behind (c.in_err-place.ensures.run begun (reverse i.items) i.holds at) in
    let p = err_from_is_err_and c.from_residual.result c.from_residual.ensures.1 in
    rw (p.1, p.2)
    (stands_ends byte_cutting (g.E.Engine.work begun) (g.met.E.Engine.puts_are_named begun) (g.met.E.Engine.last_puts_are_named begun) _ _
    c.in_err-place.field-0.0
    (ends_in (g.E.Engine.work begun) (g.E.Engine.Holds begun) (g.met.E.Engine.means begun)
    (c.items_are_taken_in_order.ensures (λ how. placed_at)) c.args.reader.now old now.left c.loop-place.engine c.in_err-place.field-0.0
    c.loop-place.place (with_places now (g.O.Outputs.places c.loop-place.outputs))
    (with_places now (g.O.Outputs.places c.take_some.new.outputs)) i refl ends))

pub loop-place-preserved : goal.loop-place-preserved
loop-place-preserved g c =
    let held = c.held-offset.result.0.now in
    let count = c.in_ok-place.field-0 in
    let fits = c.in_ok-place.ensures.count in
    let behind = all_behind c.loop-place.place held ∙ ap (λ bytes. drop c.loop-place.place bytes) c.held-offset.ensures.bytes in
    let L : List ℕ → Type 0 = λ bytes. count ≤ length bytes in
    let within = subst L behind fits.1 in
    let rest = length-drop c.loop-place.place (held_bytes c.args.reader.now) in (
      omega (arith, within, rest, c.loop-place.invariant.0),
      λ first begun old now entry.
          let i = c.loop-place.invariant.1 first begun old now entry in
          let at =
          ap (λ n. n + c.loop-place.place) c.held-offset.ensures.offset
          ∙ at_end (passed c.loop-place.place c.args.reader.now) old.left now.left i.items i.has in
          let S : List ℕ → Type 0 =
          λ bytes. StepsOver (g.E.Engine.work begun) (g.E.Engine.Holds begun) c.take_some.new.engine (reverse i.items) (take count bytes)
          (g.O.Outputs.places c.loop-place.outputs)
          (g.O.Outputs.places c.take_some.new.outputs) in
          goes_on (g.E.Engine.work begun) (g.E.Engine.Holds begun) (g.met.E.Engine.means begun)
          (c.items_are_taken_in_order.ensures (λ how. placed_at)) c.args.reader.now old now.left c.loop-place.engine
          c.take_some.new.engine c.loop-place.place count (with_places now (g.O.Outputs.places c.loop-place.outputs))
          (with_places now (g.O.Outputs.places c.take_some.new.outputs)) i within refl
          (subst S behind (c.in_ok-place.ensures.run begun (reverse i.items) i.holds at)),
    )

pub returns-clause-taken : goal.returns-clause-taken
returns-clause-taken g c =
    all_taken c.args.reader.now c.loop-place.place
    (omega (arith, c.loop-place.invariant.0, c.loop-place-test.false, ap length c.held-offset.ensures.bytes))

pub returns-clause-under_way : goal.returns-clause-under_way
returns-clause-under_way g c = c.loop-place.invariant.1
