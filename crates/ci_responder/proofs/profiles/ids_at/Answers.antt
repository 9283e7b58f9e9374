use Rattle.std.proofs.Common.{◌≡◌, ◌<◌, ◌∙◌, ◌++◌, Some, Bool, true, false, arith, ap, sym, length, slice_get}
use Rattle.ci_responder.specs.declared.keys.Key.{Key}
use Rattle.ci_responder.specs.Replies.{ids_of, listed}
use Rattle.ci_responder.proofs.KeyLaws.{ids-more}
use Rattle.ci_responder.proofs.ListLaws.{all-taken, got, past-last}
use Rattle.ci_responder.proofs.profiles.ids_at.Goals as goal

pub add_listed-requires : goal.add_listed-requires
add_listed-requires c =
    let state : Key × Bool = (c.in-Some.key.now, c.in-Some.on.now) in
    let within : c.loop-key.k < length c.args.states.now.entries =
    (got c.args.states.now.entries c.loop-key.k state state c.in-Some.ensures.entry).0 in
    omega (arith, within, c.requires, c.loop-key.invariant.few)

pub loop-key-smaller : goal.loop-key-smaller
loop-key-smaller c =
    let state : Key × Bool = (c.in-Some.key.now, c.in-Some.on.now) in
    omega (arith, (got c.args.states.now.entries c.loop-key.k state state c.in-Some.ensures.entry).0)

pub loop-key-preserved : goal.loop-key-preserved
loop-key-preserved c =
    let block = c.args.block in
    let place = c.args.place.now in
    let states = c.args.states.now.entries in
    let k = c.loop-key.k in
    let state : Key × Bool = (c.in-Some.key.now, c.in-Some.on.now) in
    let is : Some state ≡ slice_get states k = c.in-Some.ensures.entry in
    record {
      on =
          c.add_listed.ensures.on
          ∙ ap (λ ids. ids ++ listed true block place state) c.loop-key.invariant.on
          ∙ sym (ids-more true block place states k state is);
      off =
          c.add_listed.ensures.off
          ∙ ap (λ ids. ids ++ listed false block place state) c.loop-key.invariant.off
          ∙ sym (ids-more false block place states k state is);
      few = omega (arith, c.add_listed.ensures.few, c.loop-key.invariant.few);
      on_fives = c.add_listed.ensures.on_fives c.loop-key.invariant.on_fives;
      off_fives = c.add_listed.ensures.off_fives c.loop-key.invariant.off_fives;
      on_data = c.add_listed.ensures.on_data c.loop-key.invariant.on_data;
      off_data = c.add_listed.ensures.off_data c.loop-key.invariant.off_data;
      within = omega (arith, (got states k state state is).0);
    }

pub returns-clause-on : goal.returns-clause-on
returns-clause-on c =
    let states = c.args.states.now.entries in
    c.loop-key.invariant.on
    ∙ ap (ids_of true c.args.block c.args.place.now)
    (all-taken states c.loop-key.k (past-last states c.loop-key.k c.in_default.ensures.entry))

pub returns-clause-off : goal.returns-clause-off
returns-clause-off c =
    let states = c.args.states.now.entries in
    c.loop-key.invariant.off
    ∙ ap (ids_of false c.args.block c.args.place.now)
    (all-taken states c.loop-key.k (past-last states c.loop-key.k c.in_default.ensures.entry))
