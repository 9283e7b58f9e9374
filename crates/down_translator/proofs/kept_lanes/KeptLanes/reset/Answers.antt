use Rattle.std.proofs.Common.{◌≡◌, ◌∙◌, ap, arith, length, vec_len, ◌≤◌}
use Rattle.std.proofs.lemmas.List.{with_items_is}
use Rattle.down_translator.specs.KeptLanes.{style_in}
use Rattle.down_translator.proofs.UnsetLaws.{lanes_again}
use Rattle.down_translator.proofs.kept_lanes.KeptLanes.reset.Goals as goal

pub returns : goal.returns
returns c =
    let held = c.self.inside in
    let lanes = c.loop-lane.lane-items in
    let index = c.loop-lane.lane-index in
    let size : length lanes ≡ vec_len held.lanes = c.loop-lane.auto.lane-items ∙ c.deref_mut-lane-items.ensures.len in
    let whole : 16 ≤ index = omega (arith, c.loop-lane-test.false, c.loop-lane.auto.lane-items, c.loop-lane.invariant.0) in
    let kept = c.loop-lane.invariant in
    lanes_again held.paired c.args.self.now.paired (style_in held.style) c.args.self.now.style index _ lanes
    (ap (λ view. view.paired) c.self.view_is) (ap (λ view. view.style) c.self.view_is) (with_items_is held.lanes lanes size) kept.0 whole
    kept.1
