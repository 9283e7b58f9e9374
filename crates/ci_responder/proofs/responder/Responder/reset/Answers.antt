use Rattle.std.proofs.Common.{arith, ◌≡◌, ◌∙◌, ap, length, map, subst, sym}
use Rattle.std.proofs.lemmas.List.{with_items_is}
use Rattle.ci_responder.specs.Held.{Held}
use Rattle.ci_responder.specs.Reset.{IsOf, unspent}
use Rattle.ci_responder.specs.Keys.{first_states}
use Rattle.ci_responder.proofs.StayLaws.{begun_again}
use Rattle.ci_responder.proofs.responder.Responder.reset.Goals as goal

pub returns : goal.returns
returns c =
    let setup = c.args.setup.now in
    let inside = c.self.inside in
    let held : Held = record {
      blocks = inside.blocks.items;
      states = inside.states.entries;
      identity = inside.identity;
      product_id = inside.product_id;
      room = inside.room;
    } in
    let is : IsOf setup held = subst (λ h. IsOf setup h) (sym c.self.view_is) c.requires in
    let count : length c.reset_blocks.new.blocks ≡ inside.blocks.len =
    omega (arith, c.reset_blocks.auto.blocks, c.as_mut_slice.ensures.len) in
    let blocks = with_items_is inside.blocks c.reset_blocks.new.blocks count ∙ c.reset_blocks.ensures.value ∙ ap (map unspent) c.as_mut_slice.ensures.value ∙ begun_again setup held is in
    let states = c.reset_states.ensures ∙ ap first_states c.profiles.ensures.value in
    let room = ap (λ (h : Held). h.room) c.self.view_is in
    (λ j. record {
      blocks = blocks j;
      states = states j;
      identity = is.identity j;
      product_id = is.product_id j;
      room = room j;
    })
