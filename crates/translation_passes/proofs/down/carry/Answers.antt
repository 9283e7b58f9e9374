use Rattle.std.proofs.Common.{subst}
use Rattle.down_translator.specs.Held.{DownState}
use Rattle.pass_loop.specs.Places.{Places}
use Rattle.translation_passes.specs.Down.{Carries}
use Rattle.translation_passes.proofs.down.carry.Goals as goal

pub returns-in-None-clause-carries : goal.returns-in-None-clause-carries
returns-in-None-clause-carries g c =
    let old = g.O.Outputs.places c.args.outputs.now in
    let new = g.O.Outputs.places c.carry_encoded.new.outputs in
    let done = c.carry_encoded.result in
    let At : Places → Type 0 = λ places. Carries c.carry_at_once.new.down c.args.offset c.args.packet.now places new done in
    let From : DownState → Type 0 = λ from. Carries from c.args.offset c.args.packet.now old new done in
    subst From c.in-None.ensures.1 (subst At c.in-None.ensures.2 c.carry_encoded.ensures.carries)
