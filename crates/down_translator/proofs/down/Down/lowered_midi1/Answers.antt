use Rattle.std.proofs.Common.{◌∙◌, sym}
use Rattle.down_translator.proofs.Midi1Laws.{midi1_step, same_lowered}
use Rattle.down_translator.proofs.down.Down.lowered_midi1.Goals as goal

pub returns-in-Some : goal.returns-in-Some
returns-in-Some c =
    midi1_step c.args.self.now c.args.packet.now c.in-Some.message c.in-Some.ensures
    (sym (same_lowered c.args.self.now c.args.packet.now c.in-Some.message c.in-Some.ensures) ∙ sym c.lowers.ensures ∙ c.if-lowers.true)
