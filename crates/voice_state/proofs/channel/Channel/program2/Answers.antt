use Rattle.std.proofs.Common.{◌∙◌, ap, sym, subst}
use Rattle.midi_meaning.specs.Messages.{raised}
use Rattle.midi_meaning.specs.Packets.{program2}
use Rattle.midi_meaning.specs.Registers.{with_bank}
use Rattle.midi_meaning.specs.State.{at_registers}
use Rattle.voice_state.specs.Kept.{KeepsChannel}
use Rattle.voice_state.proofs.KeptChannel.{registers_kept}
use Rattle.voice_state.proofs.channel.Channel.program2.Goals as goal

pub returns-in-None-clause-step : goal.returns-in-None-clause-step
returns-in-None-clause-step c = λ state keeps.
    subst (λ bank. KeepsChannel raised c.set_program.new.self (program2 bank c.args.program state)) (sym c.in-None.is)
    (c.set_program.ensures.step raised state keeps)

pub returns-in-Some-clause-step : goal.returns-in-Some-clause-step
returns-in-Some-clause-step c = λ state keeps.
    let bank = c.in-Some.bank in
    subst (λ bank. KeepsChannel raised c.set_program-in-Some.new.self (program2 bank c.args.program state)) (sym c.in-Some.is)
    (c.set_program-in-Some.ensures.step raised (at_registers (with_bank bank) state)
    (registers_kept raised c.args.self.now c.take_bank.new.self (with_bank bank state.registers) state keeps
    (c.take_bank.ensures ∙ ap (with_bank bank) keeps.registers)))
