use Rattle.std.proofs.Common.{ℕ, Option, None, refl, sym, subst}
use Rattle.midi_meaning.specs.Messages.{raised}
use Rattle.voice_state.specs.Kept.{Keeps}
use Rattle.voice_state.specs.States.{after_packet}
use Rattle.show_pass.specs.KeptState.{after_ending}
use Rattle.show_pass.proofs.kept_state.take_packet.Goals as goal

pub returns-in-Some : goal.returns-in-Some
returns-in-Some c = λ message states keeps.
    let E : Option ℕ → Type 0 = λ ended. Keeps raised c.system.new.self (after_ending ended c.args.packet.now message states) in
    subst E (sym c.in-Some.is) (c.system.ensures.common refl raised (after_packet c.args.packet.now None states) message
    (c.in_ok-apply2.ensures.step states keeps))

pub returns-in_default : goal.returns-in_default
returns-in_default c = λ message states keeps.
    let E : Option ℕ → Type 0 = λ ended. Keeps raised c.apply2.new.self (after_ending ended c.args.packet.now message states) in
    subst E (sym c.in_default.is) (c.in_ok-apply2.ensures.step states keeps)
