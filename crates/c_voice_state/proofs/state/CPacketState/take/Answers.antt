use Rattle.c_answers.specs.Numbers.{number_of}
use Rattle.c_voice_state.proofs.TakenLaws.{taken_other}
use Rattle.c_voice_state.proofs.state.CPacketState.take.Goals as goal

pub returns-in_default : goal.returns-in_default
returns-in_default c =
    taken_other c.args.self.now c.other.new.self c.args.packet.now (number_of c.other.result) c.in_default.not-Exclusive
    c.other.ensures.exclusives c.other.ensures.kept
