use Rattle.std.proofs.Common.{None, ap}
use Rattle.midi_meaning.specs.Messages.{raised}
use Rattle.voice_state.specs.Rooms.{IsPacketFull}
use Rattle.voice_state.specs.States.{after_packet}
use Rattle.c_answers.specs.Numbers.{number_of}
use Rattle.c_voice_state.specs.Kept.{StateKept}
use Rattle.c_voice_state.proofs.TakenLaws.{answered}
use Rattle.c_voice_state.proofs.state.CPacketState.other.Goals as goal

pub returns-clause-kept : goal.returns-clause-kept
returns-clause-kept c =
    let packet = c.args.packet.now in
    answered raised (after_packet packet None) (IsPacketFull packet) c.args.self.now.kept c.self.inside.state c.take_packet.new.self
    (number_of c.kept_status.result) (ap (λ (s : StateKept). s.kept) c.self.view_is) c.take_packet.ensures.rooms
    c.take_packet.result c.kept_status.ensures c.take_packet.ensures.step c.take_packet.ensures.unchanged c.take_packet.ensures.full
