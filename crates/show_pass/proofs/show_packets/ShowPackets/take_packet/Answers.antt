use Rattle.std.proofs.Common.{ℕ, Option, subst}
use Rattle.show_pass.specs.KeptState.{KeepsPacket}
use Rattle.show_pass.proofs.show_packets.ShowPackets.take_packet.Goals as goal

pub returns-in-Ok-keep_packet-clause-state : goal.returns-in-Ok-keep_packet-clause-state
returns-in-Ok-keep_packet-clause-state g c = λ put.
    let K : Option ℕ → Type 0 = λ ended. KeepsPacket ended c.args.packet.now c.args.self.now.state c.keep_packet.new.kept in
    subst K c.in-Ok.ensures.ended.1 c.in-Ok-keep_packet.ensures.keeps
