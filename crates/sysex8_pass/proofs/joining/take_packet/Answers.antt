use Rattle.std.proofs.Common.{◌≡◌, sym, subst}
use Rattle.ump_grammar.specs.declared.packet.Packet.{Packet}
use Rattle.pass_loop.specs.Pass.{Takes}
use Rattle.sysex8_streams.specs.Table.{answer8_to}
use Rattle.sysex8_pass.specs.Held.{packet_after}
use Rattle.sysex8_pass.specs.Joining.{packet_puts, packet_refusal}
use Rattle.sysex8_pass.proofs.joining.take_packet.Goals as goal

pub returns-in-Data8-clause-after : goal.returns-in-Data8-clause-after
returns-in-Data8-clause-after g c =
    let P : Packet → Type 0 = λ packet. c.take_data8.new.streams ≡ packet_after c.args.offset packet c.args.streams.now in
    subst P (sym c.in-Data8.is) c.take_data8.ensures.after

pub returns-in-Data8-clause-takes : goal.returns-in-Data8-clause-takes
returns-in-Data8-clause-takes g c =
    let P : Packet → Type 0 =
    λ packet. Takes (packet_refusal (answer8_to c.args.streams.now) c.args.offset packet)
    (packet_puts (answer8_to c.args.streams.now) c.args.offset packet)
    (g.O.Outputs.places c.args.outputs.now)
    (g.O.Outputs.places c.take_data8.new.outputs) c.take_data8.result in
    subst P (sym c.in-Data8.is) c.take_data8.ensures.takes
