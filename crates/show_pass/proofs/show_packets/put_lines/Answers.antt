use Rattle.std.proofs.Common.{[], ◌∷◌}
use Rattle.std.proofs.lemmas.Result.{err_from_is_err_and}
use Rattle.midi_lines.specs.PacketLines.{packet_text}
use Rattle.pass_loop.specs.Put.{in_output}
use Rattle.pass_loop.specs.ForProofs.PutLaws.{stops_more, then_puts}
use Rattle.show_pass.specs.Texts.{line_of_text, text_of, text_puts}
use Rattle.show_pass.proofs.show_packets.put_lines.Goals as goal

pub returns-clause-puts : goal.returns-clause-puts
returns-clause-puts g c =
    let packet = c.args.packet.now in
    let framed = c.args.framed.now in
    then_puts (in_output (packet_text packet framed.words framed.offset) ∷ []) (text_puts (line_of_text (text_of packet) c.args.texts.now))
    (g.O.Outputs.places c.args.outputs.now)
    (g.O.Outputs.places c.put_packet.new.outputs) _ _ c.in_ok-put_packet.ensures c.put_text.ensures.puts

pub returns-in_err-put_packet-clause-puts : goal.returns-in_err-put_packet-clause-puts
returns-in_err-put_packet-clause-puts g c =
    let end = c.in_err-put_packet.field-0.0 in
    let packet = c.args.packet.now in
    let framed = c.args.framed.now in
    let p = err_from_is_err_and c.from_residual.result c.from_residual.ensures.1 in
    rw (p.1, p.2) (stops_more (in_output (packet_text packet framed.words framed.offset) ∷ [])
    (text_puts (line_of_text (text_of packet) c.args.texts.now)) end
    (g.O.Outputs.places c.args.outputs.now) _ c.in_err-put_packet.ensures)
