use Rattle.std.proofs.Common.{◌≡◌, ◌∙◌, ℕ, List, length, refl, ap, subst}
use Rattle.sysex_groups.specs.Exclusives.{Part}
use Rattle.ump_grammar.specs.declared.packet.Packet.{Packet}
use Rattle.pass_loop.specs.Pass.{Takes}
use Rattle.pass_loop.specs.ForProofs.StepLaws.{takes_steps}
use Rattle.sysex8_streams.specs.History.{Answer8, answer8}
use Rattle.sysex8_streams.specs.Table.{answer8_to}
use Rattle.sysex8_pass.specs.Held.{packet_after}
use Rattle.sysex8_pass.specs.Options.{options8}
use Rattle.sysex8_pass.specs.Joining.{joining, packet_puts, packet_refusal}
use Rattle.sysex8_pass.specs.Parts.{parts_at, parts_of}
use Rattle.sysex8_pass.proofs.PartLaws.{after-packet, parts-few, parts-then}
use Rattle.sysex8_pass.proofs.joining.Sysex8EngineEngineFramedPacket.step.Goals as goal

pub take_packet-requires-clause-begun : goal.take_packet-requires-clause-begun
take_packet-requires-clause-begun g c = c.requires.begun tt

pub returns : goal.returns
returns g c = λ first past holds given.
    let old = g.O.Outputs.places c.args.outputs.now in
    let new = g.O.Outputs.places c.take_packet.new.outputs in
    let laws = holds.law in
    let packet : Packet = c.args.item.now in
    let offset : ℕ = c.args.at.now.offset in
    let slots : ℕ = length first.streams.slots in
    let room : ℕ = first.streams.room in
    let parts : List Part = parts_at past in
    let answers : (part : Part) → answer8_to c.args.self.now.streams part ≡ answer8 slots room parts part =
    λ part. ap (λ table. answer8_to table part) holds.table_is ∙ laws.answers slots room parts holds.least holds.parts part in
    let T : (Part → Answer8) → Type 0 =
    λ answer. Takes (packet_refusal answer offset packet) (packet_puts answer offset packet) old new c.take_packet.result in
    takes_steps (joining (options8 first.streams)) past (c.args.at.now, packet) old new _ c.take_packet.result
    (packet_puts (answer8 slots room parts) offset packet)
    (subst T (λ i part. answers part i) c.take_packet.ensures.takes)
    (λ fine. (
      refl,
      record {
        law = holds.law;
        some = holds.some;
        least = holds.least;
        parts = parts-then (parts_of offset packet) parts (parts-few offset packet) holds.parts;
        table_is =
            c.take_packet.ensures.after ∙ ap (packet_after offset packet) holds.table_is ∙ after-packet slots room offset packet parts;
      },
    ))
