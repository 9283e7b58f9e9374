use Rattle.std.proofs.Common.{◌≡◌, ◌∷◌, [], ℕ, Bool, false, List, Option, refl, ap, sym, ◌∙◌, subst}
use Rattle.std.specs.Prelude.{Some, is_some}
use Rattle.ump_grammar.specs.declared.packet.Packet.{Packet}
use Rattle.ump_grammar.specs.declared.packet.Packet.TheVariants as packets
use Rattle.sysex_groups.specs.Table.{Table}
use Rattle.midi1_bytes.specs.Messages.{exclusive}
use Rattle.midi_meaning.specs.declared.listed.BadStep.{BadStep}
use Rattle.midi_meaning.specs.Parts.{Placed, part_of, parts_of}
use Rattle.midi_meaning.specs.Refusal.{bad_part, bad_step}
use Rattle.midi_lines.specs.PacketLines.{packet_text}
use Rattle.midi_meaning.specs.Styles.{plain_style}
use Rattle.down_translator.specs.Held.{refusal_in, with_part_of}
use Rattle.down_translator.specs.Recording.{packets_of, state_of}
use Rattle.pass_loop.specs.Pass.{TakesIn}
use Rattle.pass_loop.specs.Put.{Put, in_output}
use Rattle.listing_lines.specs.Refusal.{refusal_by}
use Rattle.show_pass.specs.KeptState.{KeepsPacket, ended_in}
use Rattle.packet_input.specs.Placed.{all_placed, placed_of}
use Rattle.show_pass.specs.ShowPackets.{bad_join, packet_line_options, packet_puts, showing}
use Rattle.show_pass.specs.Texts.{AreOfTheirKinds, line_of_text, text_line, text_of, text_puts, texts_after}
use Rattle.show_pass.specs.declared.texts.Texts.{Texts}
use Rattle.show_pass.proofs.KeptLaws.{packet_kept, steps_when_kept, whole_is, within_more}
use Rattle.show_pass.proofs.TextLaws.{kinds-are, line-is}
use Rattle.show_pass.proofs.show_packets.ShowPacketsEngineFramedPacket.step.Goals as goal

-- what the groups hold says which packet passes the room
bad_is : (room : ℕ) (past : List Placed)
    (law : (p : Packet) → refusal_in (state_of false plain_style room past) p ≡ bad_step (Some room) (parts_of past) p) (p : Packet)
    → bad_join (state_of false plain_style room past).exclusives p ≡ bad_part (Some room) (parts_of past) (part_of 0 p)
bad_is room past law (packets.Exclusive g f bytes) = law (packets.Exclusive g f bytes)
bad_is room past law (packets.Utility s v) = refl
bad_is room past law (packets.System g m) = refl
bad_is room past law (packets.Voice1 g m) = refl
bad_is room past law (packets.Voice2 g m) = refl
bad_is room past law (packets.Data8 g w) = refl
bad_is room past law (packets.Flex g w) = refl
bad_is room past law (packets.Stream f s l w x y) = refl
bad_is room past law (packets.Reserved w) = refl

pub take_packet-requires-clause-kinds : goal.take_packet-requires-clause-kinds
take_packet-requires-clause-kinds g c =
    let past : List Packet = packets_of (all_placed c.requires.holds.1) in
    let A : Texts → Type 0 = λ texts. AreOfTheirKinds texts in
    subst A (sym c.requires.holds.2.texts_are) (kinds-are past)

pub returns : goal.returns
returns g c = λ first past holds given.
    let old = g.O.Outputs.places c.args.outputs.now in
    let new = g.O.Outputs.places c.take_packet.new.outputs in
    let laws = c.what_is_held_is_the_definition.ensures false in
    let takes = c.take_packet.ensures in
    let packet = c.args.item.now in
    let framed = c.args.at.now in
    let room : ℕ = first.groups.room in
    let before : List Placed = all_placed past in
    let packets : List Packet = packets_of before in
    let table : Table = (state_of false plain_style room before).exclusives in
    let texts : Texts = c.args.self.now.texts in
    let lines : Option (List ℕ) → List Put = λ l. in_output (packet_text packet framed.words framed.offset) ∷ text_puts l in
    let range = c.spelled_packets_are_in_range.ensures packet c.requires.item in
    let bad : bad_join c.args.self.now.groups packet ≡ bad_part (Some room) (parts_of before) (part_of 0 packet) =
    ap (λ table. bad_join table packet) holds.table_is
    ∙ bad_is room before (laws.refusal plain_style room before holds.least holds.range) packet in
    let line : line_of_text (text_of packet) texts ≡ text_line packets packet =
    ap (line_of_text (text_of packet)) holds.texts_are ∙ line-is c.joined_parts_are_the_definition.ensures.answers packets packet in
    let T : Option BadStep → Type 0 =
    λ b. TakesIn (is_some c.args.self.now.state) (refusal_by b framed.offset) (lines (line_of_text (text_of packet) texts)) old new
    c.take_packet.result in
    let L : Option (List ℕ) → Type 0 =
    λ l. TakesIn (is_some c.args.self.now.state) (refusal_by (bad_part (Some room) (parts_of before) (part_of 0 packet)) framed.offset)
    (lines l) old new c.take_packet.result in
    let G : Bool → Type 0 =
    λ g. TakesIn g (refusal_by (bad_part (Some room) (parts_of before) (part_of 0 packet)) framed.offset) (lines (text_line packets packet))
    old new c.take_packet.result in
    let E : Table → Type 0 = λ t. KeepsPacket (ended_in t packet) packet c.args.self.now.state c.take_packet.new.self.state in
    steps_when_kept (showing (packet_line_options first.groups first.state)) past (framed, packet) old new _ c.take_packet.result
    (packet_puts packets (framed, packet)) (subst G holds.is_kept (subst L line (subst T bad takes.takes)))
    (λ fine. refl)
    (λ fine all. record {
      least = holds.least;
      range = (range, holds.range);
      within = within_more room framed.offset packet before holds.least range fine holds.within;
      table_is =
          takes.groups
          ∙ ap (with_part_of (part_of framed.offset packet)) holds.table_is
          ∙ ap (λ state. state.exclusives) (laws.behind plain_style room before (placed_of (framed, packet)));
      texts_are = takes.texts all ∙ ap (texts_after (text_of packet)) holds.texts_are;
      is_kept = (takes.state all (exclusive [])).0 ∙ holds.is_kept;
      stands =
          packet_kept c.packets_are_kept.ensures packets c.args.self.now.state c.take_packet.new.self.state holds.stands table packet
          (laws.whole plain_style room before holds.least holds.range packet
          ∙ whole_is c.rooms_that_are_not_passed_do_not_matter.ensures c.joined_bytes_know_no_offsets.ensures room framed.offset before
          packet fine holds.within)
          (subst E holds.table_is (takes.state all));
    })
