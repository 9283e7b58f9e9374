use Rattle.std.proofs.Common.{subst, List}
use Rattle.std.specs.Prelude.{reverse}
use Rattle.midi_meaning.specs.Lanes.{lane_bytes}
use Rattle.midi_meaning.specs.Relied.{IsRelied}
use Rattle.midi_meaning.specs.Styles.{compact_style, styled_over}
use Rattle.ump_grammar.specs.declared.packet.Packet.{Packet}
use Rattle.down_translator.specs.Recording.{packets_of}
use Rattle.down_translator.proofs.LaneLaws.{held-lane_of, range-packets}
use Rattle.down_translator.proofs.Turned.{range-turned_packets, twice}
use Rattle.down_translator.proofs.laws.what_is_kept_is_the_meaning.Goals as goal

pub returns : goal.returns
returns c = λ paired.
    record {
      lane =
          held-lane_of paired c.fed_parts_are_the_definition.ensures c.rooms_that_are_not_passed_do_not_matter.ensures
          c.joined_bytes_know_no_offsets.ensures
          (c.kept_lanes_are_those_of_the_recording.ensures paired);
      relied =
          λ past group a.
          let packets : List Packet = packets_of past in
          let P : List Packet → Type 0 = λ ps. IsRelied paired (reverse (lane_bytes group (styled_over paired compact_style ps))) in
          subst P (twice packets)
          ((c.styled_lanes_leave_the_registers.ensures paired).relied (reverse packets) group
          (range-turned_packets packets (range-packets past a)));
    }
