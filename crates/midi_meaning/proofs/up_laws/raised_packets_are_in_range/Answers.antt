use Rattle.midi_meaning.specs.Raising.{packets_at, packets_up}
use Rattle.midi_meaning.proofs.RaisedRanges.{packets_at_fit, packets_up_fit, exclusive_fits, all_packets, all_in_range}
use Rattle.midi_meaning.proofs.up_laws.raised_packets_are_in_range.Goals as goal

pub returns : goal.returns
returns c = λ paired.
    let at = packets_at_fit paired c.cut_payload_is_joined.ensures c.completed_messages_are_in_range.ensures in
    let up = packets_up_fit paired c.cut_payload_is_joined.ensures c.completed_messages_are_in_range.ensures in
    record {
      packets = λ room group past byte l. all_packets (packets_at paired room group past byte) (at room group past byte l);
      in_range = λ room group past byte l. all_in_range (packets_at paired room group past byte) (at room group past byte l);
      all_packets = λ room group past l. all_packets (packets_up paired room group past) (up room group past l);
      all_in_range = λ room group past l. all_in_range (packets_up paired room group past) (up room group past l);
      exclusive = exclusive_fits;
    }
