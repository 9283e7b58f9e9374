use Rattle.std.proofs.Common.{reverse, take}
use Rattle.midi_meaning.proofs.Up.{raised_agrees}
use Rattle.midi_meaning.proofs.up_laws.raised_packets_mean_the_bytes.Goals as goal

pub returns : goal.returns
returns c = λ paired.
    let agrees = raised_agrees paired c.cut_payload_is_joined.ensures c.completed_messages_are_in_range.ensures in
    record { behind = agrees; after_each = λ group count bytes. agrees group (reverse (take count bytes)) }
