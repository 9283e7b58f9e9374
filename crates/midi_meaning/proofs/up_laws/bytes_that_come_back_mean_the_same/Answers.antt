use Rattle.std.proofs.Common.{reverse, take}
use Rattle.midi_meaning.proofs.Back.{back_means, back-lane}
use Rattle.midi_meaning.proofs.up_laws.bytes_that_come_back_mean_the_same.Goals as goal

pub returns : goal.returns
returns c = λ paired.
    let means =
    back_means paired c.written_messages_are_read_again.ensures c.cut_payload_is_joined.ensures c.completed_messages_are_in_range.ensures in
    record { behind = means; after_each = λ group count bytes. means group (reverse (take count bytes)); lane = back-lane paired }
