use Rattle.std.proofs.Common.{false}
use Rattle.usb_midi1.proofs.SplitLaws.{split_means}
use Rattle.usb_midi1.proofs.laws.split_events_mean_the_bytes.Goals as goal

pub returns : goal.returns
returns c =
    split_means c.completed_messages_are_in_range.ensures (c.rooms_that_are_not_reached_do_not_matter_in_bytes.ensures false)
    c.written_messages_are_read_again.ensures
