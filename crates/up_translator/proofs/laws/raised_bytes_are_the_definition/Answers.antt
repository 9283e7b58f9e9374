use Rattle.up_translator.proofs.RecordingLaws.{Kept, held-new, held-answer, held-after, held-over, held-alone, held-end}
use Rattle.up_translator.proofs.laws.raised_bytes_are_the_definition.Goals as goal

pub returns : goal.returns
returns c = λ paired.
    let parsed = c.parsed_bytes_are_the_definition.ensures in
    let in_range = c.completed_messages_are_in_range.ensures in
    let rooms = c.rooms_that_are_not_reached_do_not_matter_in_bytes.ensures paired in
    let kept : Kept paired = record {
      meant = c.control_changes_are_kept.ensures.meant;
      others = c.other_messages_change_nothing_kept.ensures;
      sizes = c.control_changes_are_kept.ensures.sizes;
      pairs = c.control_changes_are_kept.ensures.paired;
      in_range = c.what_bytes_leave_is_in_range.ensures.number paired;
    } in
    record {
      new = held-new paired parsed;
      answer = held-answer paired parsed in_range;
      after = held-after paired kept parsed in_range rooms;
      held = held-over paired kept parsed in_range rooms;
      alone = held-alone paired kept parsed in_range rooms;
      end = held-end paired parsed;
    }
