use Rattle.midi_meaning.proofs.Styles.{compact_relied, styled_closed, styled_registers}
use Rattle.midi_meaning.proofs.style_laws.styled_lanes_leave_the_registers.Goals as goal

pub returns : goal.returns
returns c = λ paired. record {
  registers = styled_registers paired c.statuses_that_run_can_be_left_out.ensures c.written_messages_are_read_again.ensures;
  closed = styled_closed paired c.statuses_that_run_can_be_left_out.ensures c.written_messages_are_read_again.ensures;
  relied = compact_relied paired c.statuses_that_run_can_be_left_out.ensures c.written_messages_are_read_again.ensures;
}
