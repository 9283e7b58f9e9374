use Rattle.std.proofs.Common.{subst}
use Rattle.midi_meaning.proofs.ByteRooms.{FitsMessage, completed_fits_room}
use Rattle.midi_meaning.proofs.RaisedRanges.{bank_in_range, number_in_range, values_in_range}
use Rattle.midi_meaning.proofs.up_laws.what_bytes_leave_is_in_range.Goals as goal

pub returns : goal.returns
returns c = record {
  values = λ paired. values_in_range paired c.cut_payload_is_joined.ensures c.completed_messages_are_in_range.ensures;
  bank = λ paired. bank_in_range paired c.completed_messages_are_in_range.ensures;
  number = λ paired. number_in_range paired c.completed_messages_are_in_range.ensures;
  payload = λ room past byte bytes e. subst (FitsMessage room) e (completed_fits_room room past byte);
}
