use Rattle.midi_meaning.proofs.Compact.{exclusive_plain, system_plain}
use Rattle.midi_meaning.proofs.style_laws.system_pieces_are_plain.Goals as goal

pub returns : goal.returns
returns c = λ paired. record {
  system = system_plain paired c.statuses_that_run_can_be_left_out.ensures;
  exclusive = exclusive_plain paired c.statuses_that_run_can_be_left_out.ensures;
}
