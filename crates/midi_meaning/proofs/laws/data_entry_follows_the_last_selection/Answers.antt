use Rattle.midi_meaning.proofs.Rows.{mixed_pairs, set_by_entry, never_set}
use Rattle.midi_meaning.proofs.laws.data_entry_follows_the_last_selection.Goals as goal

pub returns : goal.returns
returns c = record { pairs = mixed_pairs; entered = set_by_entry; never_set = never_set }
