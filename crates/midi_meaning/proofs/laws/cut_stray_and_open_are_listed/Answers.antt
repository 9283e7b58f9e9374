use Rattle.midi_meaning.proofs.Rows.{cut_pairs, cut_listing}
use Rattle.midi_meaning.proofs.laws.cut_stray_and_open_are_listed.Goals as goal

pub returns : goal.returns
returns c = record { pairs = cut_pairs; listing = cut_listing }
