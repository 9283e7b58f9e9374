use Rattle.midi_meaning.proofs.Induction.{start_denotes}
use Rattle.midi_meaning.proofs.laws.nothing_denotes_nothing.Goals as goal

pub returns : goal.returns
returns c = λ paired. start_denotes paired
