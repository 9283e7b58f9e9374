use Rattle.outside.specs.Runs.{runs_are_lost}
use Rattle.outside.proofs.laws.runs_are_lost_as_one.Goals as goal

pub returns : goal.returns
returns c = runs_are_lost
