use Rattle.outside.specs.Runs.{runs_are_gained}
use Rattle.outside.proofs.laws.runs_are_gained_as_one.Goals as goal

pub returns : goal.returns
returns c = record { bytes = runs_are_gained; pairs = runs_are_gained }
