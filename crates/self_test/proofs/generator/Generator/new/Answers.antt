use Rattle.self_test.proofs.GeneratorLaws.{nothing_given}
use Rattle.self_test.proofs.generator.Generator.new.Goals as goal

pub returns : goal.returns
returns c = nothing_given c.args.seed
