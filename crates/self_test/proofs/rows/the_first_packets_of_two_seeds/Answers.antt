use Rattle.std.proofs.Common.{refl}
use Rattle.self_test.specs.Generator.{generated, drawn_message, number_over}
use Rattle.self_test.proofs.rows.the_first_packets_of_two_seeds.Goals as goal

pub returns-clause-least : goal.returns-clause-least
unfolding generated number_over drawn_message
returns-clause-least c = refl

pub returns-clause-greatest : goal.returns-clause-greatest
unfolding generated number_over drawn_message
returns-clause-greatest c = refl
