use Rattle.std.proofs.Common.{refl}
use Rattle.self_test.specs.Generator.{generated, drawn_message, number_over}
use Rattle.self_test.proofs.rows.the_first_packet_of_seed_0.Goals as goal

pub returns-clause-draws : goal.returns-clause-draws
unfolding number_over
returns-clause-draws c = refl

pub returns-clause-packet : goal.returns-clause-packet
unfolding generated number_over drawn_message
returns-clause-packet c = refl
