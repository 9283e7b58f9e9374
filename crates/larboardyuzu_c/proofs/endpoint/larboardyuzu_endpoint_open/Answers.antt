use Rattle.larboardyuzu_c.proofs.endpoint.larboardyuzu_endpoint_open.Goals as goal

pub returns-then-room-lt6-clause-consistent : goal.returns-then-room-lt6-clause-consistent
returns-then-room-lt6-clause-consistent c = λ setup is. c.setups_keep_the_rules.ensures c.args.text.now setup is

pub returns-in-Some-clause-consistent : goal.returns-in-Some-clause-consistent
returns-in-Some-clause-consistent c = λ setup is. c.setups_keep_the_rules.ensures c.args.text.now setup is

pub returns-clause-consistent : goal.returns-clause-consistent
returns-clause-consistent c = λ setup is. c.setups_keep_the_rules.ensures c.args.text.now setup is
