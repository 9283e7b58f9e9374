use Rattle.voice_state.specs.Tables.{table_fact}
use Rattle.voice_state.proofs.FactsLeft.{table_all}
use Rattle.voice_state.proofs.table.Table.facts.Goals as goal

pub returns : goal.returns
returns c = λ map same. table_all (table_fact c.args.content c.args.group c.args.channel) c.args.self.now map same
