use Rattle.std.proofs.Common.{◌∙◌, ap, rules}
use Rattle.voice_state.specs.Tables.{at}
use Rattle.voice_state.proofs.ToldFacts.{none_at}
use Rattle.voice_state.proofs.table.Table.clear.Goals as goal

pub returns : goal.returns
returns c = λ index. ap (λ cells. at cells index) (c.fill.ensures.items (λ y clone. search (rules, clone))) ∙ none_at _ index
