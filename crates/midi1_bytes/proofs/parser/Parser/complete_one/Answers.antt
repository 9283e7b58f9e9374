use Rattle.std.proofs.Common.{ap, ◌∙◌}
use Rattle.midi1_bytes.specs.Answers.{step_view}
use Rattle.midi1_bytes.specs.Sorts.{one}
use Rattle.midi1_bytes.proofs.CountLaws.{voice_of_count, common_of_count, voice_of_only, common_of_only}
use Rattle.midi1_bytes.proofs.parser.Parser.complete_one.Goals as goal
use Rattle.midi1_bytes.proofs.parser.Parser.complete_one.Goals.{then-status-lt240, else-status-lt240}

pub returns-clause-step : goal.returns-clause-step
returns-clause-step c = elim c.if-status-lt240.branch [
  | then-status-lt240 w ↦
      ap step_view w.result-is
      ∙ voice_of_only c.args.status c.args.only _ (voice_of_count c.args.status one c.requires.counted w.if-status-lt240.true)
      w.of_one.ensures
  | else-status-lt240 w ↦
      ap step_view w.result-is
      ∙ common_of_only c.args.status c.args.only _ (common_of_count c.args.status one c.requires.counted w.if-status-lt240.false)
      w.of_one-else-status-lt240.ensures
]
