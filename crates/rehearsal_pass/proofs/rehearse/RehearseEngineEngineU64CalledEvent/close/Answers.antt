use Rattle.std.proofs.Common.{ap, ◌∙◌}
use Rattle.function_blocks.specs.Setups.{SetupData}
use Rattle.rehearsal_pass.specs.Rehearse.{closing_lines}
use Rattle.rehearsal_pass.proofs.rehearse.RehearseEngineEngineU64CalledEvent.close.Goals as goal

pub returns : goal.returns
returns g c = λ first past holds.
    let now = c.args.self.now in (
      closing_lines now.setup now.rehearsal,
      ap (λ (setup : SetupData). closing_lines setup now.rehearsal) holds.setup ∙ ap (closing_lines first.setup) holds.stage,
      c.put_closing.ensures,
    )
