use Rattle.param_collector.proofs.Meaning.{control_meant, held_after, paired_stays}
use Rattle.param_collector.proofs.laws.control_changes_are_kept.Goals as goal

pub returns-clause-meant : goal.returns-clause-meant
returns-clause-meant c = control_meant

pub returns-clause-sizes : goal.returns-clause-sizes
returns-clause-sizes c holding role channel index value held = held_after role holding channel index value held

pub returns-clause-paired : goal.returns-clause-paired
returns-clause-paired c holding role channel index value = paired_stays role holding channel index value
