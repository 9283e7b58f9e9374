use Rattle.std.proofs.Common.{◌∙◌, ap}
use Rattle.ci_initiator.specs.declared.watch.Watched.{Watched}
use Rattle.ci_initiator.specs.Incoming.{incoming_of}
use Rattle.ci_initiator.specs.Rows.{is_report_of, told_row}
use Rattle.ci_initiator.proofs.ListLaws.{position-map}
use Rattle.ci_initiator.proofs.rows.row_of_report.Goals as goal

pub returns : goal.returns
returns c =
    c.told.ensures
    ∙ ap told_row (c.watch_reported.ensures
    ∙ position-map (is_report_of c.args.id.now.bytes (incoming_of c.args.group c.args.view.now)) (λ (watched : Watched). watched.watch)
    c.args.watched.now)
