use Rattle.std.proofs.Common.{rules}
use Rattle.pass_loop.specs.Bytes.{byte_cutting}
use Rattle.pass_loop.specs.ForProofs.Borrowed.{ends_as, ends_keep}
use Rattle.pass_loop.specs.ForProofs.EndsLaws.{pass_ends}
use Rattle.pass_loop.proofs.runs.drive_bytes.Goals as goal

pub returns : goal.returns
returns g c =
    let kept = ends_keep byte_cutting (g.E.Engine.work c.args.engine) _ _ c.drive_into.result c.drive_into.ensures in
    pass_ends byte_cutting (g.E.Engine.work c.args.engine) c.requires.cuts _ _ c.drive_into.result
    (ends_as byte_cutting (g.E.Engine.work c.args.engine) _ _ c.drive_into.result _ (search rules) c.drive_into.ensures)
