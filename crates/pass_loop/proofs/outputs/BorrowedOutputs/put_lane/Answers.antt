use Rattle.pass_loop.specs.ForProofs.PutLaws.{lane_fails}
use Rattle.pass_loop.proofs.outputs.BorrowedOutputs.put_lane.Goals as goal

pub returns-in-Err : goal.returns-in-Err
returns-in-Err g c =
    lane_fails _ c.args.lane c.args.piece.now _ _ _ _ c.put.ensures.begun c.put.ensures.folder c.in-Err.ensures.pieces
    c.in-Err.ensures.cause.rose
