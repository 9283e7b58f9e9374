use Rattle.pass_loop.specs.ForProofs.PutLaws.{notes_fails}
use Rattle.pass_loop.proofs.outputs.BorrowedOutputs.put_notes.Goals as goal

pub returns-in-Err : goal.returns-in-Err
returns-in-Err g c = notes_fails _ c.args.text.now _ _ c.in-Err.ensures.bytes c.in-Err.ensures.cause.rose
