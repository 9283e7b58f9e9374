use Rattle.pass_loop.specs.ForProofs.PutLaws.{notes_fails}
use Rattle.pass_loop.specs.Places.{places}
use Rattle.pass_loop.proofs.places.put_notes.Goals as goal

pub returns-in-Err : goal.returns-in-Err
returns-in-Err g c =
    notes_fails (places g.L.Lanes g.W.Sink g.N.Sink c.args.lanes.now c.args.output.now c.args.notes.now) c.args.text.now _ _
    c.in-Err.ensures.bytes c.in-Err.ensures.cause.rose
