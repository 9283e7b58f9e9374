use Rattle.std.proofs.Common.{◌<◌, arith}
use Rattle.item_reader.proofs.Next.{sees_too_long}
use Rattle.item_reader.proofs.reader.front_of.Goals as goal
use Rattle.item_reader.proofs.reader.front_of.Goals.{else-asked-bytes-via-then-asked-bytes+else-asked-room}
use Rattle.item_reader.proofs.reader.front_of.Goals.{else-asked-bytes-via-else-asked-bytes}

pub returns-then-bytes-room : goal.returns-then-bytes-room
returns-then-bytes-room g c =
    let few : c.args.room < g.H.Cut.asked c.args.how.now c.args.bytes.now =
    elim c.else-asked-bytes.branch [
      | else-asked-bytes-via-then-asked-bytes+else-asked-room w ↦ omega arith
      | else-asked-bytes-via-else-asked-bytes w ↦ omega arith
    ] in
    sees_too_long (g.H.Cut.asked c.args.how.now) (g.met.H.Cut.lengths c.args.how.now) c.args.bytes.now c.args.room (omega arith) few
