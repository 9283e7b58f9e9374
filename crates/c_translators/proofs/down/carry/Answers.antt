use Rattle.std.proofs.Common.{◌≤◌, List, ℕ, length, sym, subst}
use Rattle.c_translators.proofs.DirectLaws.{step_carried}
use Rattle.c_translators.proofs.PieceFits.{piece_fits}
use Rattle.c_translators.proofs.down.carry.Goals as goal

pub write-requires : goal.write-requires
write-requires c =
    let step = c.in-Ok.ensures.answer in
    let size = length c.args.buffer.now in
    subst (λ (bytes : List ℕ). length bytes ≤ size) (sym step.piece)
    (piece_fits c.args.down.now c.args.packet.now size c.requires.packet c.requires.room)

pub returns-in-Ok-clause-answer : goal.returns-in-Ok-clause-answer
returns-in-Ok-clause-answer c =
    step_carried c.args.down.now c.args.offset c.args.packet.now c.in-Ok.carried c.lane-lane.result c.listed-listed.result c.args.buffer.now
    c.write.new.buffer c.write.result
    c.in-Ok.ensures.answer c.lane-lane.ensures c.listed-listed.ensures c.write.ensures.written c.write.ensures.piece
