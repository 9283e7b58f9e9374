use Rattle.std.proofs.Common.{◌++◌, arith}
use Rattle.std.proofs.lemmas.Result.{err_from_is_err_and}
use Rattle.pass_loop.specs.ForProofs.PutLaws.{then_put}
use Rattle.translation_passes.proofs.RaisedLaws.{packet_part, part_accepted, part_done, part_fails}
use Rattle.translation_passes.proofs.raised.put_payload.Goals as goal

pub put_part-requires : goal.put_part-requires
put_part-requires g c =
    let i = c.loop-form.invariant in
    let part = packet_part c.args.group c.args.payload.now c.loop-form.k c.in-Some.form c.in-Some.bytes c.in-Some.ensures in
    part_accepted g.P.PacketWork.Accepts (g.P.PacketWork.IsDone c.args.offset) c.args.group c.args.payload.now c.loop-form.k c.in-Some.form
    c.in-Some.bytes part c.args.work.now c.loop-form.work i.puts i.done c.requires.taken

pub loop-form-preserved : goal.loop-form-preserved
loop-form-preserved g c =
    let i = c.loop-form.invariant in
    let part = packet_part c.args.group c.args.payload.now c.loop-form.k c.in-Some.form c.in-Some.bytes c.in-Some.ensures in
    let one = c.in_ok-put_part-in-Some.ensures in
    record {
      within = omega (arith, part.below);
      puts = i.puts ++ one.0;
      done =
          part_done g.P.PacketWork.Accepts (g.P.PacketWork.IsDone c.args.offset) c.args.group c.args.payload.now c.loop-form.k
          c.in-Some.form c.in-Some.bytes part c.args.work.now c.loop-form.work i.puts i.done c.put_part.new.self one.0
          one.1;
      stands = then_put i.puts one.0 (g.O.Outputs.places c.args.outputs.now) _ _ i.stands one.2;
    }

pub returns-in_err-put_part-in-Some : goal.returns-in_err-put_part-in-Some
returns-in_err-put_part-in-Some g c =
    let end = c.in_err-put_part-in-Some.field-0.0 in
    let i = c.loop-form.invariant in
    let part = packet_part c.args.group c.args.payload.now c.loop-form.k c.in-Some.form c.in-Some.bytes c.in-Some.ensures in
    let p = err_from_is_err_and c.from_residual.result c.from_residual.ensures.1 in
    rw (p.1, p.2) (part_fails g.P.PacketWork.Accepts (g.P.PacketWork.IsDone c.args.offset) c.args.group c.args.payload.now c.loop-form.k
    c.in-Some.form c.in-Some.bytes part c.args.work.now c.loop-form.work i.puts i.done c.requires.done c.requires.taken c.put_part.new.self
    (g.O.Outputs.places c.args.outputs.now) (g.O.Outputs.places c.loop-form.outputs) _ end i.stands
    c.in_err-put_part-in-Some.ensures)
