use Rattle.std.proofs.lemmas.Result.{err_from_is_err_and}
use Rattle.pass_loop.specs.ForProofs.PutLaws.{stops_more, then_puts}
use Rattle.sysex8_pass.specs.Joining.{listed}
use Rattle.sysex8_pass.specs.Lines.{kind_text, whole_text}
use Rattle.sysex8_pass.specs.declared.lines.Kind8.TheVariants as kinds
use Rattle.sysex8_pass.proofs.joining.put_cut_lines.Goals as goal

pub returns : goal.returns
returns g c =
    then_puts (listed (kind_text kinds.Cut c.args.cut_at c.args.place.group))
    (listed (whole_text c.args.place.offset c.args.place.group c.args.place.stream c.args.size))
    (g.O.Outputs.places c.args.outputs.now)
    (g.O.Outputs.places c.put_kind.new.outputs) _ _ c.in_ok-put_kind.ensures c.put_size.ensures

pub returns-in_err-put_kind : goal.returns-in_err-put_kind
returns-in_err-put_kind g c =
    let end = c.in_err-put_kind.field-0.0 in
    let p = err_from_is_err_and c.from_residual.result c.from_residual.ensures.1 in
    rw (p.1, p.2) (stops_more (listed (kind_text kinds.Cut c.args.cut_at c.args.place.group))
    (listed (whole_text c.args.place.offset c.args.place.group c.args.place.stream c.args.size)) end
    (g.O.Outputs.places c.args.outputs.now)
    (g.O.Outputs.places c.put_kind.new.outputs) c.in_err-put_kind.ensures)
