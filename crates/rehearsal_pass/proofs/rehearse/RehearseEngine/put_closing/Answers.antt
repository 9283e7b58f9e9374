use Rattle.std.proofs.lemmas.Result.{err_from_is_err_and}
use Rattle.ci_responder.specs.Keys.{state_in}
use Rattle.ci_text.specs.Profiles.{profile_lines}
use Rattle.ci_text.specs.declared.profiles.LinePlace.TheVariants.{Output}
use Rattle.pass_loop.specs.Each.{for_each}
use Rattle.rehearsal_pass.specs.Rehearse.{held_line}
use Rattle.pass_loop.specs.ForProofs.PutLaws.{stops_more, then_puts}
use Rattle.rehearsal_pass.proofs.rehearse.RehearseEngine.put_closing.Goals as goal

pub returns : goal.returns
returns g c =
    then_puts (for_each held_line 0 c.args.self.now.rehearsal.initiator.watched)
    (profile_lines Output (state_in c.args.self.now.rehearsal.responder.states) c.args.self.now.setup.profiles)
    (g.O.Outputs.places c.args.outputs.now)
    (g.O.Outputs.places c.put_watches.new.outputs)
    (g.O.Outputs.places c.put_profiles.new.outputs) c.put_profiles.result c.in_ok-put_watches.ensures c.put_profiles.ensures

pub returns-in_err-put_watches : goal.returns-in_err-put_watches
returns-in_err-put_watches g c =
    let end = c.in_err-put_watches.field-0.0 in
    let p = err_from_is_err_and c.from_residual.result c.from_residual.ensures.1 in
    rw (p.1, p.2) (stops_more (for_each held_line 0 c.args.self.now.rehearsal.initiator.watched)
    (profile_lines Output (state_in c.args.self.now.rehearsal.responder.states) c.args.self.now.setup.profiles) end
    (g.O.Outputs.places c.args.outputs.now)
    (g.O.Outputs.places c.put_watches.new.outputs) c.in_err-put_watches.ensures)
