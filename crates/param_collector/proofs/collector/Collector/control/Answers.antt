use Rattle.std.proofs.Common.{◌≡◌, ap}
use Rattle.param_collector.proofs.Meaning.{step_meant, held_after}
use Rattle.midi_meaning.specs.Controllers.{Role, pairing, role_of}
use Rattle.midi_meaning.specs.Roles.{role_in}
use Rattle.param_collector.proofs.collector.Collector.control.Goals as goal

pub returns-clause-holding : goal.returns-clause-holding
returns-clause-holding c =
    let role : Role = pairing c.args.self.now.paired (role_in c.of-role.result) in
    rw c.act.ensures.after (held_after role c.args.self.now c.args.channel c.args.index c.args.value c.act.ensures.before)

pub returns-clause-meant : goal.returns-clause-meant
returns-clause-meant c =
    let role : Role = pairing c.args.self.now.paired (role_in c.of-role.result) in
    let same : role ≡ pairing c.args.self.now.paired (role_of c.args.index) = ap (pairing c.args.self.now.paired) c.of-role.ensures.role in
    step_meant role c.args.self.now c.act.new.self c.args.channel c.args.index c.args.value c.act.result same c.act.ensures.before
    c.act.ensures.in_range c.act.ensures.answer c.act.ensures.after
