use Rattle.midi1_bytes.specs.Parsing.{open_of}
use Rattle.pass_loop.specs.ForProofs.PutLaws.{then_puts}
use Rattle.show_pass.specs.KeptState.{fact_puts}
use Rattle.show_pass.specs.ShowBytes.{open_puts}
use Rattle.show_pass.proofs.show_bytes.put_end.Goals as goal

pub returns : goal.returns
returns g c =
    then_puts (open_puts (open_of c.args.parser.now)) (fact_puts c.args.facts.now) (g.O.Outputs.places c.args.outputs.now)
    (g.O.Outputs.places c.put_open.new.outputs)
    (g.O.Outputs.places c.put_facts.new.outputs) c.put_facts.result c.in_ok-put_open.ensures c.put_facts.ensures
