use Rattle.std.specs.Option.{option_to_list}
use Rattle.pass_loop.specs.ForProofs.PutLaws.{then_puts}
use Rattle.listing_lines.specs.Lines.{line_puts}
use Rattle.endpoint_pass.specs.Answering.{outcome_lines}
use Rattle.endpoint_pass.proofs.lines.put_taken.Goals as goal

pub returns : goal.returns
returns g c =
    let taken = c.args.taken.now in
    then_puts (outcome_lines c.args.offset c.args.packet.now taken.outcome) (line_puts (option_to_list taken.listed))
    (g.O.Outputs.places c.args.outputs.now)
    (g.O.Outputs.places c.put_outcome.new.outputs)
    (g.O.Outputs.places c.put_listed.new.outputs) c.put_listed.result c.in_ok-put_outcome.ensures c.put_listed.ensures
