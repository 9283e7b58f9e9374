use Rattle.std.proofs.Common.{sym, ◌∙◌}
use Rattle.midi_edge.specs.Adapters.{accepted}
use Rattle.midi_commands.proofs.EndingLaws.{accepts_line, accepts_no_line, not_put, well}
use Rattle.midi_commands.proofs.ending.tell_last.Goals as goal

pub returns-in-Some : goal.returns-in-Some
returns-in-Some g c = (
  c.put.result,
  c.put.ensures.cause,
  accepts_line c.args.status (accepted g.N.Write.contents c.args.notes.now) (accepted g.N.Write.contents c.put.new.self) c.put.result
      c.in-Some.line _ c.in-Some.ensures.text c.as_slice.ensures.value c.put.ensures.accepts,
)

pub returns-in_default : goal.returns-in_default
returns-in_default g c = (
  well,
  not_put _,
  accepts_no_line c.args.status (accepted g.N.Write.contents c.args.notes.now) (sym c.in_default.is ∙ c.last_line.ensures.text),
)
