use Rattle.std.proofs.Common.{ap}
use Rattle.midi1_bytes.specs.Answers.{payload_of, step_view}
use Rattle.up_translator.proofs.StepLaws.{no_exclusive}
use Rattle.up_translator.proofs.up.Up.take.Goals as goal

pub unreachable-requires : goal.unreachable-requires
unreachable-requires c =
    no_exclusive c.byte.result c.self.inside.parser c.args.offset c.args.byte (payload_of c.in-Exclusive.field-0.now) c.requires
    c.byte.ensures.step (ap step_view c.in-Exclusive.is)
