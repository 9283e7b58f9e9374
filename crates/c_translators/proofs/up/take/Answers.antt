use Rattle.std.proofs.Common.{length}
use Rattle.c_translators.proofs.UpLaws.{raises_within}
use Rattle.c_translators.proofs.up.take.Goals as goal

pub show-requires-clause-room : goal.show-requires-clause-room
show-requires-clause-room c =
    raises_within c.exclusives_stay_within_their_limit.ensures c.args.up.now c.args.byte c.args.offset (length c.args.words.now)
    c.in-Ok.raised c.requires.within c.requires.room
    c.in-Ok.ensures.answer

pub returns-in-Ok-clause-answer : goal.returns-in-Ok-clause-answer
returns-in-Ok-clause-answer c =
    record { raised = c.in-Ok.raised; accepts = c.in-Ok.ensures.answer; keeps = c.byte.ensures.kept; written = c.show.ensures }
