use Rattle.ci_messages.proofs.KindLaws.{named_in_full, named_in_short}
use Rattle.ci_messages.proofs.laws.sub_ids_tell_their_kinds.Goals as goal

pub returns-clause-full : goal.returns-clause-full
returns-clause-full c = named_in_full

pub returns-clause-short : goal.returns-clause-short
returns-clause-short c = named_in_short
