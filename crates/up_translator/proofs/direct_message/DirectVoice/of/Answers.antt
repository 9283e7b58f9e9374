use Rattle.up_translator.proofs.DirectLaws.{bare_by, raises_by}
use Rattle.up_translator.proofs.direct_message.DirectVoice.of.Goals as goal

pub returns-clause-raised_direct : goal.returns-clause-raised_direct
returns-clause-raised_direct c =
    let bytes = c.args.bytes.now in
    bare_by bytes.status bytes.first bytes.second bytes.least bytes.most bytes.first_below bytes.second_below c.args.group
    c.get.ensures.below c.requires

pub returns-clause-raised : goal.returns-clause-raised
returns-clause-raised c =
    let bytes = c.args.bytes.now in
    raises_by bytes.status bytes.first bytes.second bytes.least bytes.most bytes.first_below bytes.second_below c.args.group c.requires
