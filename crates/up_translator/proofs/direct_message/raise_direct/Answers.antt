use Rattle.std.proofs.Common.{subst, sym}
use Rattle.midi1_bytes.specs.Spoken.{voice_in}
use Rattle.encoded_packets.specs.declared.direct_message.DirectMessage.{DirectMessage}
use Rattle.encoded_packets.specs.DirectMessages.{direct_voice}
use Rattle.up_translator.specs.Direct.{RaisesTo}
use Rattle.up_translator.specs.DirectWords.{IsRaisedDirect}
use Rattle.up_translator.proofs.DirectLaws.{bare_by, raises_by}
use Rattle.up_translator.proofs.direct_message.raise_direct.Goals as goal

pub returns-clause-raised_direct : goal.returns-clause-raised_direct
returns-clause-raised_direct c =
    let bytes = c.args.bytes.now in
    subst IsRaisedDirect (sym c.fields.ensures)
    (bare_by bytes.status bytes.first bytes.second bytes.least bytes.most bytes.first_below bytes.second_below c.args.group
    c.get.ensures.below c.requires)

pub returns-clause-raised : goal.returns-clause-raised
returns-clause-raised c =
    let bytes = c.args.bytes.now in
    subst (λ (m : DirectMessage). RaisesTo (voice_in bytes) (direct_voice m)) (sym c.fields.ensures)
    (raises_by bytes.status bytes.first bytes.second bytes.least bytes.most bytes.first_below bytes.second_below c.args.group c.requires)
