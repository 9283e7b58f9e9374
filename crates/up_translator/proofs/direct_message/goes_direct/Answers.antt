use Rattle.std.proofs.Common.{◌∙◌, ◌&&◌, ◌/◌, not, ap}
use Rattle.std.specs.Prelude.{◌==◌}
use Rattle.midi_meaning.specs.Controllers.{is_direct_in}
use Rattle.up_translator.proofs.DirectLaws.{direct_by}
use Rattle.up_translator.proofs.direct_message.goes_direct.Goals as goal

pub returns : goal.returns
returns c =
    let bytes = c.args.bytes.now in
    ap (λ t. not (bytes.status / 16 == 0xC) && t) (c.has.ensures ∙ ap (is_direct_in c.args.direct.now) c.index_of.ensures)
    ∙ direct_by bytes.status bytes.first bytes.second bytes.least bytes.most bytes.first_below bytes.second_below c.args.direct.now
