use Rattle.std.proofs.Common.{◌∙◌, sym}
use Rattle.up_translator.proofs.DirectLaws.{no_program}
use Rattle.up_translator.proofs.raiser.Raiser.direct_voice.Goals as goal

pub of-requires : goal.of-requires
of-requires c =
    let bytes = c.args.bytes.now in
    no_program c.self.inside.direct bytes.status bytes.first bytes.second (sym c.goes_direct.ensures ∙ c.if-goes_direct.true)
