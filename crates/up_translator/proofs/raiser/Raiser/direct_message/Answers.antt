use Rattle.std.proofs.Common.{◌∙◌, sym}
use Rattle.up_translator.proofs.DirectLaws.{no_program}
use Rattle.up_translator.proofs.raiser.Raiser.direct_message.Goals as goal

pub raise_direct-requires : goal.raise_direct-requires
raise_direct-requires c =
    let bytes = c.args.bytes.now in
    no_program c.self.inside.direct bytes.status bytes.first bytes.second (sym c.goes_direct.ensures ∙ c.if-goes_direct.true)
