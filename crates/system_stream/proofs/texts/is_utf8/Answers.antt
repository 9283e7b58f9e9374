use Rattle.std.proofs.Common.{◌∙◌}
use Rattle.system_stream.proofs.Utf8.{is_ok-utf8}
use Rattle.system_stream.proofs.texts.is_utf8.Goals as goal

pub returns : goal.returns
returns c = c.is_ok.ensures.value ∙ is_ok-utf8 _ _ c.args.bytes.now c.from_utf8.result c.from_utf8.ensures.cases
