use Rattle.show_pass.specs.Texts.{part_view}
use Rattle.show_pass.proofs.TextLaws.{joined-within}
use Rattle.show_pass.proofs.texts.put_joined.Goals as goal

pub fill_text_line-requires : goal.fill_text_line-requires
fill_text_line-requires g c =
    joined-within c.args.part.now.kind c.args.join.now (part_view c.args.part.now).1 c.part.result c.requires.kind c.part.ensures.answer
