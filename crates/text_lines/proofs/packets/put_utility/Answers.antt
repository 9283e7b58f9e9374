use Rattle.std.proofs.Common.{◌++◌, codes, decimal, ap, ◌∙◌}
use Rattle.text_lines.proofs.Pieces.{two_fields}
use Rattle.text_lines.proofs.packets.put_utility.Goals as goal

pub returns-clause-text : goal.returns-clause-text
returns-clause-text c =
    c.put_field-2.ensures.text
    ∙ ap (λ l. (l ++ codes " value=") ++ decimal c.args.value) c.put_field.ensures.text
    ∙ two_fields c.args.line.now (codes "utility status=") (decimal c.args.status) (codes " value=") (decimal c.args.value)
