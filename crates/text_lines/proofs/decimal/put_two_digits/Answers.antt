use Rattle.std.proofs.Common.{◌++◌, ap, ◌∙◌}
use Rattle.text_lines.proofs.Numbers.{pair_in_table}
use Rattle.text_lines.proofs.decimal.put_two_digits.Goals as goal

pub returns : goal.returns
returns c = c.extend.ensures ∙ ap (λ digits. c.args.line.now ++ digits) (pair_in_table c.args.number c.requires.few)
