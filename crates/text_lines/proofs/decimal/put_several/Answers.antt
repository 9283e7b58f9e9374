use Rattle.std.proofs.Common.{◌/◌, ◌%◌, ◌++◌, decimal, length, ap, ◌∙◌, arith}
use lib.ListN.{length-append}
use Rattle.text_lines.specs.ForProofs.Digits.{two_digits}
use Rattle.text_lines.proofs.DecimalText.{four_behind, ten_digits}
use Rattle.text_lines.proofs.decimal.put_several.Goals as goal

pub returns-else-number-lt10000-clause-text : goal.returns-else-number-lt10000-clause-text
returns-else-number-lt10000-clause-text c =
    let four = c.args.number % 10000 in
    c.put_four.ensures
    ∙ ap (λ line. (line ++ two_digits (four / 100)) ++ two_digits (four % 100)) c.put_long_front.ensures.text
    ∙ four_behind c.args.number c.args.line.now (omega (arith, c.if-number-lt10000.false)) (omega arith)

pub returns-else-number-lt10000-clause-room : goal.returns-else-number-lt10000-clause-room
returns-else-number-lt10000-clause-room c =
    omega (
      arith,
      ap length (returns-else-number-lt10000-clause-text c),
      length-append c.args.line.now (decimal c.args.number),
      ten_digits c.args.number (omega arith),
    )
