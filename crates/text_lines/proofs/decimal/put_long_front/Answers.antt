use Rattle.std.proofs.Common.{◌/◌, ◌%◌, ◌++◌, decimal, length, ap, ◌∙◌, arith}
use lib.ListN.{length-append}
use Rattle.text_lines.specs.ForProofs.Digits.{two_digits}
use Rattle.text_lines.proofs.DecimalText.{four_behind, six_digits, two_long}
use Rattle.text_lines.proofs.decimal.put_long_front.Goals as goal

pub put_four-requires-clause-room : goal.put_four-requires-clause-room
put_four-requires-clause-room c =
    let front = c.args.number / 10000 in
    omega (
      arith,
      c.requires.room,
      ap length c.put_small.ensures.text,
      length-append c.args.line.now (decimal front),
      two_long front (omega (arith, c.requires.few)),
    )

pub returns-else-number-lt10000-clause-text : goal.returns-else-number-lt10000-clause-text
returns-else-number-lt10000-clause-text c =
    let four = c.args.number % 10000 in
    c.put_four.ensures
    ∙ ap (λ line. (line ++ two_digits (four / 100)) ++ two_digits (four % 100)) c.put_small.ensures.text
    ∙ four_behind c.args.number c.args.line.now (omega (arith, c.if-number-lt10000.false)) (omega (arith, c.requires.few))

pub returns-else-number-lt10000-clause-room : goal.returns-else-number-lt10000-clause-room
returns-else-number-lt10000-clause-room c =
    omega (
      arith,
      ap length (returns-else-number-lt10000-clause-text c),
      length-append c.args.line.now (decimal c.args.number),
      six_digits c.args.number c.requires.few,
    )
