use Rattle.std.proofs.Common.{◌/◌, ◌%◌, ◌++◌, decimal, length, ap, ◌∙◌, arith}
use lib.ListN.{length-append}
use Rattle.text_lines.specs.ForProofs.Digits.{two_digits}
use Rattle.text_lines.proofs.DecimalText.{four_digits, pair_behind, two_long}
use Rattle.text_lines.proofs.decimal.put_front.Goals as goal

pub put_two_digits-requires-clause-room : goal.put_two_digits-requires-clause-room
put_two_digits-requires-clause-room c =
    omega (
      arith,
      c.requires.room,
      ap length c.put_small-else-number-lt256.ensures.text,
      length-append c.args.line.now (decimal (c.args.number / 100)),
      two_long (c.args.number / 100) (omega (arith, c.requires.few)),
    )

pub returns-else-number-lt256-clause-text : goal.returns-else-number-lt256-clause-text
returns-else-number-lt256-clause-text c =
    c.put_two_digits.ensures
    ∙ ap (λ l. l ++ two_digits (c.args.number % 100)) c.put_small-else-number-lt256.ensures.text
    ∙ pair_behind c.args.number c.args.line.now (omega (arith, c.if-number-lt256.false)) (omega (arith, c.requires.few))

pub returns-else-number-lt256-clause-room : goal.returns-else-number-lt256-clause-room
returns-else-number-lt256-clause-room c =
    omega (
      arith,
      ap length (returns-else-number-lt256-clause-text c),
      length-append c.args.line.now (decimal c.args.number),
      four_digits c.args.number c.requires.few,
    )
