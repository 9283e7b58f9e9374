use Rattle.std.proofs.Common.{◌<◌, ◌++◌, decimal, length, take, ap, ◌∙◌, arith}
use lib.ListN.{length-append}
use Rattle.text_lines.proofs.DecimalText.{three_digits}
use Rattle.text_lines.proofs.Numbers.{count_in_table, digit_bytes, small_number}
use Rattle.text_lines.proofs.decimal.put_small.Goals as goal

pub extend_by-requires : goal.extend_by-requires
extend_by-requires c =
    let n = c.args.number in
    let below : n < 256 = omega arith in
    (omega arith, (omega arith, omega (arith, count_in_table n below, three_digits n below)))

pub returns-clause-text : goal.returns-clause-text
returns-clause-text c =
    c.extend_by.ensures
    ∙ ap (λ count. c.args.line.now ++ take count (digit_bytes c.args.number)) (count_in_table c.args.number (omega arith))
    ∙ ap (λ digits. c.args.line.now ++ digits) (small_number c.args.number (omega arith))

pub returns-clause-room : goal.returns-clause-room
returns-clause-room c =
    omega (
      arith,
      ap length (returns-clause-text c),
      length-append c.args.line.now (decimal c.args.number),
      three_digits c.args.number (omega arith),
    )
