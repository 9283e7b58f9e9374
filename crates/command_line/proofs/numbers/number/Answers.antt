use Rattle.std.proofs.Common.{◌≡◌, ◌<◌, ◌^◌, true, arith, rules, sym, ◌∙◌}
use Rattle.std.specs.List.{list_all}
use Rattle.std.specs.Char.{is_ascii_digit}
use Rattle.std.specs.Str.Parse.{digits_value}
use Rattle.std.proofs.lemmas.Str.Parse.{IsNumeralModel, numerals_by_value, parse_gives, digits_value_short}
use Rattle.command_line.proofs.numbers.number.Goals as goal

own : IsNumeralModel (λ ds. list_all is_ascii_digit ds ≡ true) (digits_value 10)
own = numerals_by_value _ (search rules)

pub returns-in-Err : goal.returns-in-Err
returns-in-Err c =
    let text = c.args.text.now in
    let digits : list_all is_ascii_digit text ≡ true = sym c.is_digits.ensures ∙ c.if-not-is_digits.false in
    let short : digits_value 10 text < 10 ^ 10 = digits_value_short own text 10 digits (omega (arith, c.if-text-gt10.false)) in
    let read =
    parse_gives own 64 text c.parse.result c.parse.ensures.value.0 digits (grind (arith, c.is_empty.ensures, c.if-is_empty.false))
    (omega (arith, short)) in
    grind (arith, read, c.in-Err.is)
