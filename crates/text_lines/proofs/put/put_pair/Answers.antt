use Rattle.std.proofs.Common.{◌≡◌, ℕ, ◌+◌, ◌*◌, ◌%◌, [], ◌∷◌, ◌++◌, get_or, refl, ap, ◌∙◌}
use Rattle.text_lines.specs.Fields.{hex}
use Rattle.text_lines.specs.declared.put.TheConstants.{HEX_PAIRS}
use Rattle.text_lines.proofs.Pairs.{first_digit, second_digit}
use Rattle.text_lines.proofs.put.put_pair.Goals as goal

two_digits : (n : ℕ) → get_or HEX_PAIRS (n % 256 * 2) 0 ∷ get_or HEX_PAIRS (n % 256 * 2 + 1) 0 ∷ [] ≡ hex 2 n
unfolding hex
two_digits n = rw (first_digit n, second_digit n) refl

pub returns-clause-text : goal.returns-clause-text
returns-clause-text c = c.extend.ensures ∙ ap (λ digits. c.args.line.now ++ digits) (two_digits c.args.number)
