-- What the parser ends as once the exclusive that it lends is given back.
use Rattle.std.specs.Prelude.{◌≡◌}
use Rattle.std.specs.Borrow.{MutBor, Fml}
use Rattle.std.specs.Io.BufRead.{Rests}
use Rattle.midi1_bytes.specs.contracts.parser.Parser.{the_row}
use Rattle.midi1_bytes.specs.Parsing.{Parsing}

abbrev pub KeepsParser : MutBor Parsing → Parsing → Fml
KeepsParser parser parsing = Rests the_row parser (λ new. new ≡ parsing)
