-- The state of the translator once what it lends is given back.
use Rattle.std.specs.Prelude.{◌≡◌}
use Rattle.std.specs.Borrow.{MutBor, Fml}
use Rattle.std.specs.Io.BufRead.{Rests}
use Rattle.up_translator.specs.contracts.up.Up.{the_row}
use Rattle.up_translator.specs.Held.{UpState}

abbrev pub KeepsUp : MutBor UpState → UpState → Fml
KeepsUp up state = Rests the_row up (λ new. new ≡ state)
