-- The state of the translator once the piece that it lends is given back.
use Rattle.std.specs.Prelude.{◌≡◌}
use Rattle.std.specs.Borrow.{MutBor, Fml}
use Rattle.std.specs.Io.BufRead.{Rests}
use Rattle.down_translator.specs.contracts.down.Down.{the_row}
use Rattle.down_translator.specs.Held.{DownState}

abbrev pub KeepsDown : MutBor DownState → DownState → Fml
KeepsDown down state = Rests the_row down (λ new. new ≡ state)
