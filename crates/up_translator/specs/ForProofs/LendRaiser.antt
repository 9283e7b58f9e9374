-- What the raiser ends as once the packet that it lends is given back.
use Rattle.std.specs.Prelude.{◌≡◌}
use Rattle.std.specs.Borrow.{MutBor, Fml}
use Rattle.std.specs.Io.BufRead.{Rests}
use Rattle.up_translator.specs.contracts.raiser.Raiser.{the_row}
use Rattle.up_translator.specs.Held.{RaiserState}

abbrev pub KeepsRaiser : MutBor RaiserState → RaiserState → Fml
KeepsRaiser raiser state = Rests the_row raiser (λ new. new ≡ state)
