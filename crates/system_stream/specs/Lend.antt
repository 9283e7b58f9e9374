-- What the joining ends as once the answer that it lends is given back.
use Rattle.std.specs.Prelude.{◌≡◌}
use Rattle.std.specs.Borrow.{MutBor, Fml}
use Rattle.std.specs.Io.BufRead.{Rests}
use Rattle.system_stream.specs.contracts.joining.TextJoin.{the_row}
use Rattle.system_stream.specs.Joining.{State}

abbrev pub KeepsJoining : MutBor State → State → Fml
KeepsJoining join state = Rests the_row join (λ new. new ≡ state)
