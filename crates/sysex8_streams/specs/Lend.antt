-- What the streams end as once the answer that they lend is given back.
use Rattle.std.specs.Prelude.{◌≡◌}
use Rattle.std.specs.Borrow.{MutBor, Fml}
use Rattle.std.specs.Io.BufRead.{Rests}
use Rattle.sysex8_streams.specs.contracts.streams.Streams.{the_row}
use Rattle.sysex8_streams.specs.Table.{Table8}

abbrev pub KeepsStreams : MutBor Table8 → Table8 → Fml
KeepsStreams streams table = Rests the_row streams (λ new. new ≡ table)
