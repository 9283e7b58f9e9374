-- What the groups end as once the answer that they lend is given back.
use Rattle.std.specs.Prelude.{◌≡◌}
use Rattle.std.specs.Borrow.{MutBor, Fml}
use Rattle.std.specs.Io.BufRead.{Rests}
use Rattle.sysex_groups.specs.contracts.groups.Groups.{the_row}
use Rattle.sysex_groups.specs.Table.{Table}

abbrev pub KeepsGroups : MutBor Table → Table → Fml
KeepsGroups groups table = Rests the_row groups (λ new. new ≡ table)
