-- What the packer ends as once what it lends is given back.
use Rattle.std.specs.Prelude.{◌≡◌}
use Rattle.std.specs.Borrow.{MutBor, Fml}
use Rattle.std.specs.Io.BufRead.{Rests}
use Rattle.usb_midi1.specs.contracts.packer.Packer.{the_row}
use Rattle.usb_midi1.specs.Held.{PackerState}

abbrev pub KeepsPacker : MutBor PackerState → PackerState → Fml
KeepsPacker packer state = Rests the_row packer (λ new. new ≡ state)
