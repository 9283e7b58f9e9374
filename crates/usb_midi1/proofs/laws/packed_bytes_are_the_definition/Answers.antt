use Rattle.usb_midi1.proofs.PackedLaws.{packed_is}
use Rattle.usb_midi1.proofs.laws.packed_bytes_are_the_definition.Goals as goal

pub returns : goal.returns
returns c = packed_is c.parsed_bytes_are_the_definition.ensures
