use Rattle.std.proofs.Common.{refl}
use Rattle.sysex8_streams.proofs.laws.worked_rows.Goals as goal

pub returns : goal.returns
returns c = record {
  complete = (refl, record { group = refl; form = refl; stream = refl; bytes = refl });
  continued = (refl, record { group = refl; form = refl; stream = refl; bytes = refl });
  two_slots = refl;
  one_slot = refl;
  given_back = refl;
}
