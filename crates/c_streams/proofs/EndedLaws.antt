-- An exclusive that a part ends is within the limit.
use Rattle.std.proofs.Common.{◌≡◌, ℕ, ◌-◌, ◌≤◌, Bool, true, false, if◌then◌else◌, List, ◌++◌}
use Rattle.std.proofs.Common.{length, ap, arith, Option, Some, None, refl, length-take}
use Rattle.std.specs.Prelude.{nat_le}
use Rattle.std.proofs.lemmas.Bool.{leb-true}
use Rattle.voice_messages.specs.declared.voice2.Form.{Form}
use Rattle.voice_messages.specs.declared.voice2.Form.TheVariants as form
use Rattle.sysex_groups.specs.Table.{Begun}
use Rattle.ump_grammar.specs.WordFields.{count_of}
use Rattle.sysex8_streams.specs.Reading.{data_places, Spells8}
use Rattle.sysex8_streams.specs.declared.part8.Part8.{Part8}
use Rattle.sysex8_streams.specs.History.{held8, whole8, too_long8}
use Rattle.sysex8_streams.specs.Table.{answer8_of}
use Rattle.c_streams.specs.Sysex8.{ended_by}

-- a packet has at most thirteen bytes of an exclusive
pub spelled_short : (part : Part8) (words : List ℕ) → Spells8 part words → length part.bytes ≤ 13
spelled_short part words spells = omega (arith, ap length spells.bytes, length-take (count_of words - 1) (data_places words))

joined_fits : (room : ℕ) (bytes : List ℕ) (fits : Bool) → (fits ≡ true → length bytes ≤ room)
    → length (ended_by (if fits then whole8 bytes else too_long8)) ≤ room
joined_fits room bytes true h = h refl
joined_fits room bytes false h = omega arith

continued : (room : ℕ) (fits : Bool) → length (ended_by (if fits then held8 else too_long8)) ≤ room
continued room true = omega arith
continued room false = omega arith

pub ended_fits : (room : ℕ) (begun : Option Begun) (idle : Bool) (kind : Form) (bytes : List ℕ) → length bytes ≤ 13 → 13 ≤ room
    → length (ended_by (answer8_of room begun idle kind bytes)) ≤ room
ended_fits room None idle form.Complete bytes short least = omega arith
ended_fits room None true form.Start bytes short least = omega arith
ended_fits room None false form.Start bytes short least = omega arith
ended_fits room None idle form.Continue bytes short least = omega arith
ended_fits room None idle form.End bytes short least = omega arith
ended_fits room (Some begun) idle form.Complete bytes short least = omega arith
ended_fits room (Some begun) idle form.Start bytes short least = omega arith
ended_fits room (Some begun) idle form.Continue bytes short least = continued room (nat_le (length (begun.bytes ++ bytes)) room)
ended_fits room (Some begun) idle form.End bytes short least =
    joined_fits room (begun.bytes ++ bytes) (nat_le (length (begun.bytes ++ bytes)) room) (leb-true (length (begun.bytes ++ bytes)) room)
