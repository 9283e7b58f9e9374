-- The packets of an 8-bit exclusive, one at a time.
use Rattle.std.specs.Prelude.{◌≡◌, nat_lt, ℕ, Bool, true, false, List, length, Option, Some, None}
use Rattle.sysex8_streams.specs.declared.part8.Part8.{Part8}
use Rattle.sysex8_streams.specs.Cut8.{part8_at, Encodes8}
use Rattle.c_answers.specs.Fronts.{with_front}
use Rattle.c_answers.specs.Numbers.{number_of}
use Rattle.c_answers.specs.declared.status.Status.{Status}
use Rattle.c_answers.specs.declared.status.Status.TheVariants as statuses

-- nothing is written
abbrev pub Leaves : Status → List ℕ → ℕ → List ℕ → Type 0
Leaves why old status new = (status ≡ number_of why) × (new ≡ old)

-- the words of a packet are at the front of the buffer
pub record IsWrittenOut (part : Part8) (old : List ℕ) (status : ℕ) (new : List ℕ) : Type 0 where
  pub words : List ℕ
  pub encoded : Encodes8 part words
  pub answer : status ≡ number_of statuses.Done
  pub front : new ≡ with_front words old

abbrev pub cuts : Option Part8 → List ℕ → ℕ → List ℕ → Type 0
cuts None old status new = Leaves statuses.Nothing old status new
cuts (Some part) old status new = IsWrittenOut part old status new

abbrev pub in_range : Bool → Option Part8 → List ℕ → ℕ → List ℕ → Type 0
in_range false part old status new = Leaves statuses.BadGroup old status new
in_range true part old status new = cuts part old status new

abbrev pub fits_four : Bool → ℕ → Option Part8 → List ℕ → ℕ → List ℕ → Type 0
fits_four true group part old status new = Leaves statuses.SmallBuffer old status new
fits_four false group part old status new = in_range (nat_lt group 16) part old status new

-- packet `index` of an exclusive of a stream with these bytes
abbrev pub IsCut : ℕ → ℕ → List ℕ → ℕ → List ℕ → ℕ → List ℕ → Type 0
IsCut group stream payload index old status new =
    fits_four (nat_lt (length old) 4) group (part8_at group stream payload index) old status new
