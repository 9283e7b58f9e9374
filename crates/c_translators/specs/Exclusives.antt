-- The packets of an exclusive, one at a time.
use Rattle.std.specs.Prelude.{◌≡◌, ◌==◌, ◌&&◌, ◌||◌, nat_lt, ℕ, Bool, true, false, List, length, Option, Some, None}
use Rattle.sysex_groups.specs.Cut.{part_at}
use Rattle.voice_messages.specs.declared.voice2.Form.{Form}
use Rattle.ump_grammar.specs.Reading.{Encodes}
use Rattle.ump_grammar.specs.Reason.{has_high}
use Rattle.ump_grammar.specs.declared.packet.Packet.TheVariants.{Exclusive}
use Rattle.c_answers.specs.Fronts.{with_front}
use Rattle.c_answers.specs.Numbers.{number_of}
use Rattle.c_answers.specs.declared.status.Status.{Status}
use Rattle.c_answers.specs.declared.status.Status.TheVariants as statuses

-- nothing is written
abbrev pub Leaves : Status → List ℕ → ℕ → List ℕ → Type 0
Leaves why old status new = (status ≡ number_of why) × (new ≡ old)

-- the words of a packet are at the front of the buffer
pub record IsWrittenOut (group : ℕ) (form : Form) (bytes old : List ℕ) (status : ℕ) (new : List ℕ) : Type 0 where
  pub words : List ℕ
  pub encoded : Encodes (Exclusive group form bytes) words
  pub answer : status ≡ number_of statuses.Done
  pub front : new ≡ with_front words old

-- A byte of 128 or more is refused: one of the packet's, and before the first packet any, so that no part is
-- sent of an exclusive that has one.
abbrev pub is_refused : ℕ → List ℕ → List ℕ → Bool
is_refused index payload own = has_high own || index == 0 && has_high payload

abbrev pub encodes : Bool → ℕ → Form → List ℕ → List ℕ → ℕ → List ℕ → Type 0
encodes true group form bytes old status new = Leaves statuses.HighBit old status new
encodes false group form bytes old status new = IsWrittenOut group form bytes old status new

abbrev pub cuts : Option (Form × List ℕ) → ℕ → List ℕ → ℕ → List ℕ → ℕ → List ℕ → Type 0
cuts None group payload index old status new = Leaves statuses.Nothing old status new
cuts (Some part) group payload index old status new =
    encodes (is_refused index payload part.1) group part.0 part.1 old status new

abbrev pub in_range : Bool → ℕ → List ℕ → ℕ → List ℕ → ℕ → List ℕ → Type 0
in_range false group payload index old status new = Leaves statuses.BadGroup old status new
in_range true group payload index old status new = cuts (part_at payload index) group payload index old status new

abbrev pub fits_two : Bool → ℕ → List ℕ → ℕ → List ℕ → ℕ → List ℕ → Type 0
fits_two true group payload index old status new = Leaves statuses.SmallBuffer old status new
fits_two false group payload index old status new = in_range (nat_lt group 16) group payload index old status new

-- packet `index` of an exclusive with these bytes between its F0 and its F7
abbrev pub IsCut : ℕ → List ℕ → ℕ → List ℕ → ℕ → List ℕ → Type 0
IsCut group payload index old status new = fits_two (nat_lt (length old) 2) group payload index old status new
