-- What a reader of the bytes of a MIDI 1.0 stream answers a caller, of one byte and of many. The parser is
-- one, and the packer of USB-MIDI events is another.
use Rattle.std.specs.Prelude.{◌≡◌, ℕ, nat_lt, Bool, true, false, List, [], ◌∷◌, length, Option, Some, None, Result, Ok, Err}
use Rattle.midi1_bytes.specs.Steps.{Step, too_long}
use Rattle.midi1_bytes.specs.Stream.{Open}
use Rattle.midi_meaning.specs.StepListing.{kinds_of_step, open_kind}
use Rattle.c_answers.specs.Blocks.{AreTaken, Taking}
use Rattle.c_answers.specs.Fronts.{with_front}
use Rattle.c_answers.specs.Lines.{first_line, line_of, second_line}
use Rattle.c_answers.specs.Numbers.{number_of}
use Rattle.c_answers.specs.Outcomes.{empty_outcome, items_of, needing, outcome_of}
use Rattle.c_answers.specs.declared.block.Block.{Block}
use Rattle.c_answers.specs.declared.line.ListingLine.{ListingLine}
use Rattle.c_answers.specs.declared.outcome.ByteOutcome.{ByteOutcome}
use Rattle.c_answers.specs.declared.status.Status.{Status}
use Rattle.c_answers.specs.declared.status.Status.TheVariants as statuses

-- A reader: what a byte does, and the state after it, by the state before it and the byte's offset;
-- what is written for a byte that does this; and how many places any byte may need.
pub record Reader (Held : Type 0) : Type 0 where
  pub step : Held → ℕ → ℕ → Step
  pub after : Held → ℕ → ℕ → Held
  pub written : Held → Step → List ℕ
  pub most : Held → ℕ

-- ---- steps

-- an exclusive that exceeds its limit is dropped; no other byte is refused
abbrev pub refusal_of : Step → Option Status
refusal_of too_long = Some statuses.ExclusiveTooLong
refusal_of _ = None

-- the outcome of a byte at an offset that does this, if these bytes are written for it
abbrev pub outcome_at : Step → ℕ → List ℕ → ByteOutcome
outcome_at step offset written =
    outcome_of offset (length written) (first_line (kinds_of_step step offset)) (second_line (kinds_of_step step offset))

-- a byte that isn't refused is written to the front of the buffer
abbrev pub ShowsStep : Step → ℕ → List ℕ → List ℕ → Result ByteOutcome Status → List ℕ → Type 0
ShowsStep step offset written old (Ok outcome) new =
    (refusal_of step ≡ None) × (outcome ≡ outcome_at step offset written) × (new ≡ with_front written old)
ShowsStep step offset written old (Err why) new = (refusal_of step ≡ Some why) × (new ≡ old)

-- ---- one byte

abbrev pub written_by : {Held : Type 0} → Reader Held → Held → ℕ → ℕ → List ℕ
written_by reader held byte offset = reader.written held (reader.step held offset byte)

abbrev pub outcome_by : {Held : Type 0} → Reader Held → Held → ℕ → ℕ → ByteOutcome
outcome_by reader held byte offset = outcome_at (reader.step held offset byte) offset (written_by reader held byte offset)

abbrev pub Reads : {Held : Type 0} → Reader Held → Held → ℕ → ℕ → List ℕ → Result ByteOutcome Status → List ℕ → Type 0
Reads reader held byte offset old result new =
    ShowsStep (reader.step held offset byte) offset (written_by reader held byte offset) old result new

-- by why the byte is refused, if it is
abbrev pub takes_or_refuses : {Held : Type 0} → Reader Held → Option Status → Held → ℕ → ℕ → List ℕ → ℕ → ByteOutcome → List ℕ → Type 0
takes_or_refuses reader (Some why) held byte offset old status outcome new =
    (status ≡ number_of why) × (outcome ≡ empty_outcome offset) × (new ≡ old)
takes_or_refuses reader None held byte offset old status outcome new =
    (status ≡ number_of statuses.Done) × (outcome ≡ outcome_by reader held byte offset)
    × (new ≡ with_front (written_by reader held byte offset) old)

-- by whether the buffer has fewer places than any byte may need; nothing is taken then
abbrev pub takes : {Held : Type 0} → Reader Held → Bool → Held → ℕ → ℕ → List ℕ → ℕ → ByteOutcome → List ℕ → Held → Type 0
takes reader true held byte offset old status outcome new after =
    (status ≡ number_of statuses.SmallBuffer) × (outcome ≡ needing offset (reader.most held)) × (new ≡ old) × (after ≡ held)
takes reader false held byte offset old status outcome new after =
    takes_or_refuses reader (refusal_of (reader.step held offset byte)) held byte offset old status outcome new
    × (after ≡ reader.after held offset byte)

abbrev pub IsByteTaken : {Held : Type 0} → Reader Held → Held → ℕ → ℕ → List ℕ → ℕ → ByteOutcome → List ℕ → Held → Type 0
IsByteTaken reader held byte offset old status outcome new after =
    takes reader (nat_lt (length old) (reader.most held)) held byte offset old status outcome new after

-- ---- many bytes

-- one of them, with its outcome if there is something to tell of it
pub record TakesByte {Held : Type 0} (reader : Reader Held) (held : Held) (offset : ℕ) (own written : List ℕ) (items : List ByteOutcome)
    (after : Held) : Type 0 where
  pub byte : ℕ
  pub own_is : own ≡ byte ∷ []
  pub accepted : refusal_of (reader.step held offset byte) ≡ None
  pub written_are : written ≡ written_by reader held byte offset
  pub items_are : items ≡ items_of (outcome_by reader held byte offset)
  pub after_is : after ≡ reader.after held offset byte

pub record RefusesByte {Held : Type 0} (reader : Reader Held) (held : Held) (offset : ℕ) (own : List ℕ) (why : Status)
    (after : Held) : Type 0 where
  pub byte : ℕ
  pub own_is : own ≡ byte ∷ []
  pub refused : refusal_of (reader.step held offset byte) ≡ Some why
  pub after_is : after ≡ reader.after held offset byte

-- each byte is an item by itself
abbrev pub taking_by : {Held : Type 0} → Reader Held → Taking Held ByteOutcome
taking_by reader =
    record {
      size_of = λ first. 1;
      step = 1;
      Takes = TakesByte reader;
      Refuses = RefusesByte reader;
      most_written = reader.most;
      most_items = 1;
    }

abbrev pub AreBytesTaken : {Held : Type 0} → Reader Held → Held → ℕ → List ℕ → List ℕ → List ByteOutcome → ℕ → Block → List ℕ →
    List ByteOutcome → Held → Type 0
AreBytesTaken reader held offset bytes old old_items status block new items after =
    AreTaken (taking_by reader) held offset bytes old old_items status block new items after

-- ---- the end

-- the line of what is open when the bytes end
abbrev pub IsEnd : Option Open → ℕ → ListingLine → ListingLine → Type 0
IsEnd None status old new = (status ≡ number_of statuses.Nothing) × (new ≡ old)
IsEnd (Some begun) status old new = (status ≡ number_of statuses.Done) × (new ≡ line_of (open_kind begun.kind, begun.start))
