-- What the translator up answers, into the caller's buffer.
use Rattle.std.specs.Prelude.{◌≡◌, ◌<◌, ◌≤◌, ◌*◌, ◌&&◌, not, nat_lt, max, ℕ, Bool, true, false, List, length, Option, Some, None, Result, Ok, Err}
use Rattle.std.specs.Int.{div_ceil}
use Rattle.midi1_bytes.specs.Parsing.{open_of, parse}
use Rattle.midi1_bytes.specs.Stream.{Open}
use Rattle.sysex_groups.specs.Cut.{part_count}
use Rattle.param_collector.specs.Keeps.{Keeps}
use Rattle.midi_meaning.specs.State.{GroupState}
use Rattle.midi_meaning.specs.StepListing.{open_kind}
use Rattle.midi_meaning.specs.UpRefusal.{refusal_of_step}
use Rattle.midi_meaning.specs.declared.listed.BadStep.{BadStep}
use Rattle.up_translator.specs.ByteLines.{first_in, second_in}
use Rattle.up_translator.specs.Fronts.{is_direct}
use Rattle.up_translator.specs.Held.{KeepsAfter, UpState, step_in, up_after}
use Rattle.up_translator.specs.Raised.{packets_in, payload_in}
use Rattle.up_translator.specs.Step.{Accepts}
use Rattle.up_translator.specs.declared.raised.Raised.{Raised}
use Rattle.c_answers.specs.Lines.{line_of, listed_line}
use Rattle.c_answers.specs.Numbers.{number_of}
use Rattle.c_answers.specs.Outcomes.{empty_outcome, needing, outcome_of}
use Rattle.c_answers.specs.Refusals.{status_of_step}
use Rattle.c_answers.specs.Within.{IsWithin}
use Rattle.c_answers.specs.declared.line.ListingLine.{ListingLine}
use Rattle.c_answers.specs.declared.outcome.ByteOutcome.{ByteOutcome}
use Rattle.c_answers.specs.declared.status.Status.{Status}
use Rattle.c_answers.specs.declared.status.Status.TheVariants as statuses
use Rattle.c_translators.specs.Encoded.{AreEncoded}

-- The size of a buffer that takes the words of any byte: two for each packet of an exclusive of this limit,
-- and at least the four words of the longest packet.
abbrev pub most_words_of : ℕ → ℕ
most_words_of room = max (div_ceil room 6 * 2) 4

abbrev pub most_words : UpState → ℕ
most_words up = most_words_of up.parsing.room

abbrev pub CutsWithin : Option (List ℕ) → ℕ → Type 0
CutsWithin None size = Unit {0}
CutsWithin (Some payload) size = 2 * part_count payload ≤ size

-- a buffer of this size takes the words of what is raised
abbrev pub RaisesWithin : Raised → ℕ → Type 0
RaisesWithin raised size = (4 ≤ size) × CutsWithin (payload_in raised) size

-- What is so of a translator between two bytes: its group is one of sixteen, what is open of an exclusive is
-- within the limit, and what control changes have set is kept of some state.
pub record IsSound (up : UpState) : Type 0 where
  pub below : up.group < 16
  pub within : IsWithin up.parsing
  pub state : GroupState
  pub keeps : Keeps up.holding state

-- ---- one byte

-- the outcome of a byte at this offset, by what is raised of it and the number of its words
abbrev pub outcome_shown : ℕ → ℕ → Raised → ByteOutcome
outcome_shown offset written raised =
    outcome_of offset written (listed_line (first_in raised.lines)) (listed_line (second_in raised.lines))

-- what is raised of a byte: its words are at the front of the buffer, and its lines are shown
pub record HasRaised (raised : Raised) (offset : ℕ) (old : List ℕ) (outcome : ByteOutcome) (new : List ℕ) : Type 0 where
  pub words : AreEncoded (packets_in raised) old outcome.written new
  pub shown : outcome ≡ outcome_shown offset outcome.written raised

-- A byte that is accepted. Each state that was kept before it is kept after it, as it then is, so that the
-- next byte's packets are those of that state.
pub record IsAccepted (up : UpState) (byte offset : ℕ) (old : List ℕ) (outcome : ByteOutcome) (new : List ℕ) : Type 0 where
  pub raised : Raised
  pub accepts : Accepts up.holding up.group offset (step_in up offset byte) raised
  pub keeps : KeepsAfter up.holding (step_in up offset byte)
  pub written : HasRaised raised offset old outcome new

-- one that is refused: nothing is written, and no line is shown
pub record IsRefused (up : UpState) (byte offset : ℕ) (old : List ℕ) (why : BadStep) (outcome : ByteOutcome) (new : List ℕ) : Type 0 where
  pub refused : refusal_of_step (step_in up offset byte) ≡ Some why
  pub keeps : KeepsAfter up.holding (step_in up offset byte)
  pub empty : outcome ≡ empty_outcome offset
  pub same : new ≡ old

abbrev pub IsTakenOrRefused : UpState → ℕ → ℕ → List ℕ → Result (Unit {0}) BadStep → ByteOutcome → List ℕ → Type 0
IsTakenOrRefused up byte offset old (Ok done) outcome new = IsAccepted up byte offset old outcome new
IsTakenOrRefused up byte offset old (Err why) outcome new = IsRefused up byte offset old why outcome new

-- the state after a byte that is refused: what control changes have set stays
abbrev pub after_refused : UpState → ℕ → ℕ → UpState
after_refused up offset byte = record { group = up.group; parsing = (parse up.parsing offset byte).after; holding = up.holding }

abbrev pub after_result : UpState → ℕ → ℕ → Result (Unit {0}) BadStep → UpState
after_result up offset byte (Ok done) = up_after up offset byte
after_result up offset byte (Err why) = after_refused up offset byte

-- the status of a byte that is taken, or refused
abbrev pub status_by : Result (Unit {0}) BadStep → Status
status_by (Ok done) = statuses.Done
status_by (Err why) = status_of_step why

abbrev pub answers : Bool → UpState → ℕ → ℕ → List ℕ → ℕ → ByteOutcome → List ℕ → UpState → Type 0
answers true up byte offset old status outcome new after =
    (status ≡ number_of statuses.SmallBuffer) × (outcome ≡ needing offset (most_words up)) × (new ≡ old) × (after ≡ up)
answers false up byte offset old status outcome new after =
    (result : Result (Unit {0}) BadStep) × IsTakenOrRefused up byte offset old result outcome new
    × (status ≡ number_of (status_by result)) × (after ≡ after_result up offset byte result)

-- The byte comes at an offset: it isn't taken if the buffer may be too small.
abbrev pub IsAnswered : UpState → ℕ → ℕ → List ℕ → ℕ → ByteOutcome → List ℕ → UpState → Type 0
IsAnswered up byte offset old status outcome new after =
    answers (nat_lt (length old) (most_words up)) up byte offset old status outcome new after

-- ---- one byte, if nothing is raised of it or a direct message alone

-- by whether it is taken; if it isn't, only the outcome changes
abbrev pub IsAcceptedOrLeft : Bool → UpState → ℕ → ℕ → List ℕ → ByteOutcome → List ℕ → UpState → Type 0
IsAcceptedOrLeft true up byte offset old outcome new after =
    IsAccepted up byte offset old outcome new × (after ≡ up_after up offset byte)
IsAcceptedOrLeft false up byte offset old outcome new after = (new ≡ old) × (after ≡ up)

-- the same of the call
abbrev pub IsDoneOrLeft : Bool → UpState → ℕ → ℕ → List ℕ → ByteOutcome → List ℕ → UpState → Type 0
IsDoneOrLeft true up byte offset old outcome new after = IsAnswered up byte offset old (number_of statuses.Done) outcome new after
IsDoneOrLeft false up byte offset old outcome new after = (new ≡ old) × (after ≡ up)

-- which bytes the call takes, with a buffer of this size
abbrev pub takes_direct : UpState → ℕ → ℕ → ℕ → Bool
takes_direct up byte offset size =
    not (nat_lt size (most_words up)) && is_direct up.holding.paired (step_in up offset byte)

-- ---- the end

-- the line of what is open, if anything is
abbrev pub ends : Option Open → ListingLine → ℕ → ListingLine → Type 0
ends None old status new = (status ≡ number_of statuses.Nothing) × (new ≡ old)
ends (Some begun) old status new = (status ≡ number_of statuses.Done) × (new ≡ line_of (open_kind begun.kind, begun.start))

abbrev pub HasEnd : UpState → ListingLine → ℕ → ListingLine → Type 0
HasEnd up old status new = ends (open_of up.parsing) old status new
