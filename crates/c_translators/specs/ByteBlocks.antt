-- How far a call over many bytes came, and what it leaves.
use Rattle.std.specs.Prelude.{◌≡◌, ◌<◌, ◌≤◌, ◌+◌, ◌^◌, ℕ, List, [], ◌∷◌, length, take, Some, Result, Ok, Err}
use Rattle.midi_meaning.specs.UpRefusal.{refusal_of_step}
use Rattle.midi_meaning.specs.declared.listed.BadStep.{BadStep}
use Rattle.up_translator.specs.Held.{KeepsAfter, UpState, step_in, up_after}
use Rattle.up_translator.specs.Raised.{packets_in}
use Rattle.up_translator.specs.Step.{Accepts}
use Rattle.up_translator.specs.declared.raised.Raised.{Raised}
use Rattle.c_answers.specs.Blocks.{Taking}
use Rattle.c_answers.specs.Blocks as blocks
use Rattle.c_answers.specs.Fronts.{with_front}
use Rattle.c_answers.specs.Outcomes.{items_of}
use Rattle.c_answers.specs.Refusals.{status_of_step}
use Rattle.c_answers.specs.declared.block.Block.{Block}
use Rattle.c_answers.specs.declared.outcome.ByteOutcome.{ByteOutcome}
use Rattle.c_answers.specs.declared.status.Status.{Status}
use Rattle.c_translators.specs.Encoded.{EncodesAll}
use Rattle.c_translators.specs.Up.{after_refused, most_words, outcome_shown}
use Rattle.c_translators.specs.declared.up.Run.{Run}

-- One byte that is accepted, with its words, and its outcome if it completes a packet or has a line. Each
-- state that was kept before it is kept after it.
pub record TakesByte (held : UpState) (offset : ℕ) (bytes words : List ℕ) (outcomes : List ByteOutcome) (after : UpState) : Type 0 where
  pub byte : ℕ
  pub raised : Raised
  pub accepts : Accepts held.holding held.group offset (step_in held offset byte) raised
  pub keeps : KeepsAfter held.holding (step_in held offset byte)
  pub encoded : EncodesAll (packets_in raised) words
  pub bytes_are : bytes ≡ byte ∷ []
  pub outcomes_are : outcomes ≡ items_of (outcome_shown offset (length words) raised)
  pub after_is : after ≡ up_after held offset byte

-- one that is refused
pub record RefusesByte (held : UpState) (offset : ℕ) (bytes : List ℕ) (why : Status) (after : UpState) : Type 0 where
  pub byte : ℕ
  pub step : BadStep
  pub refused : refusal_of_step (step_in held offset byte) ≡ Some step
  pub keeps : KeepsAfter held.holding (step_in held offset byte)
  pub bytes_are : bytes ≡ byte ∷ []
  pub why_is : why ≡ status_of_step step
  pub after_is : after ≡ after_refused held offset byte

-- ---- several bytes that are taken at once

-- Of these bytes, the first at this offset, only the last writes anything: these words and these outcomes;
-- and the state after it.
abbrev pub TakesRun : UpState → ℕ → List ℕ → List ℕ → List ByteOutcome → UpState → Type 0
TakesRun held offset [] words outcomes after = (words ≡ []) × (outcomes ≡ []) × (after ≡ held)
TakesRun held offset (byte ∷ []) words outcomes after = TakesByte held offset (byte ∷ []) words outcomes after
TakesRun held offset (byte ∷ next ∷ more) words outcomes after =
    TakesByte held offset (byte ∷ []) [] [] (up_after held offset byte)
    × TakesRun (up_after held offset byte) (offset + 1) (next ∷ more) words outcomes after

-- So many bytes at the front of these are taken, with what the last one writes at the front of both buffers.
pub record IsRun (held : UpState) (offset : ℕ) (bytes old : List ℕ) (old_outcomes : List ByteOutcome) (run : Run) (new : List ℕ)
    (outcomes : List ByteOutcome) (after : UpState) : Type 0 where
  pub words : List ℕ
  pub items : List ByteOutcome
  pub takes : TakesRun held offset (take run.count bytes) words items after
  pub within : run.count ≤ length bytes
  pub written_is : run.written ≡ length words
  pub items_is : run.items ≡ length items
  pub words_are : new ≡ with_front words old
  pub outcomes_are : outcomes ≡ with_front items old_outcomes

-- The bytes at the front are taken, one at least, and several only if their offsets don't begin again at 0;
-- or the first is refused.
abbrev pub IsFrontTaken : UpState → ℕ → List ℕ → List ℕ → List ByteOutcome → Result Run BadStep → List ℕ → List ByteOutcome → UpState → Type 0
IsFrontTaken held offset bytes old old_outcomes (Ok run) new outcomes after =
    IsRun held offset bytes old old_outcomes run new outcomes after × (0 < run.count) × (1 < run.count → offset + run.count < 2 ^ 64)
IsFrontTaken held offset bytes old old_outcomes (Err step) new outcomes after =
    RefusesByte held offset (take 1 bytes) (status_of_step step) after × (new ≡ old) × (outcomes ≡ old_outcomes)

-- ---- many bytes

-- Each byte adds 1 to the offset.
abbrev pub bytes : Taking UpState ByteOutcome
bytes =
    record { size_of = λ byte. 1; step = 1; Takes = TakesByte; Refuses = RefusesByte; most_written = most_words; most_items = 1 }

abbrev pub AreTaken : UpState → ℕ → List ℕ → List ℕ → List ByteOutcome → ℕ → Block → List ℕ → List ByteOutcome → UpState → Type 0
AreTaken up offset taken old old_outcomes status block new outcomes after =
    blocks.AreTaken bytes up offset taken old old_outcomes status block new outcomes after
