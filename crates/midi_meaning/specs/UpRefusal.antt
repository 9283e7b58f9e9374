-- The bytes that the way up refuses (own rules).
use Rattle.std.specs.Prelude.{◌≡◌, ◌≢◌, ℕ, List, [], ◌∷◌, Option, Some, None}
use Rattle.midi1_bytes.specs.Messages.{Message, voice}
use Rattle.midi1_bytes.specs.Stream.{Room}
use Rattle.midi1_bytes.specs.Steps.{Step, too_long, completed_by, step_of}
use Rattle.listing_terms.specs.declared.listed.BadStep.{BadStep}
use Rattle.listing_terms.specs.declared.listed.BadStep.TheVariants as bad
use Rattle.midi_meaning.specs.Refusal.{bad_voice1}

-- data increment and data decrement
abbrev pub bad_message : Option Message → Option BadStep
bad_message (Some (voice message)) = bad_voice1 message
bad_message _ = None

-- why a step is refused, if it is refused
abbrev pub refusal_of_step : Step → Option BadStep
refusal_of_step too_long = Some bad.ExclusiveTooLong
refusal_of_step step = bad_message (completed_by step)

-- why a byte is refused after these, newest first, if it is refused
abbrev pub refusal_up : Room → List ℕ → ℕ → Option BadStep
refusal_up room past byte = refusal_of_step (step_of room past byte)

-- no exclusive in these bytes, newest first, exceeds the limit
abbrev pub AreStepsWithinRoom : ℕ → List ℕ → Type 0
AreStepsWithinRoom room [] = Unit {0}
AreStepsWithinRoom room (byte ∷ past) = (step_of (Some room) past byte ≢ too_long) × AreStepsWithinRoom room past

-- no byte of these, newest first, is refused
abbrev pub AreAcceptedUp : Room → List ℕ → Type 0
AreAcceptedUp room [] = Unit {0}
AreAcceptedUp room (byte ∷ past) = (refusal_up room past byte ≡ None) × AreAcceptedUp room past
