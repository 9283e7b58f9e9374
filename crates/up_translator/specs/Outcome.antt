-- The outcome of a voice message, by the state of the collector before it.
use Rattle.std.specs.Prelude.{◌≡◌, ℕ, Bool, true, false, List, [], ◌∷◌, Option, Some, None}
use Rattle.voice_messages.specs.declared.voice1.Voice1.{Voice1}
use Rattle.voice_messages.specs.declared.voice1.Voice1.TheVariants as voice1
use Rattle.voice_messages.specs.declared.voice2.Voice2.{Voice2}
use Rattle.voice_messages.specs.declared.voice2.Voice2.TheVariants as voice2
use Rattle.voice_messages.specs.Ranges.{IsVoice2}
use Rattle.encoded_packets.specs.DirectMessages.{is_direct_voice}
use Rattle.bit_scaling.specs.Scaling.{up}
use Rattle.listing_terms.specs.declared.listed.BadStep.{BadStep}
use Rattle.listing_terms.specs.declared.listed.BadStep.TheVariants as bad
use Rattle.midi_meaning.specs.Controllers.{pairing, role_of}
use Rattle.midi_meaning.specs.State.{GroupState}
use Rattle.midi_meaning.specs.Messages.{channel_of}
use Rattle.midi_meaning.specs.Raising.{raised_voice}
use Rattle.midi_meaning.specs.StepListing.{is_ignored_voice}
use Rattle.param_collector.specs.declared.collected.Collected.{Collected}
use Rattle.param_collector.specs.declared.collected.Collected.TheVariants as collected
use Rattle.param_collector.specs.Control.{holding_after}
use Rattle.param_collector.specs.Holding.{Holding}
use Rattle.up_translator.specs.declared.outcome.Outcome.{Outcome}
use Rattle.up_translator.specs.declared.outcome.Outcome.TheVariants as outcome
use Rattle.up_translator.specs.declared.outcome.SelectingMessage.{SelectingMessage}
use Rattle.up_translator.specs.declared.outcome.SelectingMessage.TheVariants as selecting

-- the message of MIDI 1.0 that isn't raised alone
abbrev pub selecting_in : SelectingMessage → Voice1
selecting_in (selecting.Control channel index value) = voice1.Control channel index value
selecting_in (selecting.Program channel program) = voice1.Program channel program

abbrev pub messages_in : Outcome → List Voice2
messages_in outcome.Nothing = []
messages_in (outcome.Control channel index value) = voice2.Control channel index value ∷ []
messages_in (outcome.Message message) = message ∷ []
messages_in outcome.Ignored = []
messages_in (outcome.Refused bad) = []

abbrev pub is_ignored_in : Outcome → Bool
is_ignored_in outcome.Ignored = true
is_ignored_in _ = false

abbrev pub refusal_in : Outcome → Option BadStep
refusal_in (outcome.Refused bad) = Some bad
refusal_in _ = None

-- the fields of a message fit their places, and only a control change is a direct message
abbrev pub FitsVoice2 : Outcome → Type 0
FitsVoice2 (outcome.Control channel index value) = IsVoice2 (voice2.Control channel index value)
FitsVoice2 (outcome.Message message) = IsVoice2 message × (is_direct_voice message ≡ false)
FitsVoice2 _ = Unit {0}

-- from the state of the group before the message, with paired controllers or without
pub record IsRaisedVoice (paired : Bool) (state : GroupState) (message : Voice1) (result : Outcome) : Type 0 where
  pub messages : messages_in result ≡ raised_voice paired (state.channels (channel_of message)) message
  pub ignored : is_ignored_in result ≡ is_ignored_voice (state.channels (channel_of message)) message

-- ---- a control change

-- by the collector's answer to it
abbrev pub outcome_by : Collected → ℕ → ℕ → ℕ → Outcome
outcome_by collected.DataIncrement channel index value = outcome.Refused bad.DataIncrement
outcome_by collected.DataDecrement channel index value = outcome.Refused bad.DataDecrement
outcome_by collected.Held channel index value = outcome.Nothing
outcome_by (collected.Set param entered) channel index value = outcome.Message (voice2.Set channel param (up entered 14 32))
outcome_by collected.Ignored channel index value = outcome.Ignored
outcome_by (collected.Pair coarse entered) channel index value = outcome.Control channel coarse (up entered 14 32)
outcome_by collected.Plain channel index value = outcome.Control channel index (up value 7 32)

-- ---- the state after a voice message: a control change is collected

abbrev pub holding_with : Holding → Voice1 → Holding
holding_with holding (voice1.Control channel index value) =
    holding_after (pairing holding.paired (role_of index)) holding channel index value
holding_with holding _ = holding
