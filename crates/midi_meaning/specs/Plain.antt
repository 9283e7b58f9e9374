-- The plain piece of a packet: its MIDI 1.0 messages, each written with its status byte (M2-104-UM, default
-- translation).
use Rattle.std.specs.Prelude.{ℕ, ◌+◌, ◌/◌, ◌%◌, if◌then◌else◌, List, [], ◌∷◌, Option, Some, None, Bool}
use Rattle.std.specs.List.{flat_map}
use Rattle.voice_messages.specs.declared.voice1.Voice1.TheVariants as voice1
use Rattle.voice_messages.specs.declared.voice2.Param.{Param}
use Rattle.voice_messages.specs.declared.voice2.Bank.{Bank}
use Rattle.voice_messages.specs.declared.voice2.Voice2.{Voice2}
use Rattle.voice_messages.specs.declared.voice2.Voice2.TheVariants as voice2
use Rattle.ump_grammar.specs.declared.packet.Packet.{Packet}
use Rattle.ump_grammar.specs.declared.packet.Packet.TheVariants as packet
use Rattle.bit_scaling.specs.Scaling.{down7, down14, release_down, velocity_down}
use Rattle.midi1_bytes.specs.Messages.{Message, voice, exclusive, system_message, spelled}
use Rattle.midi_meaning.specs.Registers.{is_null}
use Rattle.midi_meaning.specs.Controllers.{Role, coarse, role_of, pairing, number_msb_index, number_lsb_index}
use Rattle.midi_meaning.specs.Listing.{is_carried_role}

-- a parameter is selected by its number and then set by data entry; the value has fourteen bits
abbrev pub set_messages : ℕ → Param → ℕ → List Message
set_messages channel param value =
    voice (voice1.Control channel (number_msb_index param.kind) param.bank)
    ∷ voice (voice1.Control channel (number_lsb_index param.kind) param.index)
    ∷ voice (voice1.Control channel 6 (value / 128))
    ∷ voice (voice1.Control channel 38 (value % 128))
    ∷ []

-- own rule: the value of a pair has fourteen bits; its MSB comes first, and then its LSB, whose index is
-- higher by 32
abbrev pub pair_messages : ℕ → ℕ → ℕ → List Message
pair_messages channel index value =
    voice (voice1.Control channel index (value / 128))
    ∷ voice (voice1.Control channel (index + 32) (value % 128))
    ∷ []

abbrev pub control_messages : Role → ℕ → ℕ → ℕ → List Message
control_messages coarse channel index value = pair_messages channel index (down14 value)
control_messages role channel index value =
    if is_carried_role role then voice (voice1.Control channel index (down7 value)) ∷ []
    else []

abbrev pub program_messages : ℕ → ℕ → Option Bank → List Message
program_messages channel program None = voice (voice1.Program channel program) ∷ []
program_messages channel program (Some bank) =
    voice (voice1.Control channel 0 bank.msb)
    ∷ voice (voice1.Control channel 32 bank.lsb)
    ∷ voice (voice1.Program channel program)
    ∷ []

abbrev pub ended_messages : Option (List ℕ) → List Message
ended_messages None = []
ended_messages (Some bytes) = exclusive bytes ∷ []

-- ---- with paired controllers or without

module _ (paired : Bool) where
  abbrev pub voice_messages : Voice2 → List Message
  voice_messages (voice2.NoteOff channel note velocity attribute_type attribute) =
      voice (voice1.NoteOff channel note (release_down velocity)) ∷ []
  voice_messages (voice2.NoteOn channel note velocity attribute_type attribute) =
      voice (voice1.NoteOn channel note (velocity_down velocity)) ∷ []
  voice_messages (voice2.PolyPressure channel note value) = voice (voice1.PolyPressure channel note (down7 value)) ∷ []
  voice_messages (voice2.Control channel index value) = control_messages (pairing paired (role_of index)) channel index value
  voice_messages (voice2.Set channel param value) = if is_null param then [] else set_messages channel param (down14 value)
  voice_messages (voice2.Program channel program bank) = program_messages channel program bank
  voice_messages (voice2.Pressure channel value) = voice (voice1.Pressure channel (down7 value)) ∷ []
  voice_messages (voice2.Bend channel value) = voice (voice1.Bend channel (down14 value)) ∷ []
  voice_messages _ = []

  -- the messages of a packet, with the bytes of the exclusive that it ends, if it ends one
  abbrev pub plain_messages : Option (List ℕ) → Packet → List Message
  plain_messages whole (packet.System group message) = system_message message ∷ []
  plain_messages whole (packet.Voice1 group message) = voice message ∷ []
  plain_messages whole (packet.Exclusive group form bytes) = ended_messages whole
  plain_messages whole (packet.Voice2 group message) = voice_messages message
  plain_messages whole _ = []

  abbrev pub plain_piece : Option (List ℕ) → Packet → List ℕ
  plain_piece whole packet = flat_map spelled (plain_messages whole packet)
