-- The compact piece of a packet: its plain piece without what the receiver of the lane's bytes already has
-- since the last System Reset, which is the running status (MIDI 1.0 Detailed Specification), a selected
-- parameter and a bank. Own rule: nothing is relied on across a System Reset.
use Rattle.std.specs.Prelude.{ℕ, ◌==◌, ◌&&◌, if◌then◌else◌, Bool, false, List, [], ◌∷◌, drop, Option, Some, None}
use Rattle.voice_messages.specs.declared.voice2.Param.{Param}
use Rattle.voice_messages.specs.declared.voice2.Bank.{Bank}
use Rattle.voice_messages.specs.declared.voice2.Voice2.{Voice2}
use Rattle.voice_messages.specs.declared.voice2.Voice2.TheVariants as voice2
use Rattle.ump_grammar.specs.declared.packet.Packet.{Packet}
use Rattle.ump_grammar.specs.declared.packet.Packet.TheVariants as packet
use Rattle.bit_scaling.specs.Scaling.{down14}
use Rattle.midi1_bytes.specs.Messages.{Message}
use Rattle.midi1_bytes.specs.RunningStatus.{written_behind}
use Rattle.midi_meaning.specs.Registers.{Registers, selected, is_null}
use Rattle.midi_meaning.specs.State.{same_param}
use Rattle.midi_meaning.specs.Messages.{meaning1}
use Rattle.midi_meaning.specs.Plain.{set_messages, program_messages, voice_messages, plain_messages}

-- ---- what a receiver has

-- The bytes after the last System Reset among these, or all of them if there is none. Bytes are newest first.
-- No other message has this byte in it.
abbrev pub since_reset : List ℕ → List ℕ
since_reset [] = []
since_reset (byte ∷ past) = if byte == 0xff then [] else byte ∷ since_reset past

abbrev pub is_param : Option Param → Param → Bool
is_param None param = false
is_param (Some other) param = same_param other param

-- whether this parameter is selected
abbrev pub is_selected : Registers → Param → Bool
is_selected registers param = is_param (selected registers) param

abbrev pub is_half : Option ℕ → ℕ → Bool
is_half None half = false
is_half (Some other) half = other == half

-- whether both halves of the bank are these
abbrev pub has_bank : Registers → Bank → Bool
has_bank registers bank = is_half registers.bank.msb bank.msb && is_half registers.bank.lsb bank.lsb

-- ---- the messages that it needs

-- the two control changes that select the parameter come first
abbrev pub needed_set : Registers → ℕ → Param → ℕ → List Message
needed_set registers channel param value =
    if is_selected registers param then drop 2 (set_messages channel param value)
    else set_messages channel param value

-- and so do the two that select the bank
abbrev pub needed_program : Registers → ℕ → ℕ → Option Bank → List Message
needed_program registers channel program None = program_messages channel program None
needed_program registers channel program (Some bank) =
    if has_bank registers bank then drop 2 (program_messages channel program (Some bank))
    else program_messages channel program (Some bank)

-- ---- with paired controllers or without

module _ (paired : Bool) where
  -- the registers of a channel that the bytes of a lane leave
  abbrev pub registers_in : List ℕ → ℕ → Registers
  registers_in past channel = ((meaning1 paired past).channels channel).registers

  abbrev pub needed_voice : (ℕ → Registers) → Voice2 → List Message
  needed_voice registers (voice2.Set channel param value) =
      if is_null param then [] else needed_set (registers channel) channel param (down14 value)
  needed_voice registers (voice2.Program channel program bank) =
      needed_program (registers channel) channel program bank
  needed_voice registers message = voice_messages paired message

  -- the plain messages of a packet without what selects a parameter or a bank that the channel's registers
  -- have
  abbrev pub needed_messages : (ℕ → Registers) → Option (List ℕ) → Packet → List Message
  needed_messages registers whole (packet.Voice2 group message) = needed_voice registers message
  needed_messages registers whole packet = plain_messages paired whole packet

  -- ---- the piece

  -- after these bytes of the lane, newest first, with the bytes of the exclusive that the packet ends, if it
  -- ends one
  abbrev pub compact_piece : List ℕ → Option (List ℕ) → Packet → List ℕ
  compact_piece past whole packet =
      written_behind (since_reset past) (needed_messages (registers_in (since_reset past)) whole packet)
