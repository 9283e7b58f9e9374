-- Packets that no message of MIDI 1.0 carries in any state of a translator (M2-104-UM, default translation; own rules).
use Rattle.std.specs.Prelude.{◌≡◌, ◌==◌, ◌&&◌, ◌||◌, if◌then◌else◌, ℕ, Bool, true, false, List, Option, Some, None}
use Rattle.voice_messages.specs.declared.voice2.Voice2.{Voice2}
use Rattle.voice_messages.specs.declared.voice2.Voice2.TheVariants as voice2
use Rattle.ump_grammar.specs.declared.packet.Packet.{Packet}
use Rattle.ump_grammar.specs.declared.packet.Packet.TheVariants as packet
use Rattle.ump_grammar.specs.Spelling.{has_row}
use Rattle.ump_grammar.specs.WordFields.{byte, opcode_of, type_of}
use Rattle.midi_meaning.specs.declared.listed.Kind.{Kind}
use Rattle.midi_meaning.specs.declared.listed.Kind.TheVariants as kinds
use Rattle.midi_meaning.specs.Parts.{group_of}
use Rattle.midi_meaning.specs.Registers.{is_null}
use Rattle.down_translator.specs.declared.uncarried.Uncarried.{Uncarried}

-- how a relative parameter is listed, which may be the null parameter
abbrev pub shift_kind : Bool → Kind
shift_kind null = if null then kinds.NullParameter else kinds.RelativeParameter

-- the voice messages of MIDI 2.0 for one note, other than its start, its end and its pressure, and the
-- relative parameters
abbrev pub uncarried_voice : Voice2 → Option Kind
uncarried_voice (voice2.NoteController channel kind note index value) = Some kinds.NoteController
uncarried_voice (voice2.NoteBend channel note value) = Some kinds.NoteBend
uncarried_voice (voice2.NoteManagement channel note flags) = Some kinds.NoteManagement
uncarried_voice (voice2.Shift channel param value) = Some (shift_kind (is_null param))
uncarried_voice _ = None

-- how such a packet is listed
abbrev pub uncarried_kind : Packet → Option Kind
uncarried_kind (packet.Utility status value) = Some kinds.Utility
uncarried_kind (packet.Voice2 group message) = uncarried_voice message
uncarried_kind (packet.Data8 group kept) = Some kinds.Data8
uncarried_kind (packet.Flex group kept) = Some kinds.Flex
uncarried_kind (packet.Stream format status low second third fourth) = Some kinds.Stream
uncarried_kind (packet.Reserved kept) = Some kinds.Reserved
uncarried_kind _ = None

-- the packet has this group and is listed as this
pub record IsUncarried (packet : Packet) (told : Uncarried) : Type 0 where
  pub kind : uncarried_kind packet ≡ Some told.kind
  pub group : group_of packet ≡ told.group

-- ---- by the first word

abbrev pub voice_kind_in : List ℕ → Option Kind
voice_kind_in words =
    if opcode_of words == 0x0 || opcode_of words == 0x1 then Some kinds.NoteController
    else if opcode_of words == 0x4 || opcode_of words == 0x5 then Some (shift_kind (byte words 3 == 127 && byte words 4 == 127))
    else if opcode_of words == 0x6 then Some kinds.NoteBend
    else if opcode_of words == 0xF then Some kinds.NoteManagement
    else None

-- of a row
abbrev pub row_kind_in : List ℕ → Option Kind
row_kind_in words =
    if type_of words == 0x0 then Some kinds.Utility
    else if type_of words == 0x4 then voice_kind_in words
    else if type_of words == 0x5 then Some kinds.Data8
    else if type_of words == 0xD then Some kinds.Flex
    else if type_of words == 0xF then Some kinds.Stream
    else None

abbrev pub kind_in : List ℕ → Option Kind
kind_in words = if has_row words then row_kind_in words else Some kinds.Reserved

-- utility and stream messages and reserved packets have no group
abbrev pub has_group : Kind → Bool
has_group kinds.Utility = false
has_group kinds.Stream = false
has_group kinds.Reserved = false
has_group _ = true
