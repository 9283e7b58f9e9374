-- Which packets are carried to MIDI 1.0, and how the others are listed (M2-104-UM, default translation; what
-- it leaves out is listed by own rule).
use Rattle.std.specs.Prelude.{ℕ, ◌==◌, not, if◌then◌else◌, Bool, true, false, List, [], ◌∷◌, ◌++◌, reverse, Option, Some, None, is_some}
use Rattle.std.specs.Option.{option_map, option_to_list}
use Rattle.voice_messages.specs.declared.voice2.Voice2.{Voice2}
use Rattle.voice_messages.specs.declared.voice2.Voice2.TheVariants as voice2
use Rattle.ump_grammar.specs.declared.packet.Packet.{Packet}
use Rattle.ump_grammar.specs.declared.packet.Packet.TheVariants as packet
use Rattle.sysex_groups.specs.Exclusives.{Part, Room}
use Rattle.listing_terms.specs.declared.listed.Kind.{Kind}
use Rattle.listing_terms.specs.declared.listed.Kind.TheVariants as kinds
use Rattle.listing_terms.specs.declared.listed.Listed.{Listed}
use Rattle.midi_meaning.specs.Registers.{is_null}
use Rattle.midi_meaning.specs.Controllers.{Role, data_increment, data_decrement, reset_all}
use Rattle.midi_meaning.specs.Controllers.{channel_mode, coarse, fine, plain, role_of, pairing}
use Rattle.listing_terms.specs.Parts.{Placed, group_of, parts_of}
pub use Rattle.listing_terms.specs.ExclusiveLines.{begun_before, end_line, end_lines, exclusive_kind, groups, line_offset}

-- ---- carried

-- a controller that MIDI 2.0 sends as a control change
abbrev pub is_carried_role : Role → Bool
is_carried_role channel_mode = true
is_carried_role reset_all = true
is_carried_role coarse = true
is_carried_role plain = true
is_carried_role _ = false

-- ---- listed

-- the indexes that have packets of their own in MIDI 2.0; data increment and decrement are refused, and an
-- LSB of a pair is listed as itself (own rule)
abbrev pub is_misplaced : Role → Bool
is_misplaced data_increment = false
is_misplaced data_decrement = false
is_misplaced fine = false
is_misplaced role = not (is_carried_role role)

abbrev pub control_kind : Role → Option Kind
control_kind fine = Some kinds.FineController
control_kind role = if is_misplaced role then Some kinds.MisplacedController else None

abbrev pub attribute_kind : ℕ → Option Kind
attribute_kind attribute_type = if attribute_type == 0 then None else Some kinds.NoteAttribute

-- ---- with paired controllers or without

module _ (paired : Bool) where
  abbrev pub is_carried_voice : Voice2 → Bool
  is_carried_voice (voice2.NoteOff channel note velocity attribute_type attribute) = true
  is_carried_voice (voice2.NoteOn channel note velocity attribute_type attribute) = true
  is_carried_voice (voice2.PolyPressure channel note value) = true
  is_carried_voice (voice2.Control channel index value) = is_carried_role (pairing paired (role_of index))
  is_carried_voice (voice2.Set channel param value) = not (is_null param)
  is_carried_voice (voice2.Program channel program bank) = true
  is_carried_voice (voice2.Pressure channel value) = true
  is_carried_voice (voice2.Bend channel value) = true
  is_carried_voice _ = false

  -- from the bytes of the exclusive that the packet ends, if it ends one
  abbrev pub is_carried : Option (List ℕ) → Packet → Bool
  is_carried whole (packet.System group message) = true
  is_carried whole (packet.Voice1 group message) = true
  is_carried whole (packet.Exclusive group form bytes) = is_some whole
  is_carried whole (packet.Voice2 group message) = is_carried_voice message
  is_carried whole _ = false

  -- ---- listed

  abbrev pub voice_kind : Voice2 → Option Kind
  voice_kind (voice2.NoteOff channel note velocity attribute_type attribute) = attribute_kind attribute_type
  voice_kind (voice2.NoteOn channel note velocity attribute_type attribute) = attribute_kind attribute_type
  voice_kind (voice2.Control channel index value) = control_kind (pairing paired (role_of index))
  voice_kind (voice2.Set channel param value) = if is_null param then Some kinds.NullParameter else None
  voice_kind (voice2.Shift channel param value) = Some (if is_null param then kinds.NullParameter else kinds.RelativeParameter)
  voice_kind (voice2.NoteController channel kind note index value) = Some kinds.NoteController
  voice_kind (voice2.NoteBend channel note value) = Some kinds.NoteBend
  voice_kind (voice2.NoteManagement channel note flags) = Some kinds.NoteManagement
  voice_kind _ = None

  -- The kind that a packet is listed as, if it is listed. The first argument is the offset at which the
  -- exclusive that its group has open started, if it has one open.
  abbrev pub listed_kind : Option ℕ → Packet → Option Kind
  listed_kind begun (packet.Utility status value) = Some kinds.Utility
  listed_kind begun (packet.System group message) = None
  listed_kind begun (packet.Voice1 group message) = None
  listed_kind begun (packet.Exclusive group form bytes) = exclusive_kind form begun
  listed_kind begun (packet.Voice2 group message) = voice_kind message
  listed_kind begun (packet.Data8 group words) = Some kinds.Data8
  listed_kind begun (packet.Flex group words) = Some kinds.Flex
  listed_kind begun (packet.Stream format status low second third fourth) = Some kinds.Stream
  listed_kind begun (packet.Reserved words) = Some kinds.Reserved

  abbrev pub listed : Option ℕ → ℕ → Packet → Option Listed
  listed begun offset packet =
      option_map (λ kind. record { offset = line_offset kind begun offset; group = group_of packet; kind = kind })
      (listed_kind begun packet)

  -- ---- in a stream; parts of exclusives are newest first

  -- the line of a packet after these parts
  abbrev pub line_of : Room → List Part → Placed → Option Listed
  line_of room parts placed = listed (begun_before room parts placed.packet) placed.offset placed.packet

  -- the lines of packets that are listed, in the order in which they came
  abbrev pub lines_over : Room → List Placed → List Listed
  lines_over room [] = []
  lines_over room (placed ∷ past) = lines_over room past ++ option_to_list (line_of room (parts_of past) placed)

  -- the listing of a whole recording, whose packets are in the order in which they came
  abbrev pub listing_of : Room → List Placed → List Listed
  listing_of room packets = let past = reverse packets in lines_over room past ++ end_lines room (parts_of past)
