-- There and back: the MIDI 1.0 bytes of the packets to which the bytes of a stream are raised, and when they
-- mean the same.
use Rattle.std.specs.Prelude.{◌≡◌, ℕ, Bool, true, false, List, [], ◌∷◌, ◌++◌, map, reverse, Some, None}
use Rattle.voice_messages.specs.declared.voice2.Form.TheVariants as form
use Rattle.voice_messages.specs.declared.voice2.Param.{Param}
use Rattle.ump_grammar.specs.declared.packet.Packet.{Packet}
use Rattle.ump_grammar.specs.declared.packet.Packet.TheVariants as packet
use Rattle.midi1_bytes.specs.Stream.{Room}
use Rattle.midi_meaning.specs.State.{Channel, GroupState}
use Rattle.listing_terms.specs.Parts.{Placed, parts_of, whole_by, whole_of}
use Rattle.midi_meaning.specs.Listing.{is_carried, line_of}
use Rattle.midi_meaning.specs.Plain.{plain_piece}
use Rattle.midi_meaning.specs.Refusal.{bad_step}
use Rattle.midi_meaning.specs.Raising.{packets_at, packets_up}

-- ---- equal states, registers aside

pub record SameChannel (one two : Channel) : Type 0 where
  pub acts : one.acts ≡ two.acts
  pub poly : (note : ℕ) → one.poly note ≡ two.poly note
  pub controllers : (index : ℕ) → one.controllers index ≡ two.controllers index
  pub pressure : one.pressure ≡ two.pressure
  pub bend : one.bend ≡ two.bend
  pub program : one.program ≡ two.program
  pub params : (param : Param) → one.params param ≡ two.params param
  pub loose : (param : Param) → one.loose param ≡ two.loose param

pub record SameState (one two : GroupState) : Type 0 where
  pub channels : (index : ℕ) → SameChannel (one.channels index) (two.channels index)
  pub commons : one.commons ≡ two.commons
  pub real_times : one.real_times ≡ two.real_times

-- whether a packet isn't a part of an exclusive that others follow
abbrev pub is_last_part : Packet → Bool
is_last_part (packet.Exclusive group form.Start bytes) = false
is_last_part (packet.Exclusive group form.Continue bytes) = false
is_last_part _ = true

-- ---- with paired controllers or without

module _ (paired : Bool) where
  -- the plain pieces of packets, in the order in which they come after others, which are newest first
  abbrev pub pieces_of : List Packet → List Packet → List ℕ
  pieces_of past [] = []
  pieces_of past (packet ∷ packets) = plain_piece paired (whole_of past packet) packet ++ pieces_of (packet ∷ past) packets

  -- The pieces of the packets of one more byte, after the bytes so far, newest first.
  abbrev pub back_at : Room → ℕ → List ℕ → ℕ → List ℕ
  back_at room group past byte = pieces_of (reverse (packets_up paired room group past)) (packets_at paired room group past byte)

  -- those of all bytes so far, in the order in which they come
  abbrev pub back : Room → ℕ → List ℕ → List ℕ
  back room group [] = []
  back room group (byte ∷ past) = back room group past ++ back_at room group past byte

  -- the same of bytes in the order in which they come
  abbrev pub back_of_bytes : Room → ℕ → List ℕ → List ℕ
  back_of_bytes room group bytes = back room group (reverse bytes)

  -- ---- what the way down says of the raised packets

  -- After these packets, newest first, the packet is accepted within the limit and isn't listed. It is
  -- carried unless it is a part that others follow, and the bytes of the exclusive that it ends are those
  -- without a limit.
  pub record ComesBack (room : ℕ) (past : List Placed) (placed : Placed) : Type 0 where
    pub accepted : bad_step (Some room) (parts_of past) placed.packet ≡ None
    pub unlisted : line_of paired (Some room) (parts_of past) placed ≡ None
    pub carried : is_carried paired (whole_by (Some room) (parts_of past) placed.packet) placed.packet ≡ is_last_part placed.packet
    pub whole : whole_by (Some room) (parts_of past) placed.packet ≡ whole_of (map (λ placed. placed.packet) past) placed.packet

  -- each of these packets, newest first, after those before it
  abbrev pub AllComeBack : ℕ → List Placed → Type 0
  AllComeBack room [] = Unit {0}
  AllComeBack room (placed ∷ past) = ComesBack room past placed × AllComeBack room past
