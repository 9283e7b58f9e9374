-- A type 4 packet with the opcode of a direct message is that message.
use Rattle.std.proofs.Common.{◌≡◌, ◌<◌, ◌/◌, ◌%◌, ◌^◌, ℕ, Bool, true, false, ◌||◌, ◌&&◌}
use Rattle.std.proofs.Common.{leb, List, length, refl, sym, ap, ◌∙◌, subst, arith}
use Rattle.std.specs.Prelude.{◌==◌, slice_index, if◌then◌else◌, Some, None}
use Rattle.std.specs.Coded.{Coded-set, coded_bool}
use Rattle.std.proofs.lemmas.Bool.{leb-false, true≢false}
use mathlib.Core.Logic.{∥∥₁_elim}
use Rattle.voice_messages.specs.declared.voice2.Voice2.{Voice2}
use Rattle.voice_messages.specs.declared.voice2.Voice2.TheVariants as voice2
use Rattle.packet_words.specs.Words.{IsWhole}
use Rattle.ump_grammar.specs.declared.packet.Packet.{Packet}
use Rattle.ump_grammar.specs.declared.packet.Packet.TheVariants as packet
use Rattle.ump_grammar.specs.declared.packet.Bad.TheVariants.{HighBit}
use Rattle.ump_grammar.specs.WordFields.{field, word, byte, type_of, group_of, opcode_of, channel_of}
use Rattle.ump_grammar.specs.Reason.{reason}
use Rattle.ump_grammar.specs.Spelling.{HasRow, Spells, SpellsVoice2}
use Rattle.encoded_packets.specs.declared.direct_message.DirectMessage.{DirectMessage}
use Rattle.encoded_packets.specs.Encoded.{ThePacket}
use Rattle.encoded_packets.specs.DirectMessages.{one_of_six, IsDirectMessage, has_direct_kind}
use Rattle.encoded_packets.specs.DirectMessages.{is_direct_opcode, is_direct_voice, message_by, direct_voice}
use Rattle.encoded_packets.proofs.EncodedLaws.{is_fine, is_whole, the_one}

pub two_words : (words : List ℕ) → IsWhole words → slice_index words 0 < 2 ^ 32 → field (slice_index words 0) 28 4 ≡ 4 → length words ≡ 2
two_words words whole small kind =
    let type : slice_index words 0 / 2 ^ 28 ≡ 4 = omega arith in
    whole ∙ rw type refl

not-opcode : (words : List ℕ) (n : ℕ) → opcode_of words ≡ n → is_direct_opcode n ≡ true → is_direct_opcode (opcode_of words) ≡ false → ⊥
not-opcode words n e it other = true≢false (sym it ∙ ap is_direct_opcode (sym e) ∙ other)

other-voice : (m : Voice2) (words : List ℕ) → SpellsVoice2 m words → is_direct_opcode (opcode_of words) ≡ false → is_direct_voice m ≡ false
other-voice (voice2.NoteOff channel note velocity attribute_type attribute) words s other = absurd (not-opcode words 0x8 s.0 refl other)
other-voice (voice2.NoteOn channel note velocity attribute_type attribute) words s other = absurd (not-opcode words 0x9 s.0 refl other)
other-voice (voice2.PolyPressure channel note value) words s other = absurd (not-opcode words 0xA s.0 refl other)
other-voice (voice2.Control channel index value) words s other = absurd (not-opcode words 0xB s.0 refl other)
other-voice (voice2.Pressure channel value) words s other = absurd (not-opcode words 0xD s.0 refl other)
other-voice (voice2.Bend channel value) words s other = absurd (not-opcode words 0xE s.0 refl other)
other-voice (voice2.NoteController channel kind note index value) words s other = refl
other-voice (voice2.Set channel param value) words s other = refl
other-voice (voice2.Shift channel param value) words s other = refl
other-voice (voice2.NoteBend channel note value) words s other = refl
other-voice (voice2.Program channel program bank) words s other = refl
other-voice (voice2.NoteManagement channel note flags) words s other = refl

-- other other packet is one
other-value : (p : Packet) (words : List ℕ) → HasRow p words → (type_of words == 4 && is_direct_opcode (opcode_of words)) ≡ false
    → has_direct_kind p ≡ false
other-value (packet.Voice2 group message) words r other =
    other-voice message words r.2 (ap (λ t. t == 4 && is_direct_opcode (opcode_of words)) (sym r.0) ∙ other)
other-value (packet.Utility status value) words r other = refl
other-value (packet.System group message) words r other = refl
other-value (packet.Voice1 group message) words r other = refl
other-value (packet.Exclusive group form bytes) words r other = refl
other-value (packet.Data8 group kept) words r other = refl
other-value (packet.Flex group kept) words r other = refl
other-value (packet.Stream format status low second third fourth) words r other = refl
other-value (packet.Reserved kept) words r other = refl

pub no_value_in : (words : List ℕ) (t : ThePacket words) → (type_of words == 4 && is_direct_opcode (opcode_of words)) ≡ false
    → has_direct_kind t.0 ≡ false
no_value_in words t other = ∥∥₁_elim t.1 (Coded-set coded_bool _ _) (λ a. other-value t.0 words a.spelled.row other)

-- the places of such a message
pub record HasPlaces (m : DirectMessage) (words : List ℕ) : Type 0 where
  pub group : m.group ≡ group_of words
  pub status : m.status ≡ byte words 2
  pub index : m.index ≡ byte words 3 % 128
  pub attribute_type : m.attribute_type ≡ byte words 4
  pub value : m.value ≡ field (word words 2) 0 32

low-by : (byte : ℕ) (high : Bool) → leb 128 byte ≡ high → (if (high || false) then Some HighBit else None) ≡ None → byte < 128
low-by byte true e fine = absurd (let both : Some HighBit ≡ None = fine in cc)
low-by byte false e fine = leb-false 128 byte e

module _ (m : DirectMessage) (words : List ℕ) (places : HasPlaces m words) (type : type_of words ≡ 4) (fine : reason words ≡ None) where
  channel : m.status % 16 ≡ channel_of words
  channel = let status : m.status ≡ slice_index words 0 / 65536 % 256 = places.status in omega arith

  same-opcode : m.status / 16 ≡ opcode_of words
  same-opcode = let status : m.status ≡ slice_index words 0 / 65536 % 256 = places.status in omega arith

  upper : m.value / 2 ^ 16 ≡ field (word words 2) 16 16
  upper = let value : m.value ≡ word words 2 / 1 % 2 ^ 32 = places.value in omega arith

  lower : m.value % 2 ^ 16 ≡ field (word words 2) 0 16
  lower = let value : m.value ≡ word words 2 / 1 % 2 ^ 32 = places.value in omega arith

  all : m.value ≡ field (word words 2) 0 32
  all = places.value

  index-by : byte words 3 < 128 → m.index ≡ byte words 3
  index-by low = let index : m.index ≡ byte words 3 % 128 = places.index in omega arith

  abbrev IsSpelled : ℕ → Type 0
  IsSpelled opcode = opcode_of words ≡ opcode → SpellsVoice2 (message_by opcode m) words

  spelled-8 : IsSpelled 0x8
  spelled-8 e = (e, channel, index-by (low-by (byte words 3) _ refl (rw (type, e) at fine)), places.attribute_type, upper, lower)

  spelled-9 : IsSpelled 0x9
  spelled-9 e = (e, channel, index-by (low-by (byte words 3) _ refl (rw (type, e) at fine)), places.attribute_type, upper, lower)

  spelled-A : IsSpelled 0xA
  spelled-A e = (e, channel, index-by (low-by (byte words 3) _ refl (rw (type, e) at fine)), all)

  spelled-B : IsSpelled 0xB
  spelled-B e = (e, channel, index-by (low-by (byte words 3) _ refl (rw (type, e) at fine)), all)

  spelled-D : IsSpelled 0xD
  spelled-D e = (e, channel, all)

  spelled-E : IsSpelled 0xE
  spelled-E e = (e, channel, all)

  spelled : is_direct_opcode (opcode_of words) ≡ true → SpellsVoice2 (direct_voice m) words
  spelled it =
      subst (λ opcode. SpellsVoice2 (message_by opcode m) words) (sym same-opcode)
      (one_of_six IsSpelled spelled-8 spelled-9 spelled-A spelled-B spelled-D spelled-E (opcode_of words) it refl)

pub is_message : (m : DirectMessage) (words : List ℕ) (t : ThePacket words) → HasPlaces m words → type_of words ≡ 4
    → is_direct_opcode (opcode_of words) ≡ true → IsDirectMessage m × (t.0 ≡ packet.Voice2 m.group (direct_voice m))
is_message m words t places type it =
    let fine = is_fine words t in
    let status : m.status ≡ slice_index words 0 / 65536 % 256 = places.status in
    let group : m.group ≡ slice_index words 0 / 16777216 % 16 = places.group in
    let index : m.index ≡ byte words 3 % 128 = places.index in
    let value : m.value ≡ word words 2 / 1 % 2 ^ 32 = places.value in
    let opcode : is_direct_opcode (m.status / 16) ≡ true = ap is_direct_opcode (same-opcode m words places type fine) ∙ it in (
      record { opcode = opcode; group = omega arith; index = omega arith; value = omega arith },
      the_one words t (packet.Voice2 m.group (direct_voice m))
          (record { whole = is_whole words t; row = (type, places.group, spelled m words places type fine it) }),
    )

-- words spell at most one packet
abbrev pub SpellsOne : Type 0
SpellsOne = (p q : Packet) (words : List ℕ) → Spells p words → Spells q words → p ≡ q
