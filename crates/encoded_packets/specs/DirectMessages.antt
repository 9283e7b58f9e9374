-- Channel voice messages of the MIDI 2.0 protocol whose MIDI 1.0 counterpart has their status byte (M2-104-UM,
-- opcodes 8 to B, D and E).
use Rattle.std.specs.Prelude.{◌≡◌, ◌==◌, ◌<◌, ◌/◌, ◌%◌, ◌^◌, ℕ, Bool, true, false, if◌then◌else◌}
use Rattle.std.proofs.Common.{eqb, sym, refl, subst, ◌∙◌}
use Rattle.std.proofs.lemmas.Bool.{eqb-true, true≢false}
use Rattle.voice_messages.specs.declared.voice2.Voice2.{Voice2}
use Rattle.voice_messages.specs.declared.voice2.Voice2.TheVariants as voice2
use Rattle.ump_grammar.specs.declared.packet.Packet.{Packet}
use Rattle.ump_grammar.specs.declared.packet.Packet.TheVariants as packet
use Rattle.encoded_packets.specs.declared.direct_message.DirectMessage.{DirectMessage}
use Rattle.encoded_packets.specs.declared.direct_message.DirectKind.{DirectKind}
use Rattle.encoded_packets.specs.declared.direct_message.DirectKind.TheVariants as kinds

-- the kind with this opcode
abbrev pub kind_by : ℕ → DirectKind
kind_by opcode =
    if opcode == 0x8 then kinds.NoteOff
    else if opcode == 0x9 then kinds.NoteOn
    else if opcode == 0xA then kinds.PolyPressure
    else if opcode == 0xB then kinds.Control
    else if opcode == 0xD then kinds.Pressure
    else if opcode == 0xE then kinds.Bend
    else kinds.Other

abbrev pub is_direct_kind : DirectKind → Bool
is_direct_kind kinds.Other = false
is_direct_kind _ = true

abbrev pub is_direct_opcode : ℕ → Bool
is_direct_opcode opcode = is_direct_kind (kind_by opcode)

-- What holds for each of the six opcodes holds for every direct opcode.
pick : (P : ℕ → Type 0) (n k : ℕ) (same : Bool) → eqb n k ≡ same → P k → (same ≡ false → P n) → P n
pick P n k true e here rest = subst P (sym (eqb-true n k e)) here
pick P n k false e here rest = rest refl

pub one_of_six : (P : ℕ → Type 0) → P 0x8 → P 0x9 → P 0xA → P 0xB → P 0xD → P 0xE → (n : ℕ) → is_direct_opcode n ≡ true → P n
one_of_six P at8 at9 atA atB atD atE n e =
    pick P n 0x8 (eqb n 0x8) refl at8 (λ not8.
    pick P n 0x9 (eqb n 0x9) refl at9 (λ not9.
    pick P n 0xA (eqb n 0xA) refl atA (λ notA.
    pick P n 0xB (eqb n 0xB) refl atB (λ notB.
    pick P n 0xD (eqb n 0xD) refl atD (λ notD.
    pick P n 0xE (eqb n 0xE) refl atE (λ notE.
    let none : is_direct_opcode n ≡ false = rw (not8, not9, notA, notB, notD, notE) refl in
    absurd (true≢false (sym e ∙ none))))))))

-- the message of this kind
abbrev pub message_of : DirectKind → DirectMessage → Voice2
message_of kinds.NoteOff m = voice2.NoteOff (m.status % 16) m.index (m.value / 2 ^ 16) m.attribute_type (m.value % 2 ^ 16)
message_of kinds.NoteOn m = voice2.NoteOn (m.status % 16) m.index (m.value / 2 ^ 16) m.attribute_type (m.value % 2 ^ 16)
message_of kinds.PolyPressure m = voice2.PolyPressure (m.status % 16) m.index m.value
message_of kinds.Control m = voice2.Control (m.status % 16) m.index m.value
message_of kinds.Pressure m = voice2.Pressure (m.status % 16) m.value
message_of _ m = voice2.Bend (m.status % 16) m.value

abbrev pub message_by : ℕ → DirectMessage → Voice2
message_by opcode m = message_of (kind_by opcode) m

abbrev pub direct_voice : DirectMessage → Voice2
direct_voice m = message_by (m.status / 16) m

pub record IsDirectMessage (m : DirectMessage) : Type 0 where
  pub opcode : is_direct_opcode (m.status / 16) ≡ true
  pub group : m.group < 16
  pub index : m.index < 128
  pub value : m.value < 2 ^ 32

abbrev pub is_direct_voice : Voice2 → Bool
is_direct_voice (voice2.NoteOff channel note velocity attribute_type attribute) = true
is_direct_voice (voice2.NoteOn channel note velocity attribute_type attribute) = true
is_direct_voice (voice2.PolyPressure channel note value) = true
is_direct_voice (voice2.Control channel index value) = true
is_direct_voice (voice2.Pressure channel value) = true
is_direct_voice (voice2.Bend channel value) = true
is_direct_voice _ = false

abbrev pub has_direct_kind : Packet → Bool
has_direct_kind (packet.Voice2 group message) = is_direct_voice message
has_direct_kind _ = false
