-- Words with the places of a direct message spell its packet.
use Rattle.std.proofs.Common.{◌≡◌, ◌<◌, ◌/◌, ◌%◌, ◌^◌, ℕ, true, ◌&&◌, leb, List, refl, sym, subst, arith, false, None}
use Rattle.std.specs.Prelude.{◌==◌, slice_index}
use Rattle.std.proofs.lemmas.Bool.{and_parts, eqb-true, lt-leb}
use Rattle.packet_words.specs.Words.{IsWhole}
use Rattle.ump_grammar.specs.declared.packet.Packet.{Packet}
use Rattle.ump_grammar.specs.declared.packet.Packet.TheVariants as packet
use Rattle.ump_grammar.specs.WordFields.{field, word, byte, type_of, group_of, opcode_of, channel_of}
use Rattle.ump_grammar.specs.Reason.{reason}
use Rattle.ump_grammar.specs.Spelling.{Spells, SpellsVoice2}
use Rattle.encoded_packets.specs.declared.direct_message.DirectMessage.{DirectMessage}
use Rattle.encoded_packets.specs.DirectMessages.{is_direct_opcode, message_by, direct_voice, one_of_six}

abbrev message_at : List ℕ → DirectMessage
message_at words =
    record {
      group = group_of words;
      status = byte words 2;
      index = byte words 3;
      attribute_type = byte words 4;
      value = field (word words 2) 0 32;
    }

abbrev pub packet_at : List ℕ → Packet
packet_at words = packet.Voice2 (group_of words) (direct_voice (message_at words))

not-high : (words : List ℕ) → byte words 3 < 128 → leb 128 (byte words 3) ≡ false
not-high words low = lt-leb 128 (byte words 3) low

module _ (words : List ℕ) (type : type_of words ≡ 4) (low : byte words 3 < 128) where
  abbrev m : DirectMessage
  m = message_at words

  channel : m.status % 16 ≡ channel_of words
  channel = let status : m.status ≡ slice_index words 0 / 65536 % 256 = refl in omega arith

  same-opcode : m.status / 16 ≡ opcode_of words
  same-opcode = let status : m.status ≡ slice_index words 0 / 65536 % 256 = refl in omega arith

  upper : m.value / 2 ^ 16 ≡ field (word words 2) 16 16
  upper = let value : m.value ≡ word words 2 / 1 % 2 ^ 32 = refl in omega arith

  lower : m.value % 2 ^ 16 ≡ field (word words 2) 0 16
  lower = let value : m.value ≡ word words 2 / 1 % 2 ^ 32 = refl in omega arith

  abbrev IsSpelled : ℕ → Type 0
  IsSpelled opcode = opcode_of words ≡ opcode → SpellsVoice2 (message_by opcode m) words

  spelled : is_direct_opcode (opcode_of words) ≡ true → SpellsVoice2 (direct_voice m) words
  spelled it =
      subst (λ opcode. SpellsVoice2 (message_by opcode m) words) (sym same-opcode)
      (one_of_six IsSpelled
      (λ e. (e, channel, refl, refl, upper, lower))
      (λ e. (e, channel, refl, refl, upper, lower))
      (λ e. (e, channel, refl, refl))
      (λ e. (e, channel, refl, refl))
      (λ e. (e, channel, refl))
      (λ e. (e, channel, refl))
      (opcode_of words) it refl)

  abbrev IsFine : ℕ → Type 0
  IsFine opcode = opcode_of words ≡ opcode → reason words ≡ None

  fine_at : is_direct_opcode (opcode_of words) ≡ true → reason words ≡ None
  fine_at it =
      one_of_six IsFine
      (λ e. rw (type, e, not-high words low) refl)
      (λ e. rw (type, e, not-high words low) refl)
      (λ e. rw (type, e, not-high words low) refl)
      (λ e. rw (type, e, not-high words low) refl)
      (λ e. rw (type, e) refl)
      (λ e. rw (type, e) refl)
      (opcode_of words) it refl

abbrev BeginsValue : List ℕ → Type 0
BeginsValue words = (type_of words == 4 && is_direct_opcode (opcode_of words)) ≡ true

module _ (words : List ℕ) (whole : IsWhole words) (begins : BeginsValue words) (low : byte words 3 < 128) where
  abbrev both : (type_of words == 4 ≡ true) × (is_direct_opcode (opcode_of words) ≡ true)
  both = and_parts (type_of words == 4) (is_direct_opcode (opcode_of words)) begins

  type : type_of words ≡ 4
  type = eqb-true (type_of words) 4 both.0

  pub fine_value : reason words ≡ None
  fine_value = fine_at words type low both.1

  pub spells_value : Spells (packet_at words) words
  spells_value = record { whole = whole; row = (type, refl, spelled words type low both.1) }
