-- The words of a direct message encode its packet.
use Rattle.std.proofs.Common.{◌≡◌, ◌≤◌, ◌<◌, ◌+◌, ◌*◌, ◌/◌, ◌%◌, ◌^◌, ◌∙◌, ℕ, Bool, true, ◌&&◌, List, [], ◌∷◌, refl, sym, ap, subst, arith}
use Rattle.std.specs.Prelude.{◌==◌}
use Rattle.packet_words.specs.Words.{IsWhole}
use Rattle.ump_grammar.specs.WordFields.{field, byte, opcode_of, type_of}
use Rattle.ump_grammar.specs.declared.packet.Packet.{Packet}
use Rattle.ump_grammar.specs.declared.packet.Packet.TheVariants as packet
use Rattle.ump_grammar.specs.Reading.{Encodes}
use Rattle.ump_grammar.specs.Zeros.{ZerosInVoice2}
use Rattle.encoded_packets.specs.declared.direct_message.DirectMessage.{DirectMessage}
use Rattle.encoded_packets.specs.DirectMessages.{is_direct_opcode, message_by, direct_voice, one_of_six}
use Rattle.up_translator.proofs.SpellLaws.{fine_value, packet_at, spells_value}
use Rattle.ump_grammar.specs.Spelling.{Spells}
use Rattle.up_translator.specs.DirectWords.{IsRaisedDirect, message_in, packet_of}

and-true : (a b : Bool) → a ≡ true → b ≡ true → (a && b) ≡ true
and-true a b e f = ap (λ t. t && b) e ∙ f

module _ (first value : ℕ) (first_small : first < 2 ^ 32) (type : field first 28 4 ≡ 4)
    (raised_direct : IsRaisedDirect (message_in first value)) where
  abbrev words : List ℕ
  words = first ∷ value ∷ []

  abbrev m : DirectMessage
  m = message_in first value

  opcode : is_direct_opcode (field first 20 4) ≡ true
  opcode =
      let same : field first 20 4 ≡ first / 65536 % 256 / 16 = omega arith in
      ap is_direct_opcode same ∙ raised_direct.is_message.opcode

  begins : (type_of words == 4 && is_direct_opcode (opcode_of words)) ≡ true
  begins = and-true (field first 28 4 == 4) (is_direct_opcode (field first 20 4)) (ap (λ t. t == 4) type) opcode

  whole : IsWhole words
  whole = let type28 : first / 2 ^ 28 ≡ 4 = omega arith in rw type28 refl

  low : byte words 3 < 128
  low = raised_direct.is_message.index

  abbrev HasNone : ℕ → Type 0
  HasNone opcode = (0xD ≤ opcode → byte words 3 ≡ 0) → ZerosInVoice2 (message_by opcode m) words

  zeros : ZerosInVoice2 (direct_voice m) words
  zeros =
      one_of_six HasNone
      (λ none. tt)
      (λ none. tt)
      (λ none. raised_direct.attribute)
      (λ none. raised_direct.attribute)
      (λ none. (none (omega arith), raised_direct.attribute))
      (λ none. (none (omega arith), raised_direct.attribute))
      (m.status / 16) raised_direct.is_message.opcode raised_direct.index

  same : packet_at words ≡ packet_of m
  same =
      let small : value < 2 ^ 32 = raised_direct.is_message.value in
      let whole_value : value / 1 % 2 ^ 32 ≡ value = omega arith in
      λ i. packet.Voice2 m.group (direct_voice (record m { value = whole_value i }))

  pub words_encode : Encodes (packet_of m) words
  words_encode = record {
    spelled = subst (λ (p : Packet). Spells p words) same (spells_value words whole begins low);
    accepted = fine_value words whole begins low;
    zeros = zeros;
  }

-- ---- the words with the fields of a message

opcode_below : (opcode : ℕ) → is_direct_opcode opcode ≡ true → opcode < 16
opcode_below = one_of_six (λ opcode. opcode < 16) (omega arith) (omega arith) (omega arith) (omega arith) (omega arith) (omega arith)

abbrev pub first_of : DirectMessage → ℕ
first_of m = (0x40 + m.group) * 16777216 + m.status * 65536 + m.index * 256

module _ (m : DirectMessage) (raised_direct : IsRaisedDirect m) where
  status_below : m.status < 256
  status_below = let below : m.status / 16 < 16 = opcode_below (m.status / 16) raised_direct.is_message.opcode in omega arith

  pub type_in : field (first_of m) 28 4 ≡ 4
  type_in =
      let group : m.group < 16 = raised_direct.is_message.group in
      let index : m.index < 128 = raised_direct.is_message.index in
      let status : m.status < 256 = status_below in
      omega arith

  pub same_in : message_in (first_of m) m.value ≡ m
  same_in =
      let group : m.group < 16 = raised_direct.is_message.group in
      let index : m.index < 128 = raised_direct.is_message.index in
      let status : m.status < 256 = status_below in
      let group_in : first_of m / 16777216 % 16 ≡ m.group = omega arith in
      let status_in : first_of m / 65536 % 256 ≡ m.status = omega arith in
      let index_in : first_of m / 256 % 256 ≡ m.index = omega arith in
      let attribute : m.attribute_type ≡ 0 = raised_direct.attribute in
      let attribute_in : first_of m / 1 % 256 ≡ m.attribute_type = omega arith in
      λ i. record { group = group_in i; status = status_in i; index = index_in i; attribute_type = attribute_in i; value = m.value }

  pub raised_direct_in : IsRaisedDirect (message_in (first_of m) m.value)
  raised_direct_in = subst IsRaisedDirect (sym same_in) raised_direct
