use Rattle.std.proofs.Common.{arith, ◌≡◌, ◌&&◌, ◌<◌, ◌%◌, ◌^◌, true, false, sym, subst, ap, ◌∙◌, ℕ, List}
use Rattle.std.specs.Prelude.{◌==◌}
use Rattle.std.proofs.lemmas.Bool.{and_parts, eqb-true}
use Rattle.packet_words.specs.Words.{IsWhole}
use Rattle.ump_grammar.specs.WordFields.{byte, group_of, opcode_of, type_of, word}
use Rattle.encoded_packets.specs.declared.direct_message.DirectMessage.{DirectMessage}
use Rattle.encoded_packets.specs.DirectMessages.{has_direct_kind, is_direct_opcode}
use Rattle.encoded_packets.proofs.EncodedLaws.{is_whole}
use Rattle.encoded_packets.proofs.DirectLaws.{HasPlaces, is_message, no_value_in, two_words}
use Rattle.encoded_packets.proofs.encoded.EncodedPacket.direct_message.Goals as goal

pub message_in-requires : goal.message_in-requires
message_in-requires c =
    let words : List ℕ = c.as_slice-words.result.now in
    let whole : IsWhole words = subst IsWhole (sym c.as_slice-words.ensures.words) (is_whole c.self.inside.words c.self.inside.packet) in
    let begins : (type_of words == 4 && is_direct_opcode (opcode_of words)) ≡ true =
    ap (λ w. type_of w == 4 && is_direct_opcode (opcode_of w)) c.as_slice-words.ensures.words ∙ sym c.self.inside.asked ∙ c.if-self.true in
    two_words words whole (omega (arith, c.type_inv.words 0))
    (eqb-true (type_of words) 4 (and_parts (type_of words == 4) (is_direct_opcode (opcode_of words)) begins).0)

pub returns-then-self : goal.returns-then-self
returns-then-self c =
    let words : List ℕ = c.self.inside.words in
    let same : c.as_slice-words.result.now ≡ words = c.as_slice-words.ensures.words in
    let begins : (type_of words == 4 && is_direct_opcode (opcode_of words)) ≡ true = sym c.self.inside.asked ∙ c.if-self.true in
    let both = and_parts (type_of words == 4) (is_direct_opcode (opcode_of words)) begins in
    let message : DirectMessage = c.message_in.result in
    let places : HasPlaces message words =
    record {
      group = c.message_in.ensures.group ∙ ap group_of same;
      status = c.message_in.ensures.status ∙ ap (λ w. byte w 2) same;
      index = c.message_in.ensures.index ∙ ap (λ w. byte w 3 % 128) same;
      attribute_type = c.message_in.ensures.attribute_type ∙ ap (λ w. byte w 4) same;
      value =
          let same_word : message.value ≡ word words 2 = c.message_in.ensures.value ∙ ap (λ w. word w 2) same in
          let small : message.value < 2 ^ 32 = omega (arith, c.message_in.type_inv) in
          omega arith;
    } in
    let told = is_message message words c.self.inside.packet places (eqb-true (type_of words) 4 both.0) both.1 in
    (told.0, sym c.self.view_is ∙ told.1)

pub returns-else-self : goal.returns-else-self
returns-else-self c =
    let begins : (type_of c.self.inside.words == 4 && is_direct_opcode (opcode_of c.self.inside.words)) ≡ false =
    sym c.self.inside.asked ∙ c.if-self.false in
    ap has_direct_kind (sym c.self.view_is) ∙ no_value_in c.self.inside.words c.self.inside.packet begins
