use Rattle.std.proofs.Common.{arith, ◌≡◌, ◌≤◌, ◌<◌, ℕ, List, Option, None, Some, false, All, take, sym, subst, ap, ◌∙◌}
use Rattle.std.specs.Prelude.{MatchOption}
use Rattle.packet_words.specs.Words.{IsWhole}
use Rattle.ump_grammar.specs.declared.packet.Packet.{Packet}
use Rattle.ump_grammar.specs.declared.packet.Packet.TheVariants as packet
use Rattle.ump_grammar.specs.WordFields.{count_of, group_of, opcode_of}
use Rattle.ump_grammar.specs.Spelling.{exclusive_places, form_number}
use Rattle.encoded_packets.specs.declared.exclusive_part.ExclusivePart.{ExclusivePart}
use Rattle.encoded_packets.specs.Parts.{is_full_part, is_low_part}
use Rattle.encoded_packets.proofs.EncodedLaws.{is_whole}
use Rattle.encoded_packets.proofs.PartLaws.{IsLow, data_in, is_part, low_of, not_full, two_words}
use Rattle.encoded_packets.proofs.encoded.EncodedPacket.exclusive.Goals as goal

pub part_in-requires : goal.part_in-requires
part_in-requires c =
    let words : List ℕ = c.as_slice-words.result.now in
    let whole : IsWhole words = subst IsWhole (sym c.as_slice-words.ensures.words) (is_whole c.self.inside.words c.self.inside.packet) in
    let low : IsLow words = low_of words (ap is_low_part c.as_slice-words.ensures.words ∙ sym c.self.inside.part_asked ∙ c.if-self.true) in
    two_words words whole (omega (arith, c.type_inv.words 0)) low.type

abbrev IsPart : List ℕ → ExclusivePart → Type 0
IsPart words part =
    (part.group ≡ group_of words) × (opcode_of words ≡ form_number part.form) × (part.count ≡ count_of words)
    × (part.bytes ≡ exclusive_places words)

abbrev IsTold : Packet → ExclusivePart → Type 0
IsTold told part =
    (part.count ≤ 6) × All (λ byte. byte < 128) part.bytes × (told ≡ packet.Exclusive part.group part.form (take part.count part.bytes))

pub returns-then-self : goal.returns-then-self
returns-then-self c = go c.part_in.result c.part_in.ensures
  where
    words : List ℕ
    words = c.self.inside.words

    low : IsLow words
    low = low_of words (sym c.self.inside.part_asked ∙ c.if-self.true)

    go : (found : Option ExclusivePart) → MatchOption found (3 < opcode_of c.as_slice-words.result.now) (IsPart c.as_slice-words.result.now)
        → MatchOption found (is_full_part c.args.self.now ≡ false) (IsTold c.args.self.now)
    go None is =
        let same : opcode_of c.as_slice-words.result.now ≡ opcode_of words = ap opcode_of c.as_slice-words.ensures.words in
        absurd (omega (arith, is, same, low.opcode))
    go (Some part) is =
        let same : c.as_slice-words.result.now ≡ words = c.as_slice-words.ensures.words in
        let count : part.count ≡ count_of words = is.2 ∙ ap count_of same in
        let bytes : part.bytes ≡ exclusive_places words = is.3 ∙ ap exclusive_places same in
        let Few : ℕ → Type 0 = λ n. n ≤ 6 in
        let Data : List ℕ → Type 0 = λ places. All (λ byte. byte < 128) places in (
          subst Few (sym count) low.count,
          subst Data (sym bytes) (data_in words low),
          sym c.self.view_is
              ∙ is_part words c.self.inside.packet part.group part.count part.form part.bytes low (is.0 ∙ ap group_of same)
              (ap opcode_of (sym same) ∙ is.1) count bytes,
        )

pub returns-else-self : goal.returns-else-self
returns-else-self c =
    ap is_full_part (sym c.self.view_is)
    ∙ not_full c.self.inside.words c.self.inside.packet (sym c.self.inside.part_asked ∙ c.if-self.false)
