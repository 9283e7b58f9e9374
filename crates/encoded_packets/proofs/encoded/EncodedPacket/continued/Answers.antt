use Rattle.std.proofs.Common.{arith, ◌≡◌, ◌<◌, ◌∙◌, ℕ, List, Option, None, Some, false, All, sym, subst, ap}
use Rattle.std.specs.Prelude.{◌≢◌, MatchOption, slice_index}
use Rattle.packet_words.specs.Words.{IsWhole}
use Rattle.voice_messages.specs.declared.voice2.Form.TheVariants as form
use Rattle.ump_grammar.specs.declared.packet.Packet.{Packet}
use Rattle.ump_grammar.specs.declared.packet.Packet.TheVariants as packet
use Rattle.ump_grammar.specs.WordFields.{field, group_of}
use Rattle.ump_grammar.specs.Spelling.{exclusive_places}
use Rattle.encoded_packets.specs.Parts.{continues_by_six, is_low_part}
use Rattle.encoded_packets.proofs.EncodedLaws.{is_whole}
use Rattle.encoded_packets.proofs.PartLaws.{IsLow, data_in, is_six, low_of, not_continued, not_full, not_six, two_words}
use Rattle.encoded_packets.proofs.encoded.EncodedPacket.continued.Goals as goal

pub six_in-requires : goal.six_in-requires
six_in-requires c =
    let words : List ℕ = c.as_slice-words.result.now in
    let whole : IsWhole words = subst IsWhole (sym c.as_slice-words.ensures.words) (is_whole c.self.inside.words c.self.inside.packet) in
    let low : IsLow words = low_of words (ap is_low_part c.as_slice-words.ensures.words ∙ sym c.self.inside.part_asked ∙ c.if-self.true) in
    two_words words whole (omega (arith, c.type_inv.words 0)) low.type

abbrev IsPart : List ℕ → ℕ × List ℕ → Type 0
IsPart words part =
    (field (slice_index words 0) 16 8 ≡ 0x26) × (part.0 ≡ group_of words) × (part.1 ≡ exclusive_places words)

abbrev IsTold : Packet → ℕ × List ℕ → Type 0
IsTold told part = All (λ byte. byte < 128) part.1 × (told ≡ packet.Exclusive part.0 form.Continue part.1)

pub returns-then-self : goal.returns-then-self
returns-then-self c = go c.six_in.result c.six_in.ensures
  where
    words : List ℕ
    words = c.self.inside.words

    same : c.as_slice-words.result.now ≡ words
    same = c.as_slice-words.ensures.words

    low : IsLow words
    low = low_of words (sym c.self.inside.part_asked ∙ c.if-self.true)

    go : (found : Option (ℕ × List ℕ))
        → MatchOption found (field (slice_index c.as_slice-words.result.now 0) 16 8 ≢ 0x26) (IsPart c.as_slice-words.result.now)
        → MatchOption found (continues_by_six c.args.self.now ≡ false) (IsTold c.args.self.now)
    go None is =
        let Other : List ℕ → Type 0 = λ w. field (slice_index w 0) 16 8 ≢ 0x26 in
        ap continues_by_six (sym c.self.view_is) ∙ not_six words c.self.inside.packet low (subst Other same is)
    go (Some part) is =
        let here : IsPart words part = subst (λ w. IsPart w part) same is in
        let Data : List ℕ → Type 0 = λ places. All (λ byte. byte < 128) places in (
          subst Data (sym here.2) (data_in words low),
          sym c.self.view_is ∙ is_six words c.self.inside.packet part.0 part.1 low here.0 here.1 here.2,
        )

pub returns-else-self : goal.returns-else-self
returns-else-self c =
    ap continues_by_six (sym c.self.view_is)
    ∙ not_continued c.self.inside.packet.0
    (not_full c.self.inside.words c.self.inside.packet (sym c.self.inside.part_asked ∙ c.if-self.false))
