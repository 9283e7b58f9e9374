use Rattle.std.proofs.Common.{ℕ, List, ◌≡◌, ◌+◌, [], ◌∷◌, arith, ap, drop, length, ◌∙◌}
use Rattle.std.specs.Prelude.{Ok}
use Rattle.item_reader.specs.Reading.{held_bytes}
use Rattle.pass_loop.specs.declared.pass.Found.{Found}
use Rattle.pass_loop.specs.declared.pass.Found.TheVariants.{Item}
use Rattle.ump_grammar.specs.declared.packet.Packet.{Packet}
use Rattle.ump_words.specs.Cut.{word_at}
use Rattle.ump_words.specs.Reader.{framed_pair}
use Rattle.ump_words.specs.declared.words.Framed.{Framed}
use Rattle.packet_input.proofs.OneWord.{framed_one, one_held}
use Rattle.packet_input.proofs.encoded.known_in.Goals as goal

pub returns-in-Some : goal.returns-in-Some
returns-in-Some c =
    let first = c.in_ok-pair.pair.0 in
    let second = c.in_ok-pair.pair.1 in
    let packet : Packet = c.in-Some.packet in
    let next = c.args.place + 8 in
    let W : List ℕ → Found Framed Packet = λ words. Item (record { offset = c.args.offset + c.args.place; words = words }) packet next in
    let O : ℕ → Found Framed Packet = λ offset. Item (framed_pair (offset + c.args.place) first second) packet next in (
      framed_pair (c.args.words.now.offset + c.args.place) first second,
      next,
      c.in_ok-pair.ensures.packet c.in-Some.ensures.whole,
      (Ok packet, c.in-Some.ensures.answer, c.in-Some.ensures.fits, ap W c.of_two-in-Some.ensures ∙ ap O c.requires.offset),
    )

pub returns-in_ok-packet-in-None : goal.returns-in_ok-packet-in-None
returns-in_ok-packet-in-None c =
    let words = c.args.words.now in
    let place = c.args.place in
    let told = c.in_ok-pair.ensures.words in
    let first = c.in_ok-pair.pair.0 in
    let packet : Packet = c.in_ok-packet-in-None.packet in
    let next = place + 4 in
    let W : List ℕ → Found Framed Packet = λ list. Item (record { offset = c.args.offset + place; words = list }) packet next in
    let O : ℕ → Found Framed Packet = λ offset. Item (framed_one (offset + place) first) packet next in
    let whole = c.in_ok-packet-in-None.ensures.whole in
    let is_first : first ≡ word_at words.how (drop place (held_bytes words)) 0 =
    told.1 ∙ ap (λ held. word_at words.how (drop place held) 0) c.requires.held in (
      framed_one (words.offset + place) first,
      next,
      one_held place words first (omega (arith, told.0, ap length c.requires.held)) is_first whole,
      (Ok packet, c.in_ok-packet-in-None.ensures.answer, c.in_ok-packet-in-None.ensures.fits, ap W c.from_slice.ensures ∙ ap O c.requires.offset),
    )
