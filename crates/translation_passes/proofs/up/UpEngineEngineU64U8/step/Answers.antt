use Rattle.std.proofs.Common.{ℕ, Bool, List, ◌∷◌, ◌++◌, ap, sym, ◌∙◌, subst}
use Rattle.std.specs.Prelude.{Some}
use Rattle.packet_words.specs.declared.words.Order.{Order}
use Rattle.ump_grammar.specs.declared.packet.Packet.{Packet}
use Rattle.midi_meaning.specs.UpRefusal.{AreAcceptedUp}
use Rattle.up_translator.specs.Held.{UpState}
use Rattle.up_translator.specs.Raised.{packets_in}
use Rattle.pass_loop.specs.Bytes.{bytes_read}
use Rattle.pass_loop.specs.Pass.{Tail}
use Rattle.listing_lines.specs.Lines.{line_puts}
use Rattle.translation_passes.specs.Raised.{Answers, AreTaken, byte_task}
use Rattle.translation_passes.specs.Up.{up_options, raising}
use Rattle.packet_input.specs.Written.{AreWritten}
use Rattle.translation_passes.proofs.RaisedLaws.{answered_steps, task}
use Rattle.translation_passes.proofs.StreamLaws.{answered, holds_more, refused_as}
use Rattle.translation_passes.proofs.UpLaws.{AcceptsWords, all_taken, are_written, exclusive_is_written, same_words, WritesWords}
use Rattle.translation_passes.proofs.up.UpEngineEngineU64U8.step.Goals as goal

pub put_byte-requires-clause-taken : goal.put_byte-requires-clause-taken
put_byte-requires-clause-taken g c = λ raised raises.
    let first = c.requires.holds.0 in
    let paired : Bool = first.up.holding.paired in
    let past : List (ℕ × ℕ) = c.requires.holds.1 in
    let held = c.requires.holds.2.1 in
    let T : List Packet → Type 0 = λ ps. AreTaken AcceptsWords WritesWords c.args.self.now.words ps in
    let answer =
    answered paired (c.raised_bytes_are_the_definition.ensures paired) first.up.parsing.room first.up.group past c.args.self.now.up
    held.holds c.args.at.now c.args.item.now c.requires.holds.3 raised raises in
    subst T (sym answer.packets) (all_taken _
    ((c.raised_packets_are_in_range.ensures paired).packets (Some first.up.parsing.room) first.up.group (bytes_read past) c.args.item.now
    held.few)
    c.args.self.now.words)

pub put_byte-requires-clause-done : goal.put_byte-requires-clause-done
put_byte-requires-clause-done g c = exclusive_is_written c.exclusives_have_words.ensures

pub returns : goal.returns
returns g c = λ first past holds place.
    let old = g.O.Outputs.places c.args.outputs.now in
    let new = g.O.Outputs.places c.put_byte.new.outputs in
    let paired : Bool = first.up.holding.paired in
    let room : ℕ = first.up.parsing.room in
    let group : ℕ = first.up.group in
    let order : Order = first.words.order in
    let held = holds.1 in
    let byte : ℕ = c.args.item.now in
    let offset : ℕ = c.args.at.now in
    let up : UpState = c.args.self.now.up in
    let law = c.raised_bytes_are_the_definition.ensures paired in
    let does = (byte_task WritesWords up (offset, byte) c.args.self.now.words).Does in
    let A : Tail → Type 0 = λ tail. Answers (task tail does) c.put_byte.new.work old new c.put_byte.result in
    answered_steps (raising (up_options first.up order)) past (offset, byte) does c.put_byte.new.work old new _ c.put_byte.result
    (subst A (refused_as paired law room group past up held.holds offset byte place c.parsed_bytes_are_the_definition.ensures)
    c.put_byte.ensures.answer)
    (λ to puts done.
    let raised = answered paired law room group past up held.holds offset byte place done.0 done.1 in
    let written = done.2 in
    let O : Order → Type 0 = λ o. AreWritten o (packets_in done.0) written.0 in
    let P : List Packet → Type 0 = λ ps. AreWritten order ps written.0 in (
      written.0,
      subst P raised.packets
          (subst O (ap (λ w. w.order) holds.0) (are_written (packets_in done.0) c.args.self.now.words to written.0 written.1)),
      written.2 ∙ ap (λ ls. written.0 ++ line_puts ls) raised.lines,
    )
    )
    (λ puts done.
    let raised = answered paired law room group past up held.holds offset byte place done.0 done.1 in
    let accepted : AreAcceptedUp (Some room) (byte ∷ bytes_read past) = (raised.accepted, held.accepted) in (
      same_words (packets_in done.0) c.args.self.now.words c.put_byte.new.work done.2.0 done.2.1 ∙ holds.0,
      record {
        few = held.few;
        law = held.law;
        accepted = accepted;
        holds =
            holds_more paired law room group past up held.holds offset byte place
            (c.rooms_that_are_not_reached_do_not_matter_in_bytes.ensures paired) c.put_byte.new.up accepted
            c.put_byte.ensures.after;
      },
    )
    )
