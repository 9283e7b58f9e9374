use Rattle.std.proofs.Common.{ℕ, Bool, List, ◌∷◌, ◌++◌, ap, sym, ◌∙◌, subst}
use Rattle.std.specs.Prelude.{Some}
use Rattle.ump_grammar.specs.declared.packet.Packet.{Packet}
use Rattle.midi_meaning.specs.UpRefusal.{AreAcceptedUp}
use Rattle.up_translator.specs.Held.{UpState}
use Rattle.down_translator.specs.Held.{DownState}
use Rattle.pass_loop.specs.Bytes.{bytes_read}
use Rattle.pass_loop.specs.Pass.{Tail}
use Rattle.pass_loop.specs.Put.{Put}
use Rattle.translation_passes.specs.Back.{ComesDown, back_options, PutsDown, returning}
use Rattle.listing_lines.specs.Lines.{line_puts}
use Rattle.translation_passes.specs.Raised.{Answers, AreDone, AreTaken, byte_lines, byte_task}
use Rattle.translation_passes.proofs.BackLaws.{byte_comes_down, piece_is_put}
use Rattle.translation_passes.proofs.RaisedLaws.{answered_steps, task}
use Rattle.translation_passes.proofs.StreamLaws.{answered, holds_more, refused_as}
use Rattle.translation_passes.proofs.back.BackEngineEngineU64U8.step.Goals as goal

pub put_byte-requires-clause-taken : goal.put_byte-requires-clause-taken
put_byte-requires-clause-taken g c = λ raised raises.
    let first = c.requires.holds.0 in
    let paired : Bool = first.up.holding.paired in
    let past : List (ℕ × ℕ) = c.requires.holds.1 in
    let held = c.requires.holds.2 in
    let item : ℕ × ℕ = (c.args.at.now, c.args.item.now) in
    let down : DownState = c.args.self.now.down in
    let T : List Packet → Type 0 = λ ps. AreTaken ComesDown (PutsDown item.0) down ps in
    let answer =
    answered paired (c.raised_bytes_are_the_definition.ensures paired) first.up.parsing.room first.up.group past c.args.self.now.up
    held.holds_up item.0 item.1 c.requires.holds.3 raised raises in
    let comes =
    byte_comes_down paired (c.raised_packets_come_back_in_silence.ensures paired) (c.what_is_held_is_the_definition.ensures paired)
    (c.raised_packets_are_in_range.ensures paired) first.up.parsing.room first.up.group held.least held.few past item down
    held.holds_down in
    subst T (sym answer.packets) comes.taken

pub put_byte-requires-clause-done : goal.put_byte-requires-clause-done
put_byte-requires-clause-done g c = piece_is_put c.args.at.now

pub returns : goal.returns
returns g c = λ first past held place.
    let old = g.O.Outputs.places c.args.outputs.now in
    let new = g.O.Outputs.places c.put_byte.new.outputs in
    let paired : Bool = first.up.holding.paired in
    let room : ℕ = first.up.parsing.room in
    let group : ℕ = first.up.group in
    let byte : ℕ = c.args.item.now in
    let offset : ℕ = c.args.at.now in
    let item : ℕ × ℕ = (offset, byte) in
    let up : UpState = c.args.self.now.up in
    let down : DownState = c.args.self.now.down in
    let law = c.raised_bytes_are_the_definition.ensures paired in
    let comes =
    byte_comes_down paired (c.raised_packets_come_back_in_silence.ensures paired) (c.what_is_held_is_the_definition.ensures paired)
    (c.raised_packets_are_in_range.ensures paired) room group held.least held.few past item down held.holds_down in
    let does = (byte_task (PutsDown offset) up (offset, byte) down).Does in
    let A : Tail → Type 0 = λ tail. Answers (task tail does) c.put_byte.new.work old new c.put_byte.result in
    let D : DownState → List Put → List Packet → Type 0 = λ to puts ps. AreDone (PutsDown offset) down ps to puts in
    answered_steps (returning (back_options first.up)) past item does c.put_byte.new.work old new _ c.put_byte.result
    (subst A (refused_as paired law room group past up held.holds_up offset byte place c.parsed_bytes_are_the_definition.ensures)
    c.put_byte.ensures.answer)
    (λ to puts done.
    let raised = answered paired law room group past up held.holds_up offset byte place done.0 done.1 in
    let written = done.2 in
    written.2
    ∙ ap (λ ls. written.0 ++ line_puts ls) raised.lines
    ∙ ap (λ ps. ps ++ byte_lines paired room group past item) (comes.done to written.0 (subst (D to written.0) raised.packets written.1)).0
    )
    (λ puts done.
    let raised = answered paired law room group past up held.holds_up offset byte place done.0 done.1 in
    let accepted : AreAcceptedUp (Some room) (byte ∷ bytes_read past) = (raised.accepted, held.accepted) in
    let written = done.2 in
    record {
      few = held.few;
      least = held.least;
      law = held.law;
      accepted = accepted;
      holds_up =
          holds_more paired law room group past up held.holds_up offset byte place
          (c.rooms_that_are_not_reached_do_not_matter_in_bytes.ensures paired) c.put_byte.new.up accepted
          c.put_byte.ensures.after;
      holds_down = (comes.done c.put_byte.new.work written.0 (subst (D c.put_byte.new.work written.0) raised.packets written.1)).1;
    }
    )
