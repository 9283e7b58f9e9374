use Rattle.std.proofs.Common.{ap, sym, subst, ◌∙◌, ◌+◌, ◌%◌, ◌^◌}
use Rattle.std.specs.Prelude.{Ok, Err}
use Rattle.pass_loop.specs.declared.ends.Reason.{Reason}
use Rattle.pass_loop.specs.declared.pass.Next.{Next}
use Rattle.pass_loop.specs.declared.pass.Next.TheVariants.{Refused}
use Rattle.ump_grammar.specs.declared.packet.Packet.{Packet}
use Rattle.ump_words.specs.declared.words.Framed.{Framed}
use Rattle.packet_input.specs.Packets.{GivesNextPacket, framed_behind}
use Rattle.packet_input.proofs.NextLaws.{gives_end, gives_stop, gives_words}
use Rattle.packet_input.proofs.packets.next_packet.Goals as goal

pub returns-in-Ok : goal.returns-in-Ok
returns-in-Ok g c =
    gives_words g.S.Source c.args.before c.requires (c.items_are_read_in_order.ensures (framed_behind c.args.before)) c.args.words.now
    c.next.new.self c.args.input.now c.next.new.src c.next.result
    c.next.ensures.answer c.next.ensures.again c.next.ensures.cause c.in-Ok-Some.framed (c.in-Ok-Some.is ∙ ap Ok c.in-Ok-Some.field-0-is)
    (Ok c.in-Ok.packet) c.in-Ok.ensures.answer c.in-Ok.ensures.fits

pub returns-in-Err-decode : goal.returns-in-Err-decode
returns-in-Err-decode g c =
    let T : Reason → Type 0 =
    λ reason. GivesNextPacket g.S.Source c.args.before c.args.words.now c.next.new.self c.args.input.now c.next.new.src
    (Refused reason ((c.in-Ok-Some.framed.offset + c.args.before) % 2 ^ 64)) in
    subst T (sym c.reason_of.ensures) (gives_words g.S.Source c.args.before c.requires
    (c.items_are_read_in_order.ensures (framed_behind c.args.before)) c.args.words.now c.next.new.self c.args.input.now c.next.new.src
    c.next.result
    c.next.ensures.answer c.next.ensures.again c.next.ensures.cause c.in-Ok-Some.framed (c.in-Ok-Some.is ∙ ap Ok c.in-Ok-Some.field-0-is)
    (Err c.in-Err-decode.bad) c.in-Err-decode.ensures.answer tt)

pub returns-in-Ok-None : goal.returns-in-Ok-None
returns-in-Ok-None g c =
    gives_end g.S.Source c.args.before c.requires (c.items_are_read_in_order.ensures (framed_behind c.args.before)) c.args.words.now
    c.next.new.self c.args.input.now c.next.new.src c.next.result
    c.next.ensures.answer c.next.ensures.again c.next.ensures.cause (c.in-Ok-None.is ∙ ap Ok c.in-Ok-None.field-0-is)

pub returns-in-Err : goal.returns-in-Err
returns-in-Err g c =
    let T : Next Framed Packet → Type 0 =
    GivesNextPacket g.S.Source c.args.before c.args.words.now c.next.new.self c.args.input.now c.next.new.src in
    subst T (sym c.stopped.ensures) (gives_stop g.S.Source c.args.before c.requires
    (c.items_are_read_in_order.ensures (framed_behind c.args.before)) c.args.words.now c.next.new.self c.args.input.now c.next.new.src
    c.next.result
    c.next.ensures.answer c.next.ensures.again c.next.ensures.cause c.in-Err.stop c.in-Err.is)
