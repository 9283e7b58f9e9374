use Rattle.std.proofs.Common.{◌+◌, ◌-◌, ℕ, List, length, subst, sym}
use Rattle.pass_loop.specs.Next.{IsFurther}
use Rattle.packet_input.specs.Packets.{framed_behind}
use Rattle.packet_input.proofs.FoundLaws.{finds, is_further}
use Rattle.packet_input.proofs.packets.PacketReaderItemsFramedPacket.item_in.Goals as goal

pub returns-in-Some-clause-answer : goal.returns-in-Some-clause-answer
returns-in-Some-clause-answer c = λ first all left items so_far.
    finds (c.items_are_read_in_order.ensures (framed_behind 0)) c.args.self.now.words c.args.place first.words.how all left items so_far
    c.read_words.result (c.in-Some.given.0, c.in-Some.given.1, c.in-Some.ensures.item, c.read_words.ensures)

pub returns-in-Some-clause-further : goal.returns-in-Some-clause-further
returns-in-Some-clause-further c =
    let words = c.args.self.now.words in
    let F : List ℕ → Type 0 =
    λ bytes. IsFurther (λ at. words.limit - (words.offset + at)) (length bytes) c.args.place c.read_words.result in
    subst F (sym c.requires.held) (is_further words c.args.place c.read_words.result (c.in-Some.given.0, c.in-Some.given.1, c.in-Some.ensures.item, c.read_words.ensures))
