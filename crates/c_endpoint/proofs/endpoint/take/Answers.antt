use Rattle.std.proofs.Common.{refl, ap, sym, ◌∙◌, length}
use Rattle.ump_grammar.specs.Reason.{reason}
use Rattle.c_answers.specs.Fronts.{with_front}
use Rattle.c_answers.specs.Whole.{is_whole}
use Rattle.c_endpoint.specs.Packets.{replies_of}
use Rattle.c_endpoint.proofs.TakenLaws.{takes, unread, untaken}
use Rattle.c_endpoint.proofs.endpoint.take.Goals as goal

pub returns-in-Ok-packet : goal.returns-in-Ok-packet
returns-in-Ok-packet c =
    let written = c.packet.new.self.replies in
    let words_are = c.words.ensures ∙ c.replies.ensures.packets in (
      written,
      takes c.args.endpoint.now.held c.args.endpoint.now.held c.args.offset c.args.words.now c.in-Ok.packet c.in-Ok-packet.taken written c.of.result
          c.packet.new.self.held refl c.in-Ok.ensures (sym c.in-Ok-packet.is ∙ c.packet.ensures.taken) c.packet.ensures.replies
          (c.of.ensures ∙ ap (replies_of c.in-Ok.packet c.in-Ok-packet.taken) (c.put_words-written.ensures.count ∙ ap length words_are)) c.packet.ensures.held,
      c.put_words-written.ensures.written ∙ ap (λ words. with_front words c.args.buffer.now) words_are,
    )

pub returns-in-Err-packet : goal.returns-in-Err-packet
returns-in-Err-packet c = (
  untaken c.args.endpoint.now.held c.args.endpoint.now.held c.args.offset c.args.words.now c.in-Ok.packet c.in-Err-packet.bad c.of_step.result
      c.packet.new.self.held refl c.in-Ok.ensures (sym c.in-Err-packet.is ∙ c.packet.ensures.taken) c.of_step.ensures
      c.packet.ensures.held,
  refl,
)

pub returns-in-Err : goal.returns-in-Err
returns-in-Err c =
    (unread (is_whole c.args.words.now) (reason c.args.words.now) c.args.endpoint.now.held c.args.offset c.args.words.now c.in-Err.why c.in-Err.ensures, refl)
