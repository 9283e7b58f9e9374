use Rattle.std.proofs.Common.{◌≤◌, length, subst}
use Rattle.down_translator.specs.Held.{DownState}
use Rattle.c_answers.specs.Numbers.{number_of}
use Rattle.c_answers.specs.declared.status.Status.TheVariants as statuses
use Rattle.c_translators.specs.Down.{IsAnswered, most_bytes}
use Rattle.c_translators.proofs.DownLaws.{answered}
use Rattle.c_translators.proofs.down.CDown.packet.Goals as goal

pub returns-in-Ok : goal.returns-in-Ok
returns-in-Ok c =
    let down = c.self.inside.down in
    let fits : most_bytes down ≤ length c.args.buffer.now =
    subst (λ n. n ≤ length c.args.buffer.now) c.self.invariant c.if-buffer-self.false in
    let A : DownState → Type 0 =
    λ state. IsAnswered state c.args.offset c.args.words.now c.args.buffer.now (number_of statuses.Done) c.take_one.new.piece c.take_one.new.buffer
    c.take_one.new.down in
    subst A c.self.view_is (answered down c.args.offset c.args.words.now c.args.buffer.now c.take_one.new.piece c.take_one.new.buffer
    c.take_one.new.down fits c.in-Ok.ensures.answer)
