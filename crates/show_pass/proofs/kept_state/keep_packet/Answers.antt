use Rattle.std.proofs.Common.{Some, refl, sym, subst}
use Rattle.std.proofs.lemmas.Result.{on_ok_weaker}
use Rattle.show_pass.specs.KeptState.{Kept, KeepsPacket}
use Rattle.show_pass.proofs.kept_state.keep_packet.Goals as goal

pub returns-in-Some-clause-keeps : goal.returns-in-Some-clause-keeps
returns-in-Some-clause-keeps c =
    let K : Kept → Type 0 = λ kept. KeepsPacket c.args.ended c.args.packet.now kept (Some c.take_packet.new.state) in
    on_ok_weaker c.take_packet.result (λ step. subst K (sym c.in-Some.is) (λ message. (refl, step message))) c.take_packet.ensures
