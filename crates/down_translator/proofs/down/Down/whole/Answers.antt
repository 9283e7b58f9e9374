use Rattle.std.proofs.Common.{refl, sym}
use Rattle.down_translator.proofs.UncarriedLaws.{uncarried_after, uncarried_step}
use Rattle.down_translator.proofs.down.Down.whole.Goals as goal

pub returns-in-Some : goal.returns-in-Some
returns-in-Some c =
    let state = c.args.self.now in
    let told = c.in-Some.told in
    let listed = c.only_listed.ensures in (
      (refl, (λ d. tt), sym (uncarried_after state c.args.offset c.args.packet.now told.kind c.in-Some.ensures.kind)),
      record {
        answer = uncarried_step state c.args.offset told c.only_listed.result listed.piece listed.lane listed.line c.args.packet.now
            c.in-Some.ensures;
        after = tt;
      },
    )
