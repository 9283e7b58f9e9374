use Rattle.std.proofs.Common.{Bool, [], None, refl, sym, subst}
use Rattle.c_streams.specs.Sysex8.{Reply, no_part, replies}
use Rattle.c_streams.proofs.sysex8.take.Goals as goal

pub returns-in-None-clause-reply : goal.returns-in-None-clause-reply
returns-in-None-clause-reply c =
    let reply : Reply = record { joined = no_part; ended = []; refusal = None; after = c.args.streams.now } in
    let F : Bool → Type 0 = λ there. replies there c.args.streams.now c.args.words.now c.args.offset reply in (
      reply,
      subst F (sym c.in-None.ensures) refl,
      record { shown = (refl, c.none.ensures); front = refl; after_is = refl },
    )
