use Rattle.std.proofs.Common.{[], ap, subst, sym, ◌∙◌}
use Rattle.ci_responder.specs.Held.{Held}
use Rattle.ci_responder.specs.Reset.{IsOf}
use Rattle.sysex_groups.specs.Table.{Table}
use Rattle.ump_endpoint.proofs.endpoint.Endpoint.reset.Goals as goal

pub invariant_of-self : goal.invariant_of-self
invariant_of-self c =
    let stays = c.responders_stay_of_their_setup.ensures in
    let setup = c.self.inside.setup in (
      subst (λ h. IsOf setup h) (sym c.reset-2.ensures) (stays.at setup c.self.inside.responder.room []),
      ap (λ (h : Held). h.room) c.reset-2.ensures
          ∙ c.self.invariant.1
          ∙ sym (ap (λ (t : Table). t.room) c.reset.ensures),
    )
