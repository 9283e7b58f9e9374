use Rattle.std.proofs.Common.{[], ap, subst, sym, ◌∙◌}
use Rattle.ci_responder.specs.Held.{Held}
use Rattle.ci_responder.specs.Reset.{IsOf}
use Rattle.sysex_groups.specs.Table.{Table}
use Rattle.ump_endpoint.proofs.endpoint.Endpoint.new.Goals as goal

pub invariant_of-result : goal.invariant_of-result
invariant_of-result c =
    let stays = c.responders_stay_of_their_setup.ensures in
    let setup = c.args.setup in (
      subst (λ h. IsOf setup h) (sym c.in_ok-responder.ensures) (stays.at setup c.args.room []),
      ap (λ (h : Held). h.room) c.in_ok-responder.ensures ∙ sym (ap (λ (t : Table). t.room) c.in_ok-groups.ensures),
    )
