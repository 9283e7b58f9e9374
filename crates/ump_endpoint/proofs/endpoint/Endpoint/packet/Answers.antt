use Rattle.std.proofs.Common.{◌≡◌, ◌∙◌, List, ℕ, ap, subst, sym}
use Rattle.ump_grammar.specs.declared.packet.Packet.{Packet}
use Rattle.ump_grammar.specs.declared.packet.Packet.TheVariants.{Exclusive}
use Rattle.ci_responder.specs.Held.{Held}
use Rattle.ci_responder.specs.Reset.{IsOf}
use Rattle.sysex_groups.specs.Table.{Table}
use Rattle.ump_endpoint.specs.Held.{EndpointState, EndpointValue, taken_in}
use Rattle.ump_endpoint.proofs.StayLaws.{of_its_setup, room_kept}
use Rattle.ump_endpoint.proofs.endpoint.Endpoint.packet.Goals as goal

pub returns-in-Exclusive-clause-taken : goal.returns-in-Exclusive-clause-taken
returns-in-Exclusive-clause-taken c =
    let inside = c.self.inside in
    let held : EndpointState =
    record { setup = inside.setup; protocol = inside.config.protocol; exclusives = inside.groups; responder = inside.responder } in
    let V : EndpointValue → Type 0 = λ value. c.take_part.result ≡ taken_in value.held c.args.offset c.args.packet.now in
    let P : Packet → Type 0 = λ packet. c.take_part.result ≡ taken_in held c.args.offset packet in
    let B : List ℕ → Type 0 = λ bytes. P (Exclusive c.in-Exclusive.group c.in-Exclusive.form bytes) in
    subst V c.self.view_is (subst P (sym c.in-Exclusive.is) (subst B c.as_slice.ensures.value c.take_part.ensures.taken))

pub invariant_of-self : goal.invariant_of-self
invariant_of-self c =
    let stays = c.responders_stay_of_their_setup.ensures in
    let setup = c.self.inside.setup in
    let responder = c.self.inside.responder in (
      subst (λ h. IsOf setup h) (sym c.take_part.ensures.responder) (of_its_setup stays setup responder _ c.self.invariant.0),
      ap (λ (h : Held). h.room) c.take_part.ensures.responder
          ∙ room_kept stays responder _
          ∙ c.self.invariant.1
          ∙ sym (ap (λ (t : Table). t.room) c.take_part.ensures.groups),
    )
