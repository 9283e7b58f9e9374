use Rattle.std.proofs.Common.{◌≡◌, ◌≤◌, ◌∷◌, [], List, ℕ, arith, refl, sym, subst, length, length-append, Option, Some, None}
use Rattle.std.specs.Prelude.{Err}
use Rattle.ci_messages.specs.declared.view.CiFault.{CiFault}
use Rattle.ci_messages.specs.Reading.{IsExclusive, ci_fault}
use Rattle.ci_messages.specs.Writing.{message_bytes}
use Rattle.ci_responder.specs.Replies.{IsMessage, payload_of}
use Rattle.ci_responder.proofs.message.CiMessage.new.Goals as goal

-- what is only read without a fault has none
no_fault : (found : Option CiFault) → ((fault : CiFault) → found ≡ Some fault → ⊥) → found ≡ None
no_fault None never = refl
no_fault (Some fault) never = absurd (never fault refl)

pub invariant_of-result : goal.invariant_of-result
invariant_of-result c =
    let view = c.args.view.now in
    let few : length (message_bytes view) ≤ 344 = omega (arith, c.requires.fits, length-append (payload_of view) (0xF7 ∷ [])) in
    let fits : length (message_bytes view) ≤ 512 = omega (arith, few) in
    let exclusive : IsExclusive (message_bytes view) = c.written_messages_are_read_again.ensures.exclusive view c.requires.view fits in
    let none : ci_fault (message_bytes view) ≡ None = no_fault (ci_fault (message_bytes view))
    (λ fault is. c.written_messages_are_read_again.ensures.again view c.requires.view fits c.requires.source (Err fault) is) in
    let P : List ℕ → Type 0 = IsMessage in
    subst P (sym c.write.ensures.bytes) ((exclusive, none, few))
