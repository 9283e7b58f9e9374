-- One event of a rehearsal.
use Rattle.std.proofs.Common.{◌≡◌, ◌∙◌, ap, sym, refl, ℕ, Bool, true, false, not, if◌then◌else◌}
use Rattle.std.proofs.Common.{nat_lt, List, ◌++◌, length, slice_get, Some, true≢false}
use Rattle.std.specs.Prelude.{Ok, Err}
use Rattle.ci_responder.specs.declared.heard.Heard.{Heard}
use Rattle.ci_responder.specs.Held.{Held, after as responder_after, heard_in, reply_in}
use Rattle.ci_responder.specs.Read.{received_in}
use Rattle.ci_initiator.specs.declared.event.EventFault.TheVariants as fault
use Rattle.ci_initiator.specs.declared.event.Told.TheVariants as told
use Rattle.ci_initiator.specs.declared.message.Sent.{Sent}
use Rattle.ci_initiator.specs.Stage.{Stage, reply_sent, reply_with, with_reply}

not-full : (b full : Bool) → full ≡ not b → full ≡ false → b ≡ true
not-full true full is none = refl
not-full false full is none = absurd (true≢false (sym is ∙ none))

-- a reply is kept
pub replied : (stage : Stage) (n : ℕ) (sent : Sent) (full : Bool) (heard : Heard) (responder : Held) (replies : List Sent)
    → Some sent ≡ slice_get stage.asks n →
    full ≡ not (nat_lt (length stage.replies) 1024) → full ≡ false → heard ≡ heard_in stage.responder (received_in sent.group sent.bytes) →
    responder ≡ responder_after stage.responder (received_in sent.group sent.bytes) →
    replies ≡ stage.replies ++ reply_sent sent.group (reply_in stage.responder (received_in sent.group sent.bytes)) →
    reply_with stage (slice_get stage.asks n) ≡ Ok (told.Heard heard, record stage { responder = responder; replies = replies })
replied stage n sent full heard responder replies got full_is none heard_is after_is replies_are =
    ap (reply_with stage) (sym got)
    ∙ ap (λ b. if b then Ok (told.Heard (heard_in stage.responder (received_in sent.group sent.bytes)), with_reply stage sent)
    else Err fault.TooMany)
    (not-full (nat_lt (length stage.replies) 1024) full full_is none)
    ∙ sym (λ j. Ok (told.Heard (heard_is j), record stage { responder = after_is j; replies = replies_are j }))
