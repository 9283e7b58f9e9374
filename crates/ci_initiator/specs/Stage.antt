-- What a rehearsal keeps, and what one event does to it.
use Rattle.std.specs.Prelude.{◌≡◌, ℕ, ◌-◌, ◌/◌, ◌%◌, ◌==◌, nat_lt, if◌then◌else◌, List, [], ◌∷◌}
use Rattle.std.specs.Prelude.{◌++◌, length, slice_get, Option, Some, None, Result, Ok, Err}
use Rattle.function_blocks.specs.Setups.{SetupData}
use Rattle.ci_responder.specs.Held.{Held, after as responder_after, heard_in, reply_in}
use Rattle.ci_responder.specs.History.{responder_at}
use Rattle.ci_responder.specs.Read.{received_in}
use Rattle.ci_responder.specs.Replies.{message_of_payload}
use Rattle.ci_initiator.specs.declared.ask.Ask.{Ask}
use Rattle.ci_initiator.specs.declared.ask.Ask.TheVariants as ask
use Rattle.ci_initiator.specs.declared.event.Event.{Event}
use Rattle.ci_initiator.specs.declared.event.Event.TheVariants as event
use Rattle.ci_initiator.specs.declared.event.EventFault.{EventFault}
use Rattle.ci_initiator.specs.declared.event.EventFault.TheVariants as fault
use Rattle.ci_initiator.specs.declared.event.Told.{Told}
use Rattle.ci_initiator.specs.declared.event.Told.TheVariants as told
use Rattle.ci_initiator.specs.declared.message.Sent.{Sent}
use Rattle.ci_initiator.specs.Asks.{group_asked}
use Rattle.ci_initiator.specs.Incoming.{incoming_in}
use Rattle.ci_initiator.specs.Known.{Known, after, asked_by, known_at, noted_in, watches_of}
use Rattle.ci_initiator.specs.Watching.{own_muid, watches_of_setup}

-- both sides, and the messages that each has sent, by number
pub record Stage : Type 0 where
  pub initiator : Known
  pub responder : Held
  pub asks : List Sent
  pub replies : List Sent

-- a setup's rehearsal at its start; the responder takes exclusives of up to 512 bytes
abbrev pub first_stage : SetupData → Stage
first_stage setup = record {
  initiator = known_at (own_muid setup.blocks) (watches_of_setup setup) [];
  responder = responder_at setup 512 [];
  asks = [];
  replies = [];
}

-- what is asked by a number: Discovery, and then three for each watch
abbrev pub ask_about : ℕ → ℕ → Ask
ask_about rest watch = if rest == 0 then ask.Inquire watch else if rest == 1 then ask.On watch else ask.Off watch

abbrev pub ask_of : ℕ → Ask
ask_of number = if number == 0 then ask.Discover else ask_about ((number - 1) % 3) ((number - 1) / 3)

-- the event of a kind and a number
abbrev pub event_of : ℕ → ℕ → Option Event
event_of kind number =
    if kind == 0 then Some (event.Ask (ask_of number))
    else if kind == 1 then Some (event.ToResponder number)
    else if kind == 2 then Some (event.ToInitiator number)
    else None

-- one more message if there are fewer than 1,024
abbrev pub if_few : List Sent → Told × Stage → Result (Told × Stage) EventFault
if_few messages next = if nat_lt (length messages) 1024 then Ok next else Err fault.TooMany

abbrev pub with_ask : Stage → ℕ → List ℕ → Stage
with_ask stage group bytes = record stage { asks = stage.asks ++ record { group = group; bytes = bytes } ∷ [] }

abbrev pub ask_with : Stage → ℕ → Option (List ℕ) → Result (Told × Stage) EventFault
ask_with stage group None = Err fault.BadEvent
ask_with stage group (Some bytes) = if_few stage.asks (told.Asked, with_ask stage group bytes)

-- the reply, if any
abbrev pub reply_sent : ℕ → Option (List ℕ) → List Sent
reply_sent group None = []
reply_sent group (Some payload) = record { group = group; bytes = message_of_payload payload } ∷ []

abbrev pub with_reply : Stage → Sent → Stage
with_reply stage sent = record stage {
  responder = responder_after stage.responder (received_in sent.group sent.bytes);
  replies = stage.replies ++ reply_sent sent.group (reply_in stage.responder (received_in sent.group sent.bytes));
}

abbrev pub reply_with : Stage → Option Sent → Result (Told × Stage) EventFault
reply_with stage None = Err fault.BadEvent
reply_with stage (Some sent) =
    if_few stage.replies (told.Heard (heard_in stage.responder (received_in sent.group sent.bytes)), with_reply stage sent)

abbrev pub note_with : Stage → Option Sent → Result (Told × Stage) EventFault
note_with stage None = Err fault.BadEvent
note_with stage (Some sent) =
    Ok (
      told.Noted (noted_in stage.initiator (incoming_in sent.group sent.bytes)),
      record stage {
        initiator = after stage.initiator (incoming_in sent.group sent.bytes);
      },
    )

-- the outcome of an event, and what is kept after it
abbrev pub next_stage : Stage → Event → Result (Told × Stage) EventFault
next_stage stage (event.Ask what) =
    ask_with stage (group_asked (watches_of stage.initiator) what) (asked_by stage.initiator what)
next_stage stage (event.ToResponder number) = reply_with stage (slice_get stage.asks number)
next_stage stage (event.ToInitiator number) = note_with stage (slice_get stage.replies number)

-- the same by a kind and a number
abbrev pub next_by : Stage → Option Event → Result (Told × Stage) EventFault
next_by stage None = Err fault.BadEvent
next_by stage (Some event) = next_stage stage event

-- an event is taken, or nothing has changed
abbrev pub Steps : Result (Told × Stage) EventFault → Stage → Stage → Result Told EventFault → Type 0
Steps next old new (Ok told) = next ≡ Ok (told, new)
Steps next old new (Err fault) = (next ≡ Err fault) × (new ≡ old)

-- what is kept after an event; one that isn't taken changes nothing
abbrev pub stage_after : Stage → Result (Told × Stage) EventFault → Stage
stage_after old (Ok next) = next.1
stage_after old (Err fault) = old
