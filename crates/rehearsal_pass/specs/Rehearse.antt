-- A rehearsal that is run: the line of each event, and at the end the states of the watches, and the profiles.
use Rattle.std.specs.Prelude.{◌≡◌, ℕ, Bool, true, false, List, [], ◌∷◌, ◌++◌, codes}
use Rattle.std.specs.Prelude.{decimal, slice_get, Option, Some, None, Result, Ok, Err}
use Rattle.std.specs.Option.{option_to_list}
use Rattle.function_blocks.specs.Setups.{SetupData}
use Rattle.ci_responder.specs.Keys.{state_in}
use Rattle.ci_initiator.specs.declared.event.Event.{Event}
use Rattle.ci_initiator.specs.declared.event.EventFault.{EventFault}
use Rattle.ci_initiator.specs.declared.event.EventFault.TheVariants as fault
use Rattle.ci_initiator.specs.declared.event.Told.{Told}
use Rattle.ci_initiator.specs.declared.event.Told.TheVariants as told
use Rattle.ci_initiator.specs.declared.noted.Noted.{Noted}
use Rattle.ci_initiator.specs.declared.noted.Noted.TheVariants as noted
use Rattle.ci_initiator.specs.declared.watch.Watched.{Watched}
use Rattle.ci_initiator.specs.Course.{Course, IsTold, course_of, stage_of}
use Rattle.ci_initiator.specs.Stage.{Stage, event_of, next_by}
use Rattle.ci_text.specs.Names.{name_of_heard}
use Rattle.ci_text.specs.Profiles.{profile_lines}
use Rattle.ci_text.specs.declared.profiles.LinePlace.TheVariants.{Output}
use Rattle.endpoint_lines.specs.EndpointLines.{name_word, state_word}
use Rattle.pass_loop.specs.Each.{for_each}
use Rattle.pass_loop.specs.Pass.{Tail, Work}
use Rattle.pass_loop.specs.Put.{Put, in_output}
use Rattle.pass_loop.specs.declared.ends.Reason.{Reason}
use Rattle.pass_loop.specs.declared.ends.Reason.TheVariants.{BadEvent, TooManyMessages}
use Rattle.rehearsal_pass.specs.declared.event.CalledEvent.{CalledEvent}

-- ---- lines

-- what the line says of a message that the initiator heard
abbrev pub noted_word : Noted → List ℕ
noted_word noted.Other = codes "other"
noted_word noted.Peer = codes "peer"
noted_word noted.Gone = codes "gone"
noted_word (noted.Told k) = codes "told"
noted_word noted.Inventory = codes "inventory"

abbrev pub told_word : Told → List ℕ
told_word told.Asked = codes "asked"
told_word (told.Heard heard) = name_word (name_of_heard heard)
told_word (told.Noted noted) = noted_word noted

-- the line of an event at an offset
abbrev pub told_text : ℕ → Told → List ℕ
told_text offset told = decimal offset ++ codes " " ++ told_word told ++ codes "\n"

abbrev pub held_word : Option Bool → List ℕ
held_word None = codes "unknown"
held_word (Some on) = state_word on

-- the state of a watch, by its number
abbrev pub held_text : ℕ → Option Bool → List ℕ
held_text number held = codes "held " ++ decimal number ++ codes " " ++ held_word held ++ codes "\n"

abbrev pub held_line : ℕ → Watched → List Put
held_line number watched = in_output (held_text number watched.held) ∷ []

-- the lines at the end: the state of each watch, and the responder's profiles
abbrev pub closing_lines : SetupData → Stage → List Put
closing_lines setup stage =
    for_each held_line 0 stage.initiator.watched
    ++ profile_lines Output (state_in stage.responder.states) setup.profiles

-- ---- a run

-- the event that is called for, if there is one
abbrev pub called : CalledEvent → Option Event
called event = event_of event.kind event.number

-- the events of items; both newest first
abbrev pub events_in : List (ℕ × CalledEvent) → List Event
events_in [] = []
events_in (item ∷ past) = option_to_list (called item.1) ++ events_in past

abbrev pub reason_of : EventFault → Reason
reason_of fault.BadEvent = BadEvent
reason_of fault.TooMany = TooManyMessages

abbrev pub refusal_of : Result (Told × Stage) EventFault → ℕ → Tail
refusal_of (Ok next) offset = None
refusal_of (Err fault) offset = Some (reason_of fault, offset)

abbrev pub event_puts : Result (Told × Stage) EventFault → ℕ → List Put
event_puts (Ok next) offset = in_output (told_text offset next.0) ∷ []
event_puts (Err fault) offset = []

module _ (setup : SetupData) where
  -- the course of items, newest first
  abbrev pub course_at : List (ℕ × CalledEvent) → Course
  course_at past = course_of setup (events_in past)

  abbrev pub stage_at : List (ℕ × CalledEvent) → Stage
  stage_at past = stage_of setup (course_at past)

  -- the outcome of one more event
  abbrev pub next_at : List (ℕ × CalledEvent) → ℕ × CalledEvent → Result (Told × Stage) EventFault
  next_at past item = next_by (stage_at past) (called item.1)

  -- Each state at the end was reported by a reply that was made when the responder's profile was so.
  abbrev pub HeldWasTold : List (ℕ × CalledEvent) → Type 0
  HeldWasTold past =
      (number : ℕ) (watched : Watched) (on : Bool) →
      slice_get (stage_at past).initiator.watched number ≡ Some watched → watched.held ≡ Some on →
      IsTold setup (course_at past) watched.watch on

  -- What is done with the events of a rehearsal: a line for each, and at the end the state, and the
  -- profiles. An event is refused if what it asks for isn't there, or if there are 1,024 messages already.
  -- Each state at the end was reported.
  abbrev pub rehearsing : Work (ℕ × CalledEvent)
  rehearsing =
      record {
        names = record { lanes = false; output = true; notes = false };
        grows = false;
        refusal = λ past item. refusal_of (next_at past item) item.0;
        IsPut = λ past item puts. puts ≡ event_puts (next_at past item) item.0;
        refusal_at_end = λ past. None;
        IsPutAtEnd = λ past puts. puts ≡ closing_lines setup (stage_at past);
        Means = λ past puts. HeldWasTold past;
      }
