-- The course of a rehearsal: the messages that both sides have sent and heard by a list of events. It is
-- computed from the tables of the initiator and of the responder, each over the history of what its own side
-- has heard.
use Rattle.std.specs.Prelude.{◌≡◌, ℕ, Bool, nat_lt, if◌then◌else◌, List, [], ◌∷◌, ◌++◌, length}
use Rattle.std.specs.Prelude.{map, slice_get, Option, Some, None, option_map, option_and_then}
use Rattle.function_blocks.specs.Setups.{SetupData}
use Rattle.ci_responder.specs.declared.keys.Key.{Key}
use Rattle.ci_responder.specs.History.{block_of, responder_at, on_at, reply_at}
use Rattle.ci_responder.specs.Messages.{Received, place_at}
use Rattle.ci_responder.specs.Read.{received_in}
use Rattle.ci_responder.specs.Replies.{message_of_payload}
use Rattle.ci_initiator.specs.declared.event.Event.{Event}
use Rattle.ci_initiator.specs.declared.event.Event.TheVariants as event
use Rattle.ci_initiator.specs.declared.message.Sent.{Sent}
use Rattle.ci_initiator.specs.declared.watch.Watch.{Watch}
use Rattle.ci_initiator.specs.Asks.{asked, group_asked}
use Rattle.ci_initiator.specs.Incoming.{Incoming, incoming_in}
use Rattle.ci_initiator.specs.History.{held_at, peer_at}
use Rattle.ci_initiator.specs.Known.{known_at}
use Rattle.ci_initiator.specs.Rows.{tells}
use Rattle.ci_initiator.specs.Stage.{Stage}
use Rattle.ci_initiator.specs.Watching.{own_muid, watches_of_setup}

-- a reply, and what the responder had heard when it was made, newest first: the message that it replies to,
-- and those before it
pub record Made : Type 0 where
  pub sent : Sent
  pub past : List Received

-- the messages of each side by number, and what each side has heard, newest first
pub record Course : Type 0 where
  pub asks : List Sent
  pub replies : List Made
  pub responder_heard : List Received
  pub initiator_heard : List Incoming

abbrev pub first_course : Course
first_course = record { asks = []; replies = []; responder_heard = []; initiator_heard = [] }

-- one more message of the initiator
abbrev pub with_ask : Course → ℕ → Option (List ℕ) → Course
with_ask course group None = course
with_ask course group (Some bytes) =
    if nat_lt (length course.asks) 1024
    then record course { asks = course.asks ++ record { group = group; bytes = bytes } ∷ [] }
    else course

-- a reply that is made after these messages
abbrev pub made : ℕ → List Received → Option (List ℕ) → List Made
made group past None = []
made group past (Some payload) =
    record { sent = record { group = group; bytes = message_of_payload payload }; past = past } ∷ []

module _ (setup : SetupData) where
  -- the state of a watch
  abbrev pub held_in : Course → Watch → Option Bool
  held_in course watch = held_at (own_muid setup.blocks) (watches_of_setup setup) course.initiator_heard watch

  -- the responder hears a message, and replies
  abbrev pub replying : Course → Received → Course
  replying course told =
      if nat_lt (length course.replies) 1024
      then record course {
        responder_heard = told ∷ course.responder_heard;
        replies = course.replies ++ made told.group (told ∷ course.responder_heard) (reply_at setup 512 course.responder_heard told);
      }
      else course

  abbrev pub responder_hears : Course → Option Sent → Course
  responder_hears course None = course
  responder_hears course (Some sent) = replying course (received_in sent.group sent.bytes)

  -- the initiator hears a reply
  abbrev pub initiator_hears : Course → Option Made → Course
  initiator_hears course None = course
  initiator_hears course (Some made) =
      record course { initiator_heard = incoming_in made.sent.group made.sent.bytes ∷ course.initiator_heard }

  -- one more event; one that asks for what isn't there changes nothing
  abbrev pub more : Course → Event → Course
  more course (event.Ask what) =
      with_ask course (group_asked (watches_of_setup setup) what)
      (asked (own_muid setup.blocks) (peer_at (own_muid setup.blocks) (watches_of_setup setup) course.initiator_heard)
      (watches_of_setup setup) what)
  more course (event.ToResponder number) = responder_hears course (slice_get course.asks number)
  more course (event.ToInitiator number) = initiator_hears course (slice_get course.replies number)

  -- the course of events, the newest first
  abbrev pub course_of : List Event → Course
  course_of [] = first_course
  course_of (event ∷ past) = more (course_of past) event

  -- what a rehearsal keeps after a course
  abbrev pub stage_of : Course → Stage
  stage_of course = record {
    initiator = known_at (own_muid setup.blocks) (watches_of_setup setup) course.initiator_heard;
    responder = responder_at setup 512 course.responder_heard;
    asks = course.asks;
    replies = map (λ made. made.sent) course.replies;
  }

  -- the profile of the responder that a watch is of: that of the block of its group, at its place, with its
  -- id
  abbrev pub key_of_watch : Watch → Option Key
  key_of_watch watch =
      option_map (λ block. record { block = block; place = place_at watch.address watch.group; id = watch.id })
      (block_of setup watch.group)

  -- whether it was on after these messages
  abbrev pub was_on : List Received → Watch → Option Bool
  was_on past watch = option_and_then (on_at setup past) (key_of_watch watch)

  -- A reply told of a watch that its profile is on, or off: a report, or an inventory of its place. When the
  -- reply was made, the responder's profile was so.
  pub record IsTold (course : Course) (watch : Watch) (on : Bool) : Type 0 where
    pub number : ℕ
    pub reply : Made
    pub is_there : slice_get course.replies number ≡ Some reply
    pub told : tells (incoming_in reply.sent.group reply.sent.bytes) watch ≡ Some on
    pub was : was_on reply.past watch ≡ Some on
