-- What a rehearsal keeps is what its course says; and each state was reported by a reply.
use Rattle.std.proofs.Common.{◌≡◌, ◌⊎◌, inl, inr, ◌∙◌, ap, sym, refl, subst, ℕ, zero, suc, Bool, true, false, if◌then◌else◌}
use Rattle.std.proofs.Common.{nat_lt, List, [], ◌∷◌, ◌++◌, length, map, slice_get, Option, Some, None, option_map}
use Rattle.std.specs.Prelude.{Ok, Err}
use Rattle.ci_messages.specs.Positions.{byte_at}
use Rattle.function_blocks.specs.Profiles.{profiles_are_distinct}
use Rattle.function_blocks.specs.Setups.{SetupData}
use Rattle.ci_responder.specs.Held.{heard_in, reply_in}
use Rattle.ci_responder.specs.History.{responder_at, reply_at}
use Rattle.ci_responder.specs.Laws.{HeldIsTheHistory}
use Rattle.ci_responder.specs.Messages.{Received}
use Rattle.ci_responder.specs.Read.{received_in}
use Rattle.ci_responder.specs.Replies.{message_of_payload}
use Rattle.ci_initiator.specs.declared.event.Event.{Event}
use Rattle.ci_initiator.specs.declared.event.Event.TheVariants as event
use Rattle.ci_initiator.specs.declared.event.EventFault.TheVariants as fault
use Rattle.ci_initiator.specs.declared.event.Told.{Told as Outcome}
use Rattle.ci_initiator.specs.declared.event.Told.TheVariants as outcome
use Rattle.ci_initiator.specs.declared.message.Sent.{Sent}
use Rattle.ci_initiator.specs.declared.noted.Noted.{Noted}
use Rattle.ci_initiator.specs.declared.noted.Noted.TheVariants as noted
use Rattle.ci_initiator.specs.declared.watch.Watch.{Watch}
use Rattle.ci_initiator.specs.Asks.{asked, group_asked}
use Rattle.ci_initiator.specs.Incoming.{Incoming, incoming_in}
use Rattle.ci_initiator.specs.Rows.{is_gone, tells, tells_by}
use Rattle.ci_initiator.specs.History.{Entry, entries, held_at, last_told, noted_at, peer_at, since_gone}
use Rattle.ci_responder.specs.History.{newer_or}
use Rattle.ci_initiator.specs.Stage.{Stage, ask_with, next_stage, note_with, reply_sent, reply_with, stage_after, with_reply}
use Rattle.ci_initiator.specs.Watching.{HasIds, own_muid, watches_of_setup}
use Rattle.ci_initiator.specs.Course.{Course, IsTold, Made, course_of, held_in, made, more}
use Rattle.ci_initiator.specs.Course.{stage_of, was_on, with_ask, initiator_hears, responder_hears}
use Rattle.ci_initiator.proofs.Histories.{after_follows, same-watches}
use Rattle.ci_initiator.proofs.ListLaws.{IsIn, got-in, in-either, in-left, place-of}
use Rattle.ci_initiator.proofs.Read.{address-again}
use Rattle.ci_initiator.proofs.Witness.{no-some, told-was}

-- ---- what is kept

get-map : {X Y : Type 0} (f : X → Y) (xs : List X) (n : ℕ) → slice_get (map f xs) n ≡ option_map f (slice_get xs n)
get-map f [] n = refl
get-map f (x ∷ xs) zero = refl
get-map f (x ∷ xs) (suc n) = get-map f xs n

map-append : {X Y : Type 0} (f : X → Y) (xs ys : List X) → map f (xs ++ ys) ≡ map f xs ++ map f ys
map-append f [] ys = refl
map-append f (x ∷ xs) ys = ap (λ rest. f x ∷ rest) (map-append f xs ys)

length-map : {X Y : Type 0} (f : X → Y) (xs : List X) → length (map f xs) ≡ length xs
length-map f [] = refl
length-map f (x ∷ xs) = ap suc (length-map f xs)

sent-of : (group : ℕ) (past : List Received) (reply : Option (List ℕ)) → map (λ m. m.sent) (made group past reply) ≡ reply_sent group reply
sent-of group past None = refl
sent-of group past (Some payload) = refl

module _ (law : HeldIsTheHistory) (setup : SetupData) (distinct : profiles_are_distinct setup.profiles ≡ true) (course : Course) where
  asking : (group : ℕ) (bytes : Option (List ℕ))
      → stage_after (stage_of setup course) (ask_with (stage_of setup course) group bytes) ≡ stage_of setup (with_ask course group bytes)
  asking group None = refl
  asking group (Some bytes) = by (nat_lt (length course.asks) 1024)
    where
      next : Stage
      next = record (stage_of setup course) { asks = course.asks ++ record { group = group; bytes = bytes } ∷ [] }

      by : (b : Bool) → stage_after (stage_of setup course) (if b then Ok (outcome.Asked, next) else Err fault.TooMany)
          ≡ stage_of setup (if b then record course { asks = course.asks ++ record { group = group; bytes = bytes } ∷ [] } else course)
      by true = refl
      by false = refl

  answering : (sent : Option Sent)
      → stage_after (stage_of setup course) (reply_with (stage_of setup course) sent) ≡ stage_of setup (responder_hears setup course sent)
  answering None = refl
  answering (Some sent) =
      ap (λ n. stage_after (stage_of setup course) (if nat_lt n 1024 then Ok next else Err fault.TooMany))
      (length-map (λ m. m.sent) course.replies)
      ∙ by (nat_lt (length course.replies) 1024)
    where
      told : Received
      told = received_in sent.group sent.bytes

      next : Outcome × Stage
      next = (outcome.Heard (heard_in (responder_at setup 512 course.responder_heard) told), with_reply (stage_of setup course) sent)

      kept : List Sent
      kept = map (λ m. m.sent) course.replies

      replies : kept ++ reply_sent sent.group (reply_in (responder_at setup 512 course.responder_heard) told)
          ≡ map (λ m. m.sent)
          (course.replies ++ made told.group (told ∷ course.responder_heard) (reply_at setup 512 course.responder_heard told))
      replies =
          ap (λ r. kept ++ reply_sent sent.group r) (law.reply setup 512 course.responder_heard told)
          ∙ ap (λ xs. kept ++ xs)
          (sym (sent-of told.group (told ∷ course.responder_heard) (reply_at setup 512 course.responder_heard told)))
          ∙ sym (map-append (λ m. m.sent) course.replies
          (made told.group (told ∷ course.responder_heard) (reply_at setup 512 course.responder_heard told)))

      longer : Course
      longer = record course {
        responder_heard = told ∷ course.responder_heard;
        replies = course.replies ++ made told.group (told ∷ course.responder_heard) (reply_at setup 512 course.responder_heard told);
      }

      by : (b : Bool)
          → stage_after (stage_of setup course) (if b then Ok next else Err fault.TooMany) ≡ stage_of setup (if b then longer else course)
      by true =
          (λ j. record (stage_of setup course)
          { responder = law.after setup 512 course.responder_heard told distinct j; replies = replies j })
      by false = refl

  noting : (m : Option Made)
      → stage_after (stage_of setup course) (note_with (stage_of setup course) (option_map (λ m. m.sent) m))
      ≡ stage_of setup (initiator_hears setup course m)
  noting None = refl
  noting (Some m) = (λ j. record (stage_of setup course) {
    initiator =
        after_follows (own_muid setup.blocks) (watches_of_setup setup) course.initiator_heard (incoming_in m.sent.group m.sent.bytes) j;
  })

  pub more-follows : (event : Event)
      → stage_after (stage_of setup course) (next_stage (stage_of setup course) event) ≡ stage_of setup (more setup course event)
  more-follows (event.Ask what) =
      ap (λ ws. stage_after (stage_of setup course)
      (ask_with (stage_of setup course) (group_asked ws what)
      (asked (own_muid setup.blocks) (peer_at (own_muid setup.blocks) (watches_of_setup setup) course.initiator_heard) ws what)))
      (same-watches (held_at (own_muid setup.blocks) (watches_of_setup setup) course.initiator_heard) (watches_of_setup setup))
      ∙ asking (group_asked (watches_of_setup setup) what)
      (asked (own_muid setup.blocks) (peer_at (own_muid setup.blocks) (watches_of_setup setup) course.initiator_heard)
      (watches_of_setup setup) what)
  more-follows (event.ToResponder n) = answering (slice_get course.asks n)
  more-follows (event.ToInitiator n) =
      ap (λ s. stage_after (stage_of setup course) (note_with (stage_of setup course) s)) (get-map (λ m. m.sent) course.replies n)
      ∙ noting (slice_get course.replies n)

-- ---- the state

tells-of : (row : Noted) (d : Incoming) (watch : Watch) (on : Bool) → tells_by row d watch ≡ Some on → tells d watch ≡ Some on
tells-of (noted.Told k) d watch on is = is
tells-of noted.Inventory d watch on is = is
tells-of noted.Other d watch on is = absurd (no-some on is)
tells-of noted.Peer d watch on is = absurd (no-some on is)
tells-of noted.Gone d watch on is = absurd (no-some on is)

last-in : (muid : ℕ) (watches : List Watch) (watch : Watch) (on : Bool) (past : List Incoming) → held_at muid watches past watch ≡ Some on →
    (d : Incoming) × IsIn d past × (tells d watch ≡ Some on)
last-in muid watches watch on [] is = absurd (no-some on is)
last-in muid watches watch on (d ∷ past) is = by (is_gone row) is (last-in muid watches watch on past)
  where
    Earlier : Type 0
    Earlier = held_at muid watches past watch ≡ Some on → (e : Incoming) × IsIn e past × (tells e watch ≡ Some on)

    row : Noted
    row = noted_at muid watches past d

    before : List Entry
    before = since_gone (entries muid watches past)

    newest : (o : Option Bool) → tells_by row d watch ≡ o → newer_or o (last_told watch before) ≡ Some on → Earlier
        → (e : Incoming) × IsIn e (d ∷ past) × (tells e watch ≡ Some on)
    newest None told is earlier = let rest = earlier is in (rest.0, inr rest.1, rest.2)
    newest (Some x) told is earlier = (d, inl refl, tells-of row d watch on (told ∙ is))

    by : (b : Bool) → last_told watch (if b then [] else record { heard = d; noted = row } ∷ before) ≡ Some on → Earlier
        → (e : Incoming) × IsIn e (d ∷ past) × (tells e watch ≡ Some on)
    by true is earlier = absurd (no-some on is)
    by false is earlier = newest (tells_by row d watch) refl is earlier

-- a reply was made to a message, after those before it
record IsMade (setup : SetupData) (reply : Made) : Type 0 where
  past : List Received
  group : ℕ
  bytes : List ℕ
  payload : List ℕ
  past_is : reply.past ≡ received_in group bytes ∷ past
  replied : reply_at setup 512 past (received_in group bytes) ≡ Some payload
  sent_is : reply.sent ≡ record { group = group; bytes = message_of_payload payload }

-- what was heard is a reply, and replies were made
record Holds (setup : SetupData) (course : Course) : Type 0 where
  heard : (d : Incoming) → IsIn d course.initiator_heard → (r : Made) × IsIn r course.replies × (d ≡ incoming_in r.sent.group r.sent.bytes)
  replies : (r : Made) → IsIn r course.replies → IsMade setup r

module _ (setup : SetupData) (course : Course) (holds : Holds setup course) where
  after-ask : (group : ℕ) (bytes : Option (List ℕ)) → Holds setup (with_ask course group bytes)
  after-ask group None = holds
  after-ask group (Some bytes) = by (nat_lt (length course.asks) 1024)
    where
      by : (b : Bool)
          → Holds setup (if b then record course { asks = course.asks ++ record { group = group; bytes = bytes } ∷ [] } else course)
      by true = record { heard = holds.heard; replies = holds.replies }
      by false = holds

  after-told : (sent : Option Sent) → Holds setup (responder_hears setup course sent)
  after-told None = holds
  after-told (Some sent) = by (nat_lt (length course.replies) 1024)
    where
      told : Received
      told = received_in sent.group sent.bytes

      new-made : (o : Option (List ℕ)) → reply_at setup 512 course.responder_heard told ≡ o → (r : Made)
          → IsIn r (made told.group (told ∷ course.responder_heard) o) → IsMade setup r
      new-made None is r none = elim none [ ]
      new-made (Some payload) is r (inr none) = elim none [ ]
      new-made (Some payload) is r (inl same) = record {
        past = course.responder_heard;
        group = sent.group;
        bytes = sent.bytes;
        payload = payload;
        past_is = ap (λ m. m.past) same;
        replied = is;
        sent_is = ap (λ m. m.sent) same;
      }

      made-by : (r : Made)
          → IsIn r course.replies
          ⊎ IsIn r (made told.group (told ∷ course.responder_heard) (reply_at setup 512 course.responder_heard told))
          → IsMade setup r
      made-by r (inl earlier) = holds.replies r earlier
      made-by r (inr new) = new-made (reply_at setup 512 course.responder_heard told) refl r new

      more-replies : List Made
      more-replies = made told.group (told ∷ course.responder_heard) (reply_at setup 512 course.responder_heard told)

      by : (b : Bool)
          → Holds setup (if b
          then record course { responder_heard = told ∷ course.responder_heard; replies = course.replies ++ more-replies } else course)
      by true = record {
        heard = λ d is. let earlier = holds.heard d is in (earlier.0, in-left earlier.0 course.replies more-replies earlier.1, earlier.2);
        replies = λ r is. made-by r (in-either r course.replies more-replies is);
      }
      by false = holds

  after-heard : (n : ℕ) (m : Option Made) → slice_get course.replies n ≡ m → Holds setup (initiator_hears setup course m)
  after-heard n None is = holds
  after-heard n (Some m) is = record { heard = λ d within. by d within; replies = holds.replies }
    where
      by : (d : Incoming) → IsIn d (incoming_in m.sent.group m.sent.bytes ∷ course.initiator_heard)
          → (r : Made) × IsIn r course.replies × (d ≡ incoming_in r.sent.group r.sent.bytes)
      by d (inl same) = (m, got-in m course.replies n is, same)
      by d (inr earlier) = holds.heard d earlier

  after-event : (event : Event) → Holds setup (more setup course event)
  after-event (event.Ask what) = after-ask (group_asked (watches_of_setup setup) what) _
  after-event (event.ToResponder n) = after-told (slice_get course.asks n)
  after-event (event.ToInitiator n) = after-heard n (slice_get course.replies n) refl

all-hold : (setup : SetupData) (events : List Event) → Holds setup (course_of setup events)
all-hold setup [] = record { heard = λ d is. absurd is; replies = λ r is. absurd is }
all-hold setup (event ∷ past) = after-event setup (course_of setup past) (all-hold setup past) event

pub held-is-told : (setup : SetupData) → profiles_are_distinct setup.profiles ≡ true → HasIds setup.profiles
    → (events : List Event) (watch : Watch) (on : Bool) →
    held_in setup (course_of setup events) watch ≡ Some on → IsTold setup (course_of setup events) watch on
held-is-told setup distinct five events watch on held =
    let course : Course = course_of setup events in
    let holds : Holds setup course = all-hold setup events in
    let last = last-in (own_muid setup.blocks) (watches_of_setup setup) watch on course.initiator_heard held in
    let heard = holds.heard last.0 last.1 in
    let reply : Made = heard.0 in
    let is_made : IsMade setup reply = holds.replies reply heard.1 in
    let place = place-of reply course.replies heard.1 in
    let told : tells (incoming_in reply.sent.group reply.sent.bytes) watch ≡ Some on =
    subst (λ d. tells d watch ≡ Some on) heard.2 last.2 in
    let again : tells (incoming_in is_made.group (message_of_payload is_made.payload)) watch ≡ Some on =
    subst (λ s. tells (incoming_in s.group s.bytes) watch ≡ Some on) is_made.sent_is told in
    let was : was_on setup (received_in is_made.group is_made.bytes ∷ is_made.past) watch ≡ Some on =
    told-was setup distinct five is_made.past (received_in is_made.group is_made.bytes) (address-again (byte_at is_made.bytes 2)) watch on
    is_made.payload is_made.replied again in
    record {
      number = place.0;
      reply = reply;
      is_there = place.1;
      told = told;
      was = subst (λ past. was_on setup past watch ≡ Some on) (sym is_made.past_is) was;
    }
