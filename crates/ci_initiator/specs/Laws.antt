-- What holds of all histories of messages, which are listed the newest first.
use Rattle.std.specs.Prelude.{◌≡◌, ℕ, Bool, true, List, ◌∷◌, slice_get, Some}
use Rattle.function_blocks.specs.declared.setup.Block.{Block}
use Rattle.function_blocks.specs.Profiles.{profiles_are_distinct}
use Rattle.function_blocks.specs.Setups.{SetupData, IsSetup}
use Rattle.function_blocks.specs.declared.setup.Profile.{Profile}
use Rattle.ci_responder.specs.Keys.{key_of}
use Rattle.ci_messages.specs.declared.view.CiView.{CiView}
use Rattle.ci_messages.specs.Reading.{CiSpells}
use Rattle.ci_initiator.specs.declared.event.Event.{Event}
use Rattle.ci_initiator.specs.declared.watch.Watch.{Watch}
use Rattle.ci_initiator.specs.Course.{Course, IsTold, course_of, held_in, key_of_watch, more, stage_of}
use Rattle.ci_initiator.specs.Incoming.{Incoming, incoming_in, incoming_of}
use Rattle.ci_initiator.specs.History.{noted_at}
use Rattle.ci_initiator.specs.Known.{after, known_at, noted_in}
use Rattle.ci_initiator.specs.Stage.{next_stage, stage_after}
use Rattle.ci_initiator.specs.Watching.{HasIds, IsLeastUnnamed, own_muid, watches_of_setup}

-- What is known after a history is what the history says, searched from its end: one more message is noted as
-- the history says, and leaves what the longer history says.
pub record KnownIsTheHistory : Type 0 where
  pub noted : (muid : ℕ) (watches : List Watch) (past : List Incoming) (heard : Incoming) →
      noted_in (known_at muid watches past) heard ≡ noted_at muid watches past heard
  pub after : (muid : ℕ) (watches : List Watch) (past : List Incoming) (heard : Incoming) →
      after (known_at muid watches past) heard ≡ known_at muid watches (heard ∷ past)

-- What a rehearsal keeps after any events is what their course says.
abbrev pub StageIsTheCourse : Type 0
StageIsTheCourse =
    (setup : SetupData) → profiles_are_distinct setup.profiles ≡ true → (course : Course) (event : Event) →
    stage_after (stage_of setup course) (next_stage (stage_of setup course) event)
    ≡ stage_of setup (more setup course event)

-- Whatever events there were, so whatever was lost, repeated or out of order: if a watch is held on, a reply
-- told that its profile is on, and when that reply was made it was on; and likewise off.
abbrev pub HeldIsTold : Type 0
HeldIsTold =
    (setup : SetupData) → profiles_are_distinct setup.profiles ≡ true → HasIds setup.profiles →
    (events : List Event) (watch : Watch) (on : Bool) →
    held_in setup (course_of setup events) watch ≡ Some on → IsTold setup (course_of setup events) watch on

-- the initiator's MUID is the least that isn't named
abbrev pub OwnMuidIsTheLeast : Type 0
OwnMuidIsTheLeast = (blocks : List Block) → IsLeastUnnamed blocks (own_muid blocks)

-- The profile that a watch is of, by the block of its group, is one of the setup's.
abbrev pub WatchesAreOfTheSetup : Type 0
WatchesAreOfTheSetup =
    (setup : SetupData) → IsSetup setup → (k : ℕ) (watch : Watch) →
    slice_get (watches_of_setup setup) k ≡ Some watch →
    (n : ℕ) × (profile : Profile) × (slice_get setup.profiles n ≡ Some profile)
    × (key_of_watch setup watch ≡ Some (key_of profile))

-- a view tells what the bytes tell that spell it
abbrev pub ViewsTellTheirBytes : Type 0
ViewsTellTheirBytes =
    (group : ℕ) (message : List ℕ) (view : CiView) → CiSpells view message →
    incoming_of group view ≡ incoming_in group message
