-- One more event of a rehearsal.
use Rattle.std.proofs.Common.{◌≡◌, ℕ, true, List, [], ◌∷◌, ◌++◌, Option, None, Some, ap, sym, ◌∙◌, subst}
use Rattle.std.specs.Prelude.{Result, Ok, Err}
use Rattle.std.specs.Option.{option_to_list}
use Rattle.function_blocks.specs.Profiles.{profiles_are_distinct}
use Rattle.function_blocks.specs.Setups.{SetupData}
use Rattle.ci_initiator.specs.declared.event.Event.{Event}
use Rattle.ci_initiator.specs.declared.event.EventFault.{EventFault}
use Rattle.ci_initiator.specs.declared.event.EventFault.TheVariants as fault
use Rattle.ci_initiator.specs.declared.event.Told.{Told}
use Rattle.ci_initiator.specs.Course.{course_of, stage_of}
use Rattle.ci_initiator.specs.Laws.{StageIsTheCourse}
use Rattle.ci_initiator.specs.Stage.{Stage, next_by, stage_after}
use Rattle.pass_loop.specs.Pass.{Takes}
use Rattle.pass_loop.specs.Places.{Places, Puts}
use Rattle.pass_loop.specs.Put.{in_output}
use Rattle.pass_loop.specs.declared.ends.RunEnd.{RunEnd}
use Rattle.rehearsal_pass.specs.declared.event.CalledEvent.{CalledEvent}
use Rattle.rehearsal_pass.specs.Rehearse.{called, event_puts, next_at, refusal_of, stage_at, told_text}

-- an event that is taken leaves what the longer course says
pub after-one : StageIsTheCourse → (setup : SetupData) → profiles_are_distinct setup.profiles ≡ true
    → (events : List Event) (o : Option Event) (told : Told) (new : Stage) →
    next_by (stage_of setup (course_of setup events)) o ≡ Ok (told, new)
    → new ≡ stage_of setup (course_of setup (option_to_list o ++ events))
after-one law setup distinct events None told new is = let e : Err fault.BadEvent ≡ Ok (told, new) = is in cc
after-one law setup distinct events (Some event) told new is =
    sym (ap (stage_after (stage_of setup (course_of setup events))) is) ∙ law setup distinct (course_of setup events) event

-- an event has the same outcome by what is kept as by the course
pub by_course : (setup : SetupData) (past : List (ℕ × CalledEvent)) (item : ℕ × CalledEvent) (stage : Stage)
    (next : Result (Told × Stage) EventFault) →
    stage ≡ stage_at setup past → next_by stage (called item.1) ≡ next → next_at setup past item ≡ next
by_course setup past item stage next same is = ap (λ s. next_by s (called item.1)) (sym same) ∙ is

-- its line is put
pub takes : (setup : SetupData) (past : List (ℕ × CalledEvent)) (item : ℕ × CalledEvent) (told : Told) (stage : Stage) (old new : Places)
    (result : Result (Unit {0}) RunEnd) →
    next_at setup past item ≡ Ok (told, stage) → Puts (in_output (told_text item.0 told) ∷ []) old new result →
    Takes (refusal_of (next_at setup past item) item.0) (event_puts (next_at setup past item) item.0) old new result
takes setup past item told stage old new result is put =
    let T : Result (Told × Stage) EventFault → Type 0 = λ next. Takes (refusal_of next item.0) (event_puts next item.0) old new result in
    subst T (sym is) put
