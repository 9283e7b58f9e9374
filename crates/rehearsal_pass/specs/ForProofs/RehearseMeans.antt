-- What is put for the events of a rehearsal goes to the output, and each state at the end was reported.
use Rattle.std.proofs.Common.{◌≡◌, ℕ, ◌+◌, Bool, List, [], ◌∷◌, Option, Some, None, refl}
use Rattle.std.proofs.Common.{ap, sym, ◌∙◌, subst, zero, suc, slice_get, map, true}
use Rattle.std.specs.Prelude.{Result, Ok, Err}
use Rattle.function_blocks.specs.Profiles.{profiles_are_distinct}
use Rattle.function_blocks.specs.Setups.{SetupData}
use Rattle.ci_responder.specs.Keys.{state_in}
use Rattle.ci_initiator.specs.declared.event.EventFault.{EventFault}
use Rattle.ci_initiator.specs.declared.event.Told.{Told}
use Rattle.ci_initiator.specs.declared.watch.Watch.{Watch}
use Rattle.ci_initiator.specs.declared.watch.Watched.{Watched}
use Rattle.ci_initiator.specs.Course.{held_in}
use Rattle.ci_initiator.specs.Laws.{HeldIsTold, StageIsTheCourse}
use Rattle.ci_initiator.specs.Stage.{Stage, first_stage, next_by}
use Rattle.ci_initiator.specs.Watching.{HasIds, watches_of_setup}
use Rattle.ci_text.specs.ForProofs.ProfileLaws.{profiles_named}
use Rattle.ci_text.specs.Profiles.{profile_lines}
use Rattle.ci_text.specs.declared.profiles.LinePlace.TheVariants.{Output}
use Rattle.pass_loop.specs.Named.{AreNamed, named-then}
use Rattle.pass_loop.specs.Put.{Put}
use Rattle.rehearsal_pass.specs.declared.event.CalledEvent.{CalledEvent}
use Rattle.rehearsal_pass.specs.declared.rehearse.RehearseEngine.{RehearseEngine}
use Rattle.pass_loop.specs.Each.{for_each}
use Rattle.rehearsal_pass.specs.Rehearse.{HeldWasTold, called, course_at, event_puts, events_in, held_line, rehearsing, stage_at}

-- the laws that a rehearsal stands on, and what its setup is
pub record IsSound (setup : SetupData) : Type 0 where
  pub stages : StageIsTheCourse
  pub held : HeldIsTold
  pub distinct : profiles_are_distinct setup.profiles ≡ true
  pub ids : HasIds setup.profiles

-- an engine that has taken no event
pub record IsFirstRehearsal (engine : RehearseEngine) : Type 0 where
  pub distinct : profiles_are_distinct engine.setup.profiles ≡ true
  pub ids : HasIds engine.setup.profiles
  pub first : engine.rehearsal ≡ first_stage engine.setup

pub record IsReadyRehearsal (engine : RehearseEngine) : Type 0 where
  pub sound : IsSound engine.setup
  pub first : engine.rehearsal ≡ first_stage engine.setup

-- an engine that has taken these events
pub record HoldsRehearsal (first now : RehearseEngine) (past : List (ℕ × CalledEvent)) : Type 0 where
  pub sound : IsSound first.setup
  pub setup : now.setup ≡ first.setup
  pub stage : now.rehearsal ≡ stage_at first.setup past

pub rehearses_nothing : (first : RehearseEngine) → IsReadyRehearsal first → HoldsRehearsal first first []
rehearses_nothing first ready = record { sound = ready.sound; setup = refl; stage = ready.first }

-- ---- the places

module _ (setup : SetupData) where
  abbrev Are : List Put → Type 0
  Are puts = AreNamed (rehearsing setup).names puts

  one-named : (next : Result (Told × Stage) EventFault) (offset : ℕ) → Are (event_puts next offset)
  one-named (Ok next) offset = (refl, tt)
  one-named (Err fault) offset = tt

  pub rehearses_named : (past : List (ℕ × CalledEvent)) (item : ℕ × CalledEvent) (puts : List Put) → (rehearsing setup).IsPut past item puts
      → Are puts
  rehearses_named past item puts put =
      let A : List Put → Type 0 = λ ps. Are ps in
      subst A (sym put) (one-named (next_by (stage_at setup past) (called item.1)) item.0)

  held-named : (number : ℕ) (watched : List Watched) → Are (for_each held_line number watched)
  held-named number [] = tt
  held-named number (w ∷ ws) = (refl, held-named (number + 1) ws)

  pub closing_named : (past : List (ℕ × CalledEvent)) (puts : List Put) → (rehearsing setup).IsPutAtEnd past puts → Are puts
  closing_named past puts put =
      let A : List Put → Type 0 = λ ps. Are ps in
      let stage : Stage = stage_at setup past in
      subst A (sym put)
      (named-then (rehearsing setup).names (for_each held_line 0 stage.initiator.watched)
      (profile_lines Output (state_in stage.responder.states) setup.profiles)
      (held-named 0 stage.initiator.watched)
      (profiles_named (rehearsing setup).names Output (λ text. refl) (state_in stage.responder.states) setup.profiles))

-- ---- each state was reported

-- a watch, and its state
abbrev held-with : (Watch → Option Bool) → Watch → Watched
held-with hold watch = record { watch = watch; held = hold watch }

held-at : (hold : Watch → Option Bool) (watches : List Watch) (number : ℕ) (watched : Watched) →
    slice_get (map (held-with hold) watches) number ≡ Some watched → watched.held ≡ hold watched.watch
held-at hold [] number watched is = let e : None ≡ Some watched = is in cc
held-at hold (w ∷ ws) zero watched is = ap (λ (o : Option Watched). held-of o) (sym is) ∙ ap (λ (o : Option Watched). hold (watch-of o)) is
  where
    held-of : Option Watched → Option Bool
    held-of None = watched.held
    held-of (Some x) = x.held

    watch-of : Option Watched → Watch
    watch-of None = w
    watch-of (Some x) = x.watch
held-at hold (w ∷ ws) (suc number) watched is = held-at hold ws number watched is

pub rehearsal_means : (first now : RehearseEngine) (past : List (ℕ × CalledEvent)) → HoldsRehearsal first now past
    → HeldWasTold first.setup past
rehearsal_means first now past holds = λ number watched on is held.
    holds.sound.held first.setup holds.sound.distinct holds.sound.ids (events_in past) watched.watch on
    (sym (held-at (held_in first.setup (course_at first.setup past)) (watches_of_setup first.setup) number watched is) ∙ held)
