use Rattle.std.proofs.Common.{◌≡◌, ℕ, Some, refl, ap, sym, ◌∙◌}
use Rattle.std.specs.Prelude.{Ok, Err}
use Rattle.pass_loop.specs.ForProofs.StepLaws.{takes_steps}
use Rattle.ci_initiator.specs.Stage.{Stage}
use Rattle.rehearsal_pass.specs.declared.event.CalledEvent.{CalledEvent}
use Rattle.rehearsal_pass.specs.Rehearse.{called, event_puts, events_in, next_at, refusal_of, rehearsing}
use Rattle.rehearsal_pass.proofs.StepLaws.{after-one, by_course, takes}
use Rattle.rehearsal_pass.proofs.rehearse.RehearseEngineEngineU64CalledEvent.step.Goals as goal

pub returns-in-Ok : goal.returns-in-Ok
returns-in-Ok g c = λ first past holds asks.
    let old = g.O.Outputs.places c.args.outputs.now in
    let new = g.O.Outputs.places c.put_told.new.outputs in
    let item : ℕ × CalledEvent = (c.args.at.now, c.args.item.now) in
    let stage : Stage = c.event.new.self in
    let is = by_course first.setup past item c.args.self.now.rehearsal (Ok (c.in-Ok.told, stage)) holds.stage c.in-Ok.ensures in
    takes_steps (rehearsing first.setup) past item old new _ c.put_told.result (event_puts (next_at first.setup past item) item.0)
    (takes first.setup past item c.in-Ok.told stage old new c.put_told.result is c.put_told.ensures)
    (λ fine. (
      refl,
      record {
        sound = holds.sound;
        setup = holds.setup;
        stage = after-one holds.sound.stages first.setup holds.sound.distinct (events_in past) (called item.1) c.in-Ok.told stage is;
      },
    ))

pub returns-in-Err : goal.returns-in-Err
returns-in-Err g c = λ first past holds asks.
    let item : ℕ × CalledEvent = (c.args.at.now, c.args.item.now) in
    let is : next_at first.setup past item ≡ Err c.in-Err.fault =
    by_course first.setup past item c.args.self.now.rehearsal (Err c.in-Err.fault) holds.stage c.in-Err.ensures.0 in
    ((ap (λ next. refusal_of next item.0) is ∙ ap (λ reason. Some (reason, item.0)) (sym c.reason_of.ensures), refl), tt)
