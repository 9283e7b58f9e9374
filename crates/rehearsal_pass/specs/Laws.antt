-- What a rehearsal that is done leaves, by the whole input.
use Rattle.std.specs.Prelude.{◌≡◌, ℕ, List, [], ◌∷◌, ◌++◌, reverse, Some, None}
use Rattle.function_blocks.specs.Setups.{SetupData}
use Rattle.pass_loop.specs.Pass.{IsDone, Seen}
use Rattle.pass_loop.specs.Places.{with_more}
use Rattle.pass_loop.specs.Put.{output_in}
use Rattle.rehearsal_pass.specs.declared.event.CalledEvent.{CalledEvent}
use Rattle.rehearsal_pass.specs.Events.{called_cutting}
use Rattle.rehearsal_pass.specs.Rehearse.{HeldWasTold, closing_lines, event_puts, next_at, rehearsing, stage_at}

-- the lines of events, newest first, in the order in which they came
abbrev pub lines_of : SetupData → List (ℕ × CalledEvent) → List ℕ
lines_of setup [] = []
lines_of setup (item ∷ past) = lines_of setup past ++ output_in (event_puts (next_at setup past item) item.0)

-- The input is cut into events. The output gained their lines and those of the end. The state at the end
-- was told.
pub record RehearsesTheInput (setup : SetupData) (bytes : List ℕ) (old new : Seen) : Type 0 where
  pub items : List (ℕ × CalledEvent)
  pub cut : called_cutting bytes items None
  pub output : new.places.output
      ≡ with_more old.places.output (lines_of setup (reverse items) ++ output_in (closing_lines setup (stage_at setup (reverse items))))
  pub held : HeldWasTold setup (reverse items)
  pub left : new.left ≡ Some []

abbrev pub DoneRehearsesTheInput : Type 0
DoneRehearsesTheInput =
    (setup : SetupData) (bytes : List ℕ) (old new : Seen) → old.left ≡ Some bytes →
    IsDone called_cutting (rehearsing setup) old new → RehearsesTheInput setup bytes old new
