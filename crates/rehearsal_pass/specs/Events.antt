-- A stream of the events of a rehearsal, cut into its events.
use Rattle.std.specs.Prelude.{ℕ, List}
use Rattle.pass_loop.specs.Items.{item_cutting}
use Rattle.pass_loop.specs.Pass.{Cutting}
use Rattle.rehearsal_pass.specs.EventBytes.{called_of, three_bytes}
use Rattle.rehearsal_pass.specs.declared.event.CalledEvent.{CalledEvent}

-- an event after its offset
abbrev pub placed_at : ℕ → List ℕ → ℕ × CalledEvent
placed_at at chunk = (at, called_of chunk)

-- A stream is cut into its events, of three bytes each: into all of them; or into those before the one within
-- which it ends; or into those within the limit.
abbrev pub called_cutting : Cutting (ℕ × CalledEvent)
called_cutting = item_cutting three_bytes placed_at
