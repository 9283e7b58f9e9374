-- A stream of USB-MIDI 1.0 events, cut into its events.
use Rattle.std.specs.Prelude.{ℕ, List, map}
use Rattle.pass_loop.specs.Items.{item_cutting}
use Rattle.pass_loop.specs.Pass.{Cutting}
use Rattle.usb_midi1.specs.Events.{event_of, four_bytes}
use Rattle.usb_midi1.specs.declared.event.Event.{Event}

-- an event after its offset
abbrev pub placed_at : ℕ → List ℕ → ℕ × Event
placed_at at chunk = (at, event_of chunk)

abbrev pub events_of : List (ℕ × Event) → List Event
events_of items = map (λ item. item.1) items

-- A stream is cut into its events, of four bytes each: into all of them; or into those before the end within one; or into those within
-- the limit.
abbrev pub event_cutting : Cutting (ℕ × Event)
event_cutting = item_cutting four_bytes placed_at
