-- What events carry, cable by cable.
use Rattle.std.specs.Prelude.{ℕ, ◌==◌, if◌then◌else◌, List, [], ◌∷◌, ◌++◌}
use Rattle.std.specs.List.{flat_map}
use Rattle.usb_midi1.specs.Codes.{is_reserved}
use Rattle.usb_midi1.specs.Events.{carried_by, event_of}
use Rattle.usb_midi1.specs.declared.event.Event.{Event}

-- the events of some bytes, four by four
abbrev pub events_in : List ℕ → List Event
events_in (head ∷ first ∷ second ∷ third ∷ bytes) = event_of (head ∷ first ∷ second ∷ third ∷ []) ∷ events_in bytes
events_in _ = []

-- the cable and the bytes of an event whose code isn't reserved
abbrev pub pieces_of : Event → List (ℕ × List ℕ)
pieces_of event = if is_reserved event.code then [] else (event.cable, carried_by event) ∷ []

-- what the events of some bytes carry, in order
abbrev pub split : List ℕ → List (ℕ × List ℕ)
split bytes = flat_map pieces_of (events_in bytes)

-- the stream of one cable
abbrev pub on_cable : ℕ → List (ℕ × List ℕ) → List ℕ
on_cable cable [] = []
on_cable cable (piece ∷ pieces) = (if piece.0 == cable then piece.1 else []) ++ on_cable cable pieces
