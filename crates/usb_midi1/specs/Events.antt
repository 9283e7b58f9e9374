-- A stream of USB-MIDI 1.0 events (USB Device Class Definition for MIDI Devices 1.0, event packets), each of
-- four bytes: the cable in the high half of the first, the code in its low half, then three places for bytes.
use Rattle.std.specs.Prelude.{ℕ, ◌/◌, ◌%◌, List, [], ◌∷◌, slice_index, take, refl}
use Rattle.std.proofs.Common.{lit<, lit≤}
use Rattle.std.proofs.Math.Nat.{le_refl}
use Rattle.item_reader.specs.Cut.{IsLength}
use Rattle.item_reader.specs.Reading.{Reading, new_reading}
use Rattle.usb_midi1.specs.Codes.{carried_count}
use Rattle.usb_midi1.specs.declared.event.EachEvent.{EachEvent}
use Rattle.usb_midi1.specs.declared.event.Event.{Event}

-- an item is four bytes
abbrev pub four_bytes : List ℕ → ℕ
four_bytes bytes = 4

pub event_length : IsLength four_bytes
event_length =
    record { head = 4; some = lit< tt; least = λ bytes. le_refl 4; most = λ bytes. lit≤ tt; told = λ front more enough. refl }

-- the event of four bytes
abbrev pub event_of : List ℕ → Event
event_of chunk =
    record {
      cable = slice_index chunk 0 / 16 % 16;
      code = slice_index chunk 0 % 16;
      bytes = slice_index chunk 1 ∷ slice_index chunk 2 ∷ slice_index chunk 3 ∷ [];
    }

-- the event and its offset
abbrev pub event_at : ℕ → List ℕ → Event × ℕ
event_at at chunk = (event_of chunk, at)

abbrev pub each_event : EachEvent
each_event = record {}

-- a reader of events that has taken nothing
abbrev pub new_events : ℕ → Reading EachEvent
new_events limit = new_reading each_event limit

-- the bytes that it carries, as many of its first as its code says
abbrev pub carried_by : Event → List ℕ
carried_by event = take (carried_count event.code) event.bytes
