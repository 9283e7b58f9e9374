-- What holds of all streams, of which the bytes are listed newest first.
use Rattle.std.specs.Prelude.{◌≡◌, ◌≢◌, ℕ, ◌+◌, ◌*◌, ◌<◌, List, [], ◌∷◌, drop, length, map, reverse, None, Some, Result}
use Rattle.std.specs.List.{AllByRecursion, concat}
use Rattle.std.specs.Option.{option_map}
use Rattle.item_reader.specs.Cut.{IsCutInto}
use Rattle.item_reader.specs.declared.cutting.Tail.{Tail}
use Rattle.item_reader.specs.declared.cutting.Tail.TheVariants.{TooLong}
use Rattle.midi1_bytes.specs.Parsing.{idle, open_of}
use Rattle.midi1_bytes.specs.Steps.{completed, step_of}
use Rattle.midi_meaning.specs.StepListing.{kinds_at_end, line_up, open_pair}
use Rattle.midi_meaning.specs.UpRefusal.{AreStepsWithinRoom}
use Rattle.usb_midi1.specs.Events.{event_at, four_bytes}
use Rattle.usb_midi1.specs.Held.{packer_over, packer_after}
use Rattle.usb_midi1.specs.Packed.{Packs, PacksStep}
use Rattle.usb_midi1.specs.Packing.{exclusive_events, first_event, stream_events}
use Rattle.usb_midi1.specs.Split.{events_in, on_cable, split}
use Rattle.usb_midi1.specs.declared.event.Event.{Event}
use Rattle.usb_midi1.specs.declared.packed.Packed.{Packed}
use Rattle.usb_midi1.specs.declared.packed.TooLong as refused

-- A packer answers each byte by the definition that looks back over all the bytes before it, and holds what
-- they leave.
pub record PackedBytesAreTheDefinition : Type 0 where
  pub new : (room cable : ℕ) → packer_over room cable [] ≡ record { cable = cable; parsing = idle room }
  pub answer : (room cable : ℕ) (past : List ℕ) (byte : ℕ) (result : Result Packed refused.TooLong) →
      Packs (packer_over room cable past) (length past) byte result →
      PacksStep cable (length past) (step_of (Some room) past byte) result
  pub after : (room cable : ℕ) (past : List ℕ) (byte : ℕ) →
      packer_after (packer_over room cable past) (length past) byte ≡ packer_over room cable (byte ∷ past)
  pub end : (room cable : ℕ) (past : List ℕ) →
      map (line_up cable)
      (kinds_at_end (option_map (λ begun. (begun.start, begun.kind))
      (open_of (packer_over room cable past).parsing))) ≡
      map (line_up cable) (kinds_at_end (open_pair (Some room) past))

-- The events of an exclusive are, from each place on, the one that is cut there and then those of the bytes
-- after it.
pub record ExclusiveEventsComeInOrder : Type 0 where
  pub last : (cable : ℕ) (whole : List ℕ) (k : ℕ) → first_event cable (drop (3 * k) whole) ≡ None →
      exclusive_events cable (drop (3 * k) whole) ≡ []
  pub next : (cable : ℕ) (whole : List ℕ) (k : ℕ) (event : List ℕ) →
      first_event cable (drop (3 * k) whole) ≡ Some event →
      exclusive_events cable (drop (3 * k) whole) ≡ event ∷ exclusive_events cable (drop (3 * (k + 1)) whole)

-- The events that a stream within the limit is cut into are those of its bytes, four by four; what is left at
-- its end is no event.
abbrev pub EventsAreThoseOfTheBytes : Type 0
EventsAreThoseOfTheBytes =
    (limit : ℕ) (bytes : List ℕ) (items : List (Event × ℕ)) (tail : Tail) →
    IsCutInto four_bytes event_at limit bytes items tail → tail ≢ TooLong →
    events_in bytes ≡ map (λ item. item.0) items

-- All bytes that the events of a stream carry are on its cable. If no exclusive passes the room, these bytes
-- complete the messages that the stream completes, in the same order.
pub record SplitEventsMeanTheBytes : Type 0 where
  pub cable : (room cable : ℕ) (past : List ℕ) → cable < 16 →
      AllByRecursion (λ piece. piece.0 ≡ cable) (split (concat (stream_events (Some room) cable past)))
  pub messages : (room cable : ℕ) (past : List ℕ) → cable < 16 → AreStepsWithinRoom room past →
      completed (reverse (on_cable cable (split (concat (stream_events (Some room) cable past)))))
      ≡ completed past
