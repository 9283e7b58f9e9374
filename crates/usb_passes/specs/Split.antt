-- A stream of events that is split: what each event carries, in the lane of its cable, and the lines of those that carry nothing.
use Rattle.std.specs.Prelude.{◌≡◌, ℕ, true, false, if◌then◌else◌, List, [], ◌∷◌, ◌++◌, codes, decimal, reverse, None}
use Rattle.std.specs.List.{flat_map}
use Rattle.pass_loop.specs.Pass.{Work}
use Rattle.pass_loop.specs.Put.{Put, in_lane, in_notes, notes_in, pairs_in}
use Rattle.usb_midi1.specs.Codes.{is_reserved}
use Rattle.usb_midi1.specs.Events.{carried_by}
use Rattle.usb_midi1.specs.Split.{pieces_of}
use Rattle.usb_midi1.specs.declared.event.Event.{Event}
use Rattle.usb_passes.specs.Events.{events_of}

-- the line of an event whose code is reserved: its offset and its cable
abbrev pub reserved_text : ℕ → ℕ → List ℕ
reserved_text offset cable = decimal offset ++ codes " " ++ decimal cable ++ codes " reserved-event\n"

-- what is put for an event at an offset: what it carries, in the lane of its cable; or its line, if its code is reserved
abbrev pub event_puts : ℕ × Event → List Put
event_puts item =
    if is_reserved item.1.code then in_notes (reserved_text item.0 item.1.cable) ∷ []
    else in_lane item.1.cable (carried_by item.1) ∷ []

-- the lines of the events of which the code is reserved
abbrev pub reserved_lines : ℕ × Event → List ℕ
reserved_lines item = if is_reserved item.1.code then reserved_text item.0 item.1.cable else []

-- What is done with a stream that is split. No event is refused. The pairs that are put are what the events carry, in their order, and
-- the lines are those of the events that carry nothing.
abbrev pub splitting : Work (ℕ × Event)
splitting =
    record {
      names = record { lanes = true; output = false; notes = true };
      grows = false;
      refusal = λ past item. None;
      IsPut = λ past item puts. puts ≡ event_puts item;
      refusal_at_end = λ past. None;
      IsPutAtEnd = λ past puts. puts ≡ [];
      Means = λ past puts. (pairs_in puts ≡ flat_map pieces_of (events_of (reverse past)))
          × (notes_in puts ≡ flat_map reserved_lines (reverse past));
    }
