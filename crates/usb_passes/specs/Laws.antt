-- What a pass that is done leaves, by the whole input.
use Rattle.std.specs.Prelude.{◌≡◌, ℕ, ◌+◌, if◌then◌else◌, List, [], ◌∷◌, ◌++◌, length, map, reverse, Some}
use Rattle.std.specs.List.{concat, flat_map}
use Rattle.midi1_bytes.specs.Steps.{step_of}
use Rattle.midi1_bytes.specs.Stream.{Room}
use Rattle.midi_meaning.specs.StepListing.{kinds_at_end, kinds_of_step, line_up, open_pair}
use Rattle.listing_terms.specs.declared.listed.Listed.{Listed}
use Rattle.text_lines.specs.ListingLines.{listing_text}
use Rattle.pass_loop.specs.Bytes.{byte_cutting}
use Rattle.pass_loop.specs.Pass.{IsDone, Seen}
use Rattle.pass_loop.specs.Places.{with_more}
use Rattle.usb_midi1.specs.Codes.{is_reserved}
use Rattle.usb_midi1.specs.Packing.{stream_events}
use Rattle.usb_midi1.specs.Split.{events_in, split}
use Rattle.usb_midi1.specs.declared.event.Event.{Event}
use Rattle.usb_passes.specs.Events.{event_cutting}
use Rattle.usb_passes.specs.Options.{PackOptions}
use Rattle.usb_passes.specs.Pack.{CarryTheMessages, packing}
use Rattle.usb_passes.specs.Split.{reserved_text, splitting}

-- the lines of events, the first of them at this offset
abbrev pub reserved_from : ℕ → List Event → List ℕ
reserved_from at [] = []
reserved_from at (event ∷ events) =
    (if is_reserved event.code then reserved_text at event.cable else []) ++ reserved_from (at + 4) events

-- the events of bytes, which are listed newest first, one after the other
abbrev pub events_of_stream : PackOptions → List ℕ → List ℕ
events_of_stream options past = concat (stream_events (Some options.room) options.cable past)

-- their lines
abbrev pub lines_of : Room → ℕ → List ℕ → List Listed
lines_of room cable [] = []
lines_of room cable (byte ∷ past) =
    lines_of room cable past ++ map (line_up cable) (kinds_of_step (step_of room past byte) (length past))

-- the lines of a whole stream, with that of what is open at its end
abbrev pub listing_of : PackOptions → List ℕ → List Listed
listing_of options past =
    lines_of (Some options.room) options.cable past
    ++ map (line_up options.cable) (kinds_at_end (open_pair (Some options.room) past))

-- The pairs are what the events of the input carry, and the notes tell of those that carry nothing.
pub record SplitsTheInput (bytes : List ℕ) (old new : Seen) : Type 0 where
  pub pieces : new.places.pieces ≡ with_more old.places.pieces (split bytes)
  pub notes : new.places.notes ≡ with_more old.places.notes (reserved_from 0 (events_in bytes))
  pub left : new.left ≡ Some []

-- The output gained the events of the input, which carry its messages, and the notes its lines.
pub record PacksTheInput (options : PackOptions) (bytes : List ℕ) (old new : Seen) : Type 0 where
  pub output : new.places.output ≡ with_more old.places.output (events_of_stream options (reverse bytes))
  pub messages : CarryTheMessages options.cable (reverse bytes) (events_of_stream options (reverse bytes))
  pub notes : new.places.notes
      ≡ with_more old.places.notes (flat_map listing_text (listing_of options (reverse bytes)))
  pub left : new.left ≡ Some []

abbrev pub DoneSplitsTheInput : Type 0
DoneSplitsTheInput =
    (bytes : List ℕ) (old new : Seen) → old.left ≡ Some bytes → IsDone event_cutting splitting old new →
    SplitsTheInput bytes old new

abbrev pub DonePacksTheInput : Type 0
DonePacksTheInput =
    (options : PackOptions) (bytes : List ℕ) (old new : Seen) → old.left ≡ Some bytes →
    IsDone byte_cutting (packing options) old new → PacksTheInput options bytes old new
