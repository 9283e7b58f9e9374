-- A stream of MIDI 1.0 bytes that is packed: the events of each byte, and its lines; at the end the line of what is open.
use Rattle.std.specs.Prelude.{◌≡◌, ℕ, false, true, ◌<◌, List, ◌++◌, map, reverse, None, Some}
use Rattle.std.specs.List.{AllByRecursion, concat}
use Rattle.midi1_bytes.specs.Steps.{Step, completed, completed_by, step_of}
use Rattle.midi_meaning.specs.StepListing.{kinds_at_end, kinds_of_step, line_up, open_pair}
use Rattle.midi_meaning.specs.UpRefusal.{AreStepsWithinRoom}
use Rattle.listing_terms.specs.declared.listed.Kind.{Kind}
use Rattle.pass_loop.specs.Bytes.{bytes_read}
use Rattle.pass_loop.specs.Pass.{Work}
use Rattle.pass_loop.specs.Put.{Put, in_output, output_in}
use Rattle.listing_lines.specs.Lines.{line_puts}
use Rattle.listing_lines.specs.Refusal.{refusal_of}
use Rattle.usb_midi1.specs.Held.{PackerState, packer_over}
use Rattle.usb_midi1.specs.Laws.{SplitEventsMeanTheBytes}
use Rattle.usb_midi1.specs.Packing.{events_by, stream_events}
use Rattle.usb_midi1.specs.Split.{on_cable, split}
use Rattle.usb_passes.specs.Options.{PackOptions}

-- the puts of events, each by itself
abbrev pub event_puts : List (List ℕ) → List Put
event_puts events = map in_output events

-- the events of the message that a step completes, and then the lines of the step at this offset
abbrev pub packed_puts : ℕ → Step → ℕ → List Put
packed_puts cable step offset =
    event_puts (events_by cable (completed_by step))
    ++ line_puts (map (line_up cable) (kinds_of_step step offset))

-- the line of what is open, by its start and kind
abbrev pub open_lines : ℕ → List (Kind × ℕ) → List Put
open_lines cable kinds = line_puts (map (line_up cable) kinds)

-- What the events of this output carry is all on the cable, and completes the messages that these bytes, the newest first, complete.
abbrev pub CarryTheMessages : ℕ → List ℕ → List ℕ → Type 0
CarryTheMessages cable past output =
    AllByRecursion (λ piece. piece.0 ≡ cable) (split output)
    × (completed (reverse (on_cable cable (split output))) ≡ completed past)

-- What is done with a stream that is packed. What is put in the output is the events of all bytes, in their order; they carry the
-- messages of the stream.
abbrev pub packing : PackOptions → Work (ℕ × ℕ)
packing options =
    record {
      names = record { lanes = false; output = true; notes = true };
      grows = false;
      refusal = λ past item. refusal_of (step_of (Some options.room) (bytes_read past) item.1) item.0;
      IsPut = λ past item puts.
          puts ≡ packed_puts options.cable (step_of (Some options.room) (bytes_read past) item.1) item.0;
      refusal_at_end = λ past. None;
      IsPutAtEnd = λ past puts.
          puts ≡ open_lines options.cable (kinds_at_end (open_pair (Some options.room) (bytes_read past)));
      Means = λ past puts.
          (output_in puts ≡ concat (stream_events (Some options.room) options.cable (bytes_read past)))
          × CarryTheMessages options.cable (bytes_read past) (output_in puts);
    }

-- the options of an engine
abbrev pub pack_options : PackerState → PackOptions
pack_options packer = record { cable = packer.cable; room = packer.parsing.room }

-- the packer holds what these bytes leave, of which none passed the room
pub record HoldsPacked (options : PackOptions) (packer : PackerState) (past : List (ℕ × ℕ)) : Type 0 where
  pub few : options.cable < 16
  pub law : SplitEventsMeanTheBytes
  pub within : AreStepsWithinRoom options.room (bytes_read past)
  pub packer_is : packer ≡ packer_over options.room options.cable (bytes_read past)
