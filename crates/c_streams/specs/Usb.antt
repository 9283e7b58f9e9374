-- The packer of USB-MIDI 1.0 events, and what an event carries.
use Rattle.std.specs.Prelude.{◌≡◌, ℕ, ◌+◌, ◌*◌, ◌/◌, ◌==◌, Bool, true, false, List, length}
use Rattle.std.specs.List.{concat}
use Rattle.midi1_bytes.specs.Steps.{Step, completed_by}
use Rattle.usb_midi1.specs.Codes.{is_reserved}
use Rattle.usb_midi1.specs.Events.{carried_by, event_of}
use Rattle.usb_midi1.specs.Held.{PackerState, packer_after, step_in}
use Rattle.usb_midi1.specs.Packing.{events_by}
use Rattle.usb_midi1.specs.declared.event.Event.{Event}
use Rattle.c_answers.specs.Numbers.{number_of}
use Rattle.c_answers.specs.declared.status.Status.TheVariants as statuses
use Rattle.c_streams.specs.Readers.{Reader}
use Rattle.c_streams.specs.declared.usb.CarriedBytes.{CarriedBytes}

-- the events of the message that a step completes, four bytes each
abbrev pub packed : ℕ → Step → List ℕ
packed cable step = concat (events_by cable (completed_by step))

-- the number of bytes of the events of `size` bytes from F0 to F7
abbrev pub events_size : ℕ → ℕ
events_size size = 4 * ((size + 2) / 3)

-- the bytes of the events of the longest message: an exclusive of the limit with its F0 and F7
abbrev pub longest_events : ℕ → ℕ
longest_events room = events_size (room + 2)

-- the events of the message that a byte completes are written all at once
abbrev pub events : Reader PackerState
events =
    record {
      step = step_in;
      after = packer_after;
      written = λ packer step. packed packer.cable step;
      most = λ packer. longest_events packer.parsing.room;
    }

-- ---- what an event carries

abbrev pub carries : Bool → Event → ℕ → CarriedBytes → CarriedBytes → Type 0
carries true event status old new = (status ≡ number_of statuses.Nothing) × (new ≡ old)
carries false event status old new =
    (status ≡ number_of statuses.Done) × (new.cable ≡ event.cable) × (new.length ≡ length (carried_by event)) × (new.bytes ≡ event.bytes)

abbrev pub carries_four : Bool → List ℕ → ℕ → CarriedBytes → CarriedBytes → Type 0
carries_four false bytes status old new = (status ≡ number_of statuses.BadSize) × (new ≡ old)
carries_four true bytes status old new = let event = event_of bytes in carries (is_reserved event.code) event status old new

-- The cable of an event of four bytes, and the bytes that it carries, the first of its three; nothing if its
-- code is reserved.
abbrev pub IsCarried : List ℕ → ℕ → CarriedBytes → CarriedBytes → Type 0
IsCarried bytes status old new = carries_four (length bytes == 4) bytes status old new
