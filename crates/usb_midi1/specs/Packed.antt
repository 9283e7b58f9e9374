-- The outcome of a byte: its events, beside its lines of the listing.
use Rattle.std.specs.Prelude.{◌≡◌, ◌≢◌, ℕ, List, [], ◌∷◌, map, Option, Some, None, Result, Ok, Err}
use Rattle.std.specs.Option.{option_map}
use Rattle.midi1_bytes.specs.Answers.{framed}
use Rattle.midi1_bytes.specs.Messages.{Message, exclusive}
use Rattle.midi1_bytes.specs.Steps.{Step, completed_by, too_long}
use Rattle.midi_meaning.specs.StepListing.{kinds_of_step, line_up}
use Rattle.listing_terms.specs.ByteLines.{group_of, lines_in, IsInOrder}
use Rattle.usb_midi1.specs.Held.{PackerState, step_in}
use Rattle.usb_midi1.specs.Packing.{events_by, exclusive_events}
use Rattle.usb_midi1.specs.declared.packed.Packed.{Packed}
use Rattle.usb_midi1.specs.declared.packed.TooLong.{TooLong}

abbrev pub cable_in : Packed → ℕ
cable_in packed = group_of packed.lines

-- the exclusive from F0 to F7
abbrev pub whole_in : Packed → Option (List ℕ)
whole_in packed = option_map (λ whole. whole.now) packed.whole

-- the events of both
abbrev pub events_from : ℕ → Option (List ℕ) → Option (List ℕ) → List (List ℕ)
events_from cable None None = []
events_from cable (Some event) None = event ∷ []
events_from cable None (Some whole) = exclusive_events cable whole
events_from cable (Some event) (Some whole) = event ∷ exclusive_events cable whole

abbrev pub events_in : Packed → List (List ℕ)
events_in packed = events_from (cable_in packed) packed.event (whole_in packed)

abbrev pub AreApart : Option (List ℕ) → Option (List ℕ) → Type 0
AreApart (Some event) (Some whole) = ⊥
AreApart _ _ = Unit {0}

-- the exclusive from F0 to F7, if the message is one
abbrev pub whole_of : Option Message → Option (List ℕ)
whole_of (Some (exclusive bytes)) = Some (framed bytes)
whole_of _ = None

-- at most one of the two is there
abbrev pub IsApart : Packed → Type 0
IsApart packed = AreApart packed.event (whole_in packed)

-- ---- of a step

-- a step within the limit, with the packer's cable, the events of the message that it completes, a whole
-- exclusive by itself, and its lines in order
pub record IsPacked (cable offset : ℕ) (step : Step) (packed : Packed) : Type 0 where
  pub within : step ≢ too_long
  pub cabled : cable_in packed ≡ cable
  pub in_order : IsInOrder packed.lines
  pub apart : IsApart packed
  pub whole : whole_in packed ≡ whole_of (completed_by step)
  pub events : events_in packed ≡ events_by cable (completed_by step)
  pub lines : lines_in packed.lines ≡ map (line_up cable) (kinds_of_step step offset)

-- it is refused exactly if an exclusive exceeds the limit
abbrev pub PacksStep : ℕ → ℕ → Step → Result Packed TooLong → Type 0
PacksStep cable offset step (Ok packed) = IsPacked cable offset step packed
PacksStep cable offset step (Err refused) = step ≡ too_long

abbrev pub Packs : PackerState → ℕ → ℕ → Result Packed TooLong → Type 0
Packs packer offset byte result = PacksStep packer.cable offset (step_in packer offset byte) result
