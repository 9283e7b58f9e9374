-- What a pass that is done leaves, by the whole input.
use Rattle.std.specs.Prelude.{◌≡◌, ℕ, List, [], map, take, None, Some}
use Rattle.std.specs.List.{flat_map}
use Rattle.packet_words.specs.declared.words.Framed.{Framed}
use Rattle.ump_grammar.specs.declared.packet.Packet.{Packet}
use Rattle.midi_meaning.specs.Agreement.{Agrees}
use Rattle.midi_meaning.specs.Back.{SameState, back_of_bytes}
use Rattle.midi_meaning.specs.Listing.{listing_of}
use Rattle.midi_meaning.specs.Messages.{mean1}
use Rattle.midi_meaning.specs.Packets.{mean2}
use Rattle.midi_meaning.specs.Raising.{packets_of_bytes}
use Rattle.midi_meaning.specs.StepListing.{listing_of_bytes}
use Rattle.midi_meaning.specs.Styles.{styled_pairs}
use Rattle.midi_meaning.specs.Translation.{IsTranslation}
use Rattle.text_lines.specs.ListingLines.{listing_text}
use Rattle.pass_loop.specs.Bytes.{byte_cutting}
use Rattle.pass_loop.specs.Pass.{IsDone, Seen}
use Rattle.pass_loop.specs.Places.{with_more}
use Rattle.pass_loop.specs.Put.{Put, output_in}
use Rattle.packet_input.specs.Packets.{packet_cutting}
use Rattle.packet_input.specs.Placed.{all_placed}
use Rattle.packet_input.specs.Written.{AreWritten}
use Rattle.translation_passes.specs.Back.{returning}
use Rattle.translation_passes.specs.Down.{carrying}
use Rattle.translation_passes.specs.Options.{BackOptions, DownOptions, UpOptions}
use Rattle.translation_passes.specs.Up.{raising}

-- ---- packets

-- the packets of items, in their order
abbrev pub packets_in : List (Framed × Packet) → List Packet
packets_in items = map (λ item. item.1) items

-- The input is cut into these packets. The lanes gained their pairs in the style, which are a translation of them, and the notes the
-- lines of their listing.
pub record CarriesTheInput (options : DownOptions) (bytes : List ℕ) (old new : Seen) : Type 0 where
  pub items : List (Framed × Packet)
  pub cut : packet_cutting options.order bytes items None
  pub pieces : new.places.pieces ≡ with_more old.places.pieces (styled_pairs options.paired options.style (packets_in items))
  pub translation : IsTranslation options.paired (packets_in items) (styled_pairs options.paired options.style (packets_in items))
  pub notes : new.places.notes
      ≡ with_more old.places.notes (flat_map listing_text (listing_of options.paired (Some options.room) (all_placed items)))
  pub left : new.left ≡ Some []

-- ---- bytes

-- The output gained the words of the packets to which the bytes of the input are raised: after each byte the packets so far mean what the
-- bytes so far mean. The notes gained the lines of the listing of the input.
pub record RaisesTheInput (options : UpOptions) (bytes : List ℕ) (old new : Seen) : Type 0 where
  pub written : List Put
  pub packets : AreWritten options.order (packets_of_bytes options.paired (Some options.room) options.group bytes) written
  pub output : new.places.output ≡ with_more old.places.output (output_in written)
  pub agrees : (count : ℕ) → Agrees options.paired (mean1 options.paired (take count bytes))
      (mean2 options.paired (packets_of_bytes options.paired (Some options.room) options.group (take count bytes)) options.group)
  pub notes : new.places.notes
      ≡ with_more old.places.notes
      (flat_map listing_text (listing_of_bytes options.paired (Some options.room) options.group bytes))
  pub left : new.left ≡ Some []

-- The output gained the plain pieces of the packets to which the bytes of the input are raised: after each byte the pieces so far mean what
-- the bytes so far mean. The notes gained the lines of the listing of the input.
pub record ReturnsTheInput (options : BackOptions) (bytes : List ℕ) (old new : Seen) : Type 0 where
  pub output : new.places.output
      ≡ with_more old.places.output (back_of_bytes options.paired (Some options.room) options.group bytes)
  pub same : (count : ℕ) →
      SameState (mean1 options.paired (back_of_bytes options.paired (Some options.room) options.group (take count bytes)))
      (mean1 options.paired (take count bytes))
  pub notes : new.places.notes
      ≡ with_more old.places.notes
      (flat_map listing_text (listing_of_bytes options.paired (Some options.room) options.group bytes))
  pub left : new.left ≡ Some []

-- ---- each pass

abbrev pub DoneCarriesTheInput : Type 0
DoneCarriesTheInput =
    (options : DownOptions) (bytes : List ℕ) (old new : Seen) → old.left ≡ Some bytes →
    IsDone (packet_cutting options.order) (carrying options) old new → CarriesTheInput options bytes old new

abbrev pub DoneRaisesTheInput : Type 0
DoneRaisesTheInput =
    (options : UpOptions) (bytes : List ℕ) (old new : Seen) → old.left ≡ Some bytes →
    IsDone byte_cutting (raising options) old new → RaisesTheInput options bytes old new

abbrev pub DoneReturnsTheInput : Type 0
DoneReturnsTheInput =
    (options : BackOptions) (bytes : List ℕ) (old new : Seen) → old.left ≡ Some bytes →
    IsDone byte_cutting (returning options) old new → ReturnsTheInput options bytes old new
