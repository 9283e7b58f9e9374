-- A stream of bytes whose packets come down again: the pieces of the packets of each byte, and its lines; at the end the line of what
-- is open.
use Rattle.std.specs.Prelude.{◌≡◌, ℕ, Bool, false, ◌<◌, ◌≤◌, List, [], ◌∷◌, ◌++◌, reverse, take, None, Some}
use Rattle.std.specs.List.{flat_map}
use Rattle.ump_grammar.specs.declared.packet.Packet.{Packet}
use Rattle.ump_grammar.specs.Ranges.{IsPacket}
use Rattle.midi_meaning.specs.Back.{SameState, back, back_of_bytes}
use Rattle.midi_meaning.specs.Messages.{mean1}
use Rattle.midi_meaning.specs.Parts.{Placed, whole_of}
use Rattle.midi_meaning.specs.Plain.{plain_piece}
use Rattle.midi_meaning.specs.Raising.{packets_up}
use Rattle.midi_meaning.specs.StepListing.{lines_up}
use Rattle.midi_meaning.specs.Styles.{plain_style}
use Rattle.midi_meaning.specs.UpRefusal.{AreAcceptedUp}
use Rattle.text_lines.specs.ListingLines.{listing_text}
use Rattle.up_translator.specs.Held.{UpState}
use Rattle.up_translator.specs.Recording.{HoldsUp}
use Rattle.down_translator.specs.Held.{DownState, down_after, refusal_in}
use Rattle.down_translator.specs.Recording.{AreInRange, packets_of, state_of}
use Rattle.down_translator.specs.Step.{piece_of}
use Rattle.pass_loop.specs.Bytes.{bytes_read}
use Rattle.pass_loop.specs.Pass.{Work}
use Rattle.pass_loop.specs.Put.{Put, in_output, notes_in, output_in}
use Rattle.translation_passes.specs.Options.{BackOptions}
use Rattle.translation_passes.specs.Raised.{byte_lines, byte_packets, last_lines, refusal_at}
use Rattle.packet_input.specs.Written.{output_and_notes}

-- a piece is put in the output, unless it is empty
abbrev pub piece_puts : List ℕ → List Put
piece_puts [] = []
piece_puts (byte ∷ bytes) = in_output (byte ∷ bytes) ∷ []

module _ (paired : Bool) where
  -- the plain pieces of packets, in the order in which they come after others, which are the newest first
  abbrev pub plain_puts : List Packet → List Packet → List Put
  plain_puts past [] = []
  plain_puts past (packet ∷ packets) =
      piece_puts (plain_piece paired (whole_of past packet) packet) ++ plain_puts (packet ∷ past) packets

  -- the pieces of the packets of a byte
  abbrev pub byte_pieces : ℕ → ℕ → List (ℕ × ℕ) → ℕ × ℕ → List Put
  byte_pieces room group past item =
      plain_puts (reverse (packets_up paired (Some room) group (bytes_read past))) (byte_packets paired room group past item)

  -- after each of these bytes, the newest first, the pieces so far leave a receiver in the state in which the bytes so far leave it,
  -- registers aside
  abbrev pub ReturnedMean : ℕ → ℕ → List ℕ → Type 0
  ReturnedMean room group past =
      (count : ℕ) → SameState (mean1 paired (back_of_bytes paired (Some room) group (take count (reverse past))))
      (mean1 paired (take count (reverse past)))

  -- what accepted bytes mean, which is a law of the state of voices
  abbrev pub ReturnedBytesMean : ℕ → ℕ → Type 0
  ReturnedBytesMean room group = (past : List ℕ) → AreAcceptedUp (Some room) past → ReturnedMean room group past

  -- the translator down holds what all packets of these bytes leave, whatever their offsets
  pub record HoldsReturned (room group : ℕ) (past : List ℕ) (down : DownState) : Type 0 where
    pub placed : List Placed
    pub are : packets_of placed ≡ reverse (packets_up paired (Some room) group past)
    pub range : AreInRange placed
    pub down_is : down ≡ state_of paired plain_style room placed

-- What is done with a stream whose packets come down again. What is put in the output is the plain pieces of all packets; after each
-- byte the pieces so far mean what the bytes so far mean. The lines that are put are those of the listing of the bytes.
abbrev pub returning : BackOptions → Work (ℕ × ℕ)
returning options =
    record {
      names = output_and_notes;
      grows = false;
      refusal = λ past item. refusal_at options.room past item;
      IsPut =
          λ past item puts. puts
          ≡ byte_pieces options.paired options.room options.group past item
          ++ byte_lines options.paired options.room options.group past item;
      refusal_at_end = λ past. None;
      IsPutAtEnd = λ past puts. puts ≡ last_lines options.room options.group past;
      Means =
          λ past puts. (output_in puts ≡ back options.paired (Some options.room) options.group (bytes_read past))
          × ReturnedMean options.paired options.room options.group (bytes_read past)
          × (notes_in puts ≡ flat_map listing_text (lines_up options.paired (Some options.room) options.group (bytes_read past)));
    }

-- ---- by what the translator down holds

-- a packet that some words spell, and that isn't refused
abbrev pub ComesDown : DownState → Packet → Type 0
ComesDown from packet = IsPacket packet × (refusal_in from packet ≡ None)

-- its piece is put
abbrev pub PutsDown : ℕ → DownState → Packet → DownState → List Put → Type 0
PutsDown offset from packet to puts =
    (to ≡ down_after offset packet from) × (puts ≡ piece_puts (piece_of from packet))

-- ---- from the first to the last

-- the options of an engine
abbrev pub back_options : UpState → BackOptions
back_options up = record { paired = up.holding.paired; group = up.group; room = up.parsing.room }

-- both translators hold what these bytes leave, which are accepted
pub record HoldsBack (options : BackOptions) (up : UpState) (down : DownState) (past : List (ℕ × ℕ)) : Type 0 where
  pub few : options.group < 16
  pub least : 6 ≤ options.room
  pub law : ReturnedBytesMean options.paired options.room options.group
  pub accepted : AreAcceptedUp (Some options.room) (bytes_read past)
  pub holds_up : HoldsUp options.paired options.room options.group (bytes_read past) up
  pub holds_down : HoldsReturned options.paired options.room options.group (bytes_read past) down
