-- A stream of bytes that is raised: the words of the packets of each byte, and its lines; at the end the line of what is open.
use Rattle.std.specs.Prelude.{◌≡◌, ℕ, Bool, false, ◌<◌, List, reverse, take, None, Some}
use Rattle.std.specs.List.{flat_map}
use Rattle.packet_words.specs.declared.words.Order.{Order}
use Rattle.midi_meaning.specs.Agreement.{Agrees}
use Rattle.midi_meaning.specs.Messages.{mean1}
use Rattle.midi_meaning.specs.Packets.{mean2}
use Rattle.midi_meaning.specs.Raising.{packets_of_bytes, packets_up}
use Rattle.midi_meaning.specs.StepListing.{lines_up}
use Rattle.midi_meaning.specs.UpRefusal.{AreAcceptedUp}
use Rattle.text_lines.specs.ListingLines.{listing_text}
use Rattle.up_translator.specs.Held.{UpState}
use Rattle.up_translator.specs.Recording.{HoldsUp}
use Rattle.pass_loop.specs.Bytes.{bytes_read}
use Rattle.pass_loop.specs.Pass.{Work}
use Rattle.pass_loop.specs.Put.{notes_in}
use Rattle.translation_passes.specs.Options.{UpOptions}
use Rattle.translation_passes.specs.Raised.{byte_lines, byte_packets, last_lines, output_puts, refusal_at}
use Rattle.packet_input.specs.Written.{AreWritten, AreWrittenAndListed, output_and_notes}

module _ (paired : Bool) where
  -- after each of these bytes, the newest first, the packets so far mean what the bytes so far mean
  abbrev pub RaisedMean : ℕ → ℕ → List ℕ → Type 0
  RaisedMean room group past =
      (count : ℕ) → Agrees paired (mean1 paired (take count (reverse past)))
      (mean2 paired (packets_of_bytes paired (Some room) group (take count (reverse past))) group)

  -- what accepted bytes mean, which is a law of the state of voices
  abbrev pub RaisedBytesMean : ℕ → ℕ → Type 0
  RaisedBytesMean room group = (past : List ℕ) → AreAcceptedUp (Some room) past → RaisedMean room group past

-- What is done with a stream that is raised. What is put in the output is the words of all packets; after each byte the packets so
-- far mean what the bytes so far mean. The lines that are put are those of the listing of the bytes.
abbrev pub raising : UpOptions → Work (ℕ × ℕ)
raising options =
    record {
      names = output_and_notes;
      grows = false;
      refusal = λ past item. refusal_at options.room past item;
      IsPut = λ past item puts.
          AreWrittenAndListed options.order (byte_packets options.paired options.room options.group past item)
          (byte_lines options.paired options.room options.group past item) puts;
      refusal_at_end = λ past. None;
      IsPutAtEnd = λ past puts. puts ≡ last_lines options.room options.group past;
      Means = λ past puts.
          AreWritten options.order (packets_up options.paired (Some options.room) options.group (bytes_read past))
          (output_puts puts) × RaisedMean options.paired options.room options.group (bytes_read past)
          × (notes_in puts ≡ flat_map listing_text (lines_up options.paired (Some options.room) options.group (bytes_read past)));
    }

-- the options of an engine
abbrev pub up_options : UpState → Order → UpOptions
up_options up order = record { paired = up.holding.paired; group = up.group; order = order; room = up.parsing.room }

-- the translator holds what these bytes leave, which are accepted
pub record HoldsRaised (options : UpOptions) (up : UpState) (past : List (ℕ × ℕ)) : Type 0 where
  pub few : options.group < 16
  pub law : RaisedBytesMean options.paired options.room options.group
  pub accepted : AreAcceptedUp (Some options.room) (bytes_read past)
  pub holds : HoldsUp options.paired options.room options.group (bytes_read past) up
