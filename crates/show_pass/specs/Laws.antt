-- What is left when all is shown, by the whole input.
use Rattle.std.specs.Prelude.{◌≡◌, ℕ, List, [], reverse, None, Some}
use Rattle.packet_words.specs.declared.words.Framed.{Framed}
use Rattle.ump_grammar.specs.declared.packet.Packet.{Packet}
use Rattle.pass_loop.specs.Bytes.{byte_cutting}
use Rattle.pass_loop.specs.Pass.{IsDone, Seen}
use Rattle.pass_loop.specs.Places.{with_more}
use Rattle.packet_input.specs.Packets.{packet_cutting}
use Rattle.show_pass.specs.Options.{ByteLineOptions, PacketLineOptions}
use Rattle.show_pass.specs.ShowBytes.{showing_bytes}
use Rattle.show_pass.specs.ShowPackets.{showing}
use Rattle.show_pass.specs.ShownLines.{shown_recording, shown_stream}

-- The input is cut into these packets. The output gained their lines, and those of what they mean, if they
-- are asked for.
pub record ShowsTheRecording (options : PacketLineOptions) (bytes : List ℕ) (old new : Seen) : Type 0 where
  pub items : List (Framed × Packet)
  pub cut : packet_cutting options.order bytes items None
  pub output : new.places.output ≡ with_more old.places.output (shown_recording options.state (reverse items))
  pub left : new.left ≡ Some []

-- The output gained the lines of the bytes of the input, and those of what they mean, if they are asked for.
pub record ShowsTheStream (options : ByteLineOptions) (bytes : List ℕ) (old new : Seen) : Type 0 where
  pub output : new.places.output ≡ with_more old.places.output (shown_stream options.room options.state (reverse bytes))
  pub left : new.left ≡ Some []

abbrev pub DoneShowsTheRecording : Type 0
DoneShowsTheRecording =
    (options : PacketLineOptions) (bytes : List ℕ) (old new : Seen) → old.left ≡ Some bytes →
    IsDone (packet_cutting options.order) (showing options) old new → ShowsTheRecording options bytes old new

abbrev pub DoneShowsTheStream : Type 0
DoneShowsTheStream =
    (options : ByteLineOptions) (bytes : List ℕ) (old new : Seen) → old.left ≡ Some bytes →
    IsDone byte_cutting (showing_bytes options) old new → ShowsTheStream options bytes old new
