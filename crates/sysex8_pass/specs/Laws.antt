-- What a join that is done leaves, by the whole input.
use Rattle.std.specs.Prelude.{◌≡◌, ℕ, List, [], ◌++◌, reverse, None, Some}
use Rattle.std.specs.List.{flat_map}
use Rattle.packet_words.specs.declared.words.Framed.{Framed}
use Rattle.ump_grammar.specs.declared.packet.Packet.{Packet}
use Rattle.pass_loop.specs.Pass.{IsDone, Seen}
use Rattle.pass_loop.specs.Places.{with_more}
use Rattle.packet_input.specs.Packets.{packet_cutting}
use Rattle.sysex8_pass.specs.Completed.{completed8, piece_of}
use Rattle.sysex8_pass.specs.Joining.{CompleteAlone, joining}
use Rattle.sysex8_pass.specs.Listing.{lines_of, open_lines}
use Rattle.sysex8_pass.specs.Options.{Sysex8Options}
use Rattle.sysex8_pass.specs.Parts.{open_since, parts_at}

-- The input is cut into packets, and `past` is these, the newest first. The lanes gained the bytes of the exclusives
-- that they complete, and the notes their lines, and after these one for each exclusive that is open after the last
-- packet, by group, then stream.
pub record JoinsTheInput (options : Sysex8Options) (bytes : List ℕ) (old new : Seen) : Type 0 where
  pub past : List (Framed × Packet)
  pub cut : packet_cutting options.order bytes (reverse past) None
  pub pieces : new.places.pieces
      ≡ with_more old.places.pieces (flat_map piece_of (completed8 options.slots options.room (parts_at past)))
  pub alone : CompleteAlone options.slots options.room (parts_at past)
  pub notes : new.places.notes
      ≡ with_more old.places.notes
      (lines_of options.slots options.room past
      ++ open_lines (open_since options.slots options.room (parts_at past)))
  pub left : new.left ≡ Some []

abbrev pub DoneJoinsTheInput : Type 0
DoneJoinsTheInput =
    (options : Sysex8Options) (bytes : List ℕ) (old new : Seen) → old.left ≡ Some bytes →
    IsDone (packet_cutting options.order) (joining options) old new → JoinsTheInput options bytes old new
