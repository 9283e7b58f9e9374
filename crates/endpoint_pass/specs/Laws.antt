-- What a pass that is done leaves, by the whole input.
use Rattle.std.specs.Prelude.{◌≡◌, ℕ, List, [], ◌++◌, reverse, None, Some}
use Rattle.packet_words.specs.declared.words.Framed.{Framed}
use Rattle.ump_grammar.specs.declared.packet.Packet.{Packet}
use Rattle.pass_loop.specs.Pass.{IsDone, Seen}
use Rattle.pass_loop.specs.Places.{with_more}
use Rattle.pass_loop.specs.Put.{notes_in}
use Rattle.packet_input.specs.Packets.{packet_cutting}
use Rattle.packet_input.specs.Placed.{all_placed}
use Rattle.endpoint_pass.specs.Answering.{AreBytesOf, answering, closing_lines, packet_lines_over, replies_over}
use Rattle.endpoint_pass.specs.Options.{EndpointOptions}

-- The input is cut into packets, and `past` is these, the newest first. The output gained the words of the replies to all of them, in their
-- order, and the notes all their lines and then the closing lines.
pub record AnswersTheInput (options : EndpointOptions) (bytes : List ℕ) (old new : Seen) : Type 0 where
  pub past : List (Framed × Packet)
  pub cut : packet_cutting options.order bytes (reverse past) None
  pub replies : List ℕ
  pub are_replies : AreBytesOf options (replies_over options.setup options.room (all_placed past)) replies
  pub output : new.places.output ≡ with_more old.places.output replies
  pub notes : new.places.notes
      ≡ with_more old.places.notes
      (packet_lines_over options.setup options.room (all_placed past)
      ++ notes_in (closing_lines options.setup options.room (all_placed past)))
  pub left : new.left ≡ Some []

abbrev pub DoneAnswersTheInput : Type 0
DoneAnswersTheInput =
    (options : EndpointOptions) (bytes : List ℕ) (old new : Seen) → old.left ≡ Some bytes →
    IsDone (packet_cutting options.order) (answering options) old new → AnswersTheInput options bytes old new
