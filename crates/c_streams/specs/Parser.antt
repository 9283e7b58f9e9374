-- The parser of a MIDI 1.0 stream.
use Rattle.std.specs.Prelude.{ℕ, ◌+◌, List, [], Option, Some, None}
use Rattle.midi1_bytes.specs.Messages.{Message, spelled}
use Rattle.midi1_bytes.specs.Parsing.{Parsing, parse}
use Rattle.midi1_bytes.specs.Steps.{Step, completed_by}
use Rattle.c_streams.specs.Readers.{Reader}

-- the bytes of a message, with its status byte, if there is one
abbrev pub message_bytes : Option Message → List ℕ
message_bytes None = []
message_bytes (Some message) = spelled message

-- the bytes of the message that a step completes
abbrev pub message_in : Step → List ℕ
message_in step = message_bytes (completed_by step)

-- the bytes of the longest message: an exclusive of the limit with its F0 and F7
abbrev pub longest_message : ℕ → ℕ
longest_message room = room + 2

-- the message that a byte completes is written whole
abbrev pub messages : Reader Parsing
messages =
    record {
      step = λ parsing offset byte. (parse parsing offset byte).step;
      after = λ parsing offset byte. (parse parsing offset byte).after;
      written = λ parsing step. message_in step;
      most = λ parsing. longest_message parsing.room;
    }
