-- What a packet that goes down becomes, as a caller gets it.
use Rattle.std.specs.Prelude.{ℕ, Option, Some, None}
use Rattle.midi_meaning.specs.declared.listed.Listed.{Listed}
use Rattle.c_answers.specs.Numbers.{kind_number}
use Rattle.c_translators.specs.declared.piece.Piece.{Piece}

-- the piece of a packet that isn't taken, since the buffer is too small; one of this size does
abbrev pub needing : ℕ → Piece
needing size = record { written = 0; need = size; offset = 0; lane = 0; kind = 0; group = 255 }

-- no bytes and no line
abbrev pub no_piece : Piece
no_piece = needing 0

abbrev pub group_shown : Option ℕ → ℕ
group_shown None = 255
group_shown (Some group) = group

-- the piece of a packet, by the number of its bytes, their lane and its line
abbrev pub piece_shown : ℕ → ℕ → Option Listed → Piece
piece_shown count lane None = record { written = count; need = 0; offset = 0; lane = lane; kind = 0; group = 255 }
piece_shown count lane (Some line) =
    record { written = count; need = 0; offset = line.offset; lane = lane; kind = kind_number line.kind; group = group_shown line.group }
