-- How far a call over many packets came, and what it leaves.
use Rattle.std.specs.Prelude.{◌≡◌, ◌≤◌, nat_lt, ℕ, Bool, true, false, List, [], ◌∷◌, length, slice_index, take, Result, Ok, Err}
use Rattle.packet_words.specs.Words.{words_asked}
use Rattle.ump_grammar.specs.Reason.{reason}
use Rattle.ump_grammar.specs.declared.packet.Packet.{Packet}
use Rattle.down_translator.specs.Held.{DownState}
use Rattle.down_translator.specs.Step.{piece_of}
use Rattle.c_answers.specs.Blocks.{Taking}
use Rattle.c_answers.specs.Blocks as blocks
use Rattle.c_answers.specs.Whole.{is_whole}
use Rattle.c_answers.specs.declared.block.Block.{Block}
use Rattle.c_answers.specs.declared.status.Status.{Status}
use Rattle.c_answers.specs.declared.status.Status.TheVariants as statuses
use Rattle.c_translators.specs.Down.{IsTaken, IsTakenOrRefused, Refuses, most_bytes}
use Rattle.c_translators.specs.declared.piece.Piece.{Piece}

-- one packet that is accepted, with its bytes and its piece
pub record TakesPacket (held : DownState) (offset : ℕ) (words bytes : List ℕ) (pieces : List Piece) (after : DownState) : Type 0 where
  pub packet : Packet
  pub piece : Piece
  pub taken : IsTaken held offset words packet piece after
  pub bytes_are : bytes ≡ piece_of held packet
  pub pieces_are : pieces ≡ piece ∷ []

-- one that is refused
abbrev pub RefusesPacket : DownState → ℕ → List ℕ → Status → DownState → Type 0
RefusesPacket held offset words why after = Refuses (is_whole words) (reason words) held words why after

-- ---- the packet at the front

-- the first two words are those of a packet, and it is taken
pub record IsPairTaken (state : DownState) (offset : ℕ) (words old : List ℕ) (piece : Piece) (new : List ℕ) (after : DownState) : Type 0 where
  pub two : words_asked (slice_index words 0) ≡ 2
  pub there : 2 ≤ length words
  pub taken : IsTakenOrRefused state offset (take 2 words) old (Ok piece) new after

-- The words at the front aren't all there, and nothing changes; or they are refused.
abbrev pub is_front_refused : Bool → DownState → ℕ → List ℕ → List ℕ → ℕ → Status × ℕ → Piece → List ℕ → DownState → Type 0
is_front_refused true state offset words old count refused piece new after =
    (refused ≡ (statuses.BadWordCount, 0)) × (new ≡ old) × (after ≡ state)
is_front_refused false state offset words old count refused piece new after =
    (refused.1 ≡ count) × IsTakenOrRefused state offset (take count words) old (Err refused.0) new after

-- The packet at the front of the words is taken, with the number of its words; or it isn't, with the status and
-- the number of words that are refused.
abbrev pub IsFrontTaken : DownState → ℕ → List ℕ → List ℕ → Result ℕ (Status × ℕ) → Piece → List ℕ → DownState → Type 0
IsFrontTaken state offset words old (Ok count) piece new after =
    (count ≡ words_asked (slice_index words 0)) × (count ≤ length words)
    × IsTakenOrRefused state offset (take count words) old (Ok piece) new after
IsFrontTaken state offset words old (Err refused) piece new after =
    let count = words_asked (slice_index words 0) in
    is_front_refused (nat_lt (length words) count) state offset words old count refused piece new after

-- ---- many packets

-- A packet has the number of words of its first word's message type, and each adds 4 to the offset.
abbrev pub packets : Taking DownState Piece
packets =
    record { size_of = words_asked; step = 4; Takes = TakesPacket; Refuses = RefusesPacket; most_written = most_bytes; most_items = 1 }

abbrev pub AreTaken : DownState → ℕ → List ℕ → List ℕ → List Piece → ℕ → Block → List ℕ → List Piece → DownState → Type 0
AreTaken state offset words old old_pieces status block new pieces after =
    blocks.AreTaken packets state offset words old old_pieces status block new pieces after
