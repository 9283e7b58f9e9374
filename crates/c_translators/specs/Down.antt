-- What the translator down answers, into the caller's buffer.
use Rattle.std.specs.Prelude.{◌≡◌, nat_lt, ◌+◌, max, ℕ, Bool, true, false, List, length, slice_set, Option, Some, None, Result, Ok, Err}
use Rattle.std.specs.Option.{option_map}
use Rattle.sysex_groups.specs.Table.{Table, begun_in}
use Rattle.ump_grammar.specs.Ranges.{IsPacket}
use Rattle.ump_grammar.specs.Reason.{reason}
use Rattle.ump_grammar.specs.Spelling.{Spells}
use Rattle.ump_grammar.specs.declared.packet.Bad.{Bad}
use Rattle.ump_grammar.specs.declared.packet.Packet.{Packet}
use Rattle.midi_meaning.specs.declared.listed.BadStep.{BadStep}
use Rattle.midi_meaning.specs.declared.listed.BadStep.TheVariants as bad
use Rattle.midi_meaning.specs.Listing.{is_carried, listed}
use Rattle.midi_meaning.specs.Parts.{group_of}
use Rattle.down_translator.specs.Held.{DownState, begun_at_in, down_after, limit_of, paired_of, refusal_in, whole_in}
use Rattle.down_translator.specs.Step.{lane_of, piece_of}
use Rattle.c_answers.specs.Fronts.{with_front}
use Rattle.c_answers.specs.Numbers.{number_of}
use Rattle.c_answers.specs.Refusals.{status_of_bad, status_of_step}
use Rattle.c_answers.specs.Whole.{is_whole}
use Rattle.c_answers.specs.declared.status.Status.{Status}
use Rattle.c_answers.specs.declared.status.Status.TheVariants as statuses
use Rattle.c_translators.specs.Pieces.{needing, no_piece, piece_shown}
use Rattle.c_translators.specs.declared.piece.Piece.{Piece}

-- The size of a buffer that takes the piece of any packet: an exclusive of this limit with its F0 and F7, or
-- four messages of three bytes.
abbrev pub most_bytes_of : ℕ → ℕ
most_bytes_of room = max (room + 2) 12

abbrev pub most_bytes : DownState → ℕ
most_bytes state = most_bytes_of (limit_of state)

-- ---- one packet

-- the group has no exclusive open from now on
abbrev pub without_begun : Option ℕ → Table → Table
without_begun None table = table
without_begun (Some group) table = record { room = table.room; groups = slice_set table.groups group None }

-- the state after a packet that is refused: only an exclusive that is too long is dropped
abbrev pub after_refused : BadStep → Option ℕ → DownState → DownState
after_refused bad.ExclusiveTooLong group state = record { exclusives = without_begun group state.exclusives; lanes = state.lanes }
after_refused _ group state = state

-- a packet's piece, with its lane and its line
abbrev pub shown_of : DownState → ℕ → Packet → Piece
shown_of state offset packet =
    piece_shown (length (piece_of state packet)) (lane_of (group_of packet) (is_carried (paired_of state) (whole_in state packet) packet))
    (listed (paired_of state) (begun_at_in state packet) offset packet)

-- a packet that is accepted, with its piece; its bytes are at the front of the buffer
pub record IsAccepted (state : DownState) (offset : ℕ) (packet : Packet) (old : List ℕ) (piece : Piece) (new : List ℕ) : Type 0 where
  pub accepted : refusal_in state packet ≡ None
  pub shown : piece ≡ shown_of state offset packet
  pub front : new ≡ with_front (piece_of state packet) old

-- one that is refused leaves the buffer
abbrev pub IsCarried : DownState → ℕ → Packet → List ℕ → Result Piece BadStep → List ℕ → Type 0
IsCarried state offset packet old (Ok piece) new = IsAccepted state offset packet old piece new
IsCarried state offset packet old (Err why) new = (refusal_in state packet ≡ Some why) × (new ≡ old)

-- the answer, with the piece that is written if it is done
abbrev pub with_piece : {E : Type 0} → Result (Unit {0}) E → Piece → Result Piece E
with_piece (Ok done) piece = Ok piece
with_piece (Err why) piece = Err why

-- ---- words

-- why no packet has these words
abbrev pub Unread : Bool → Option Bad → Status → Type 0
Unread false reason why = why ≡ statuses.BadWordCount
Unread true (Some bad) why = why ≡ status_of_bad bad
Unread true None why = ⊥

-- these words encode this packet
pub record Reads (words : List ℕ) (packet : Packet) : Type 0 where
  pub whole : is_whole words ≡ true
  pub fine : reason words ≡ None
  pub spelled : Spells packet words
  pub fits : IsPacket packet

abbrev pub IsRead : List ℕ → Result Packet Status → Type 0
IsRead words (Ok packet) = Reads words packet
IsRead words (Err why) = Unread (is_whole words) (reason words) why

-- these words are of a packet that is accepted, and the state after it
pub record IsTaken (state : DownState) (offset : ℕ) (words : List ℕ) (packet : Packet) (piece : Piece) (after : DownState) : Type 0 where
  pub read : Reads words packet
  pub accepted : refusal_in state packet ≡ None
  pub shown : piece ≡ shown_of state offset packet
  pub held : after ≡ down_after offset packet state

-- or of one that is refused
pub record IsUntaken (state : DownState) (words : List ℕ) (why : Status) (after : DownState) : Type 0 where
  pub packet : Packet
  pub step : BadStep
  pub read : Reads words packet
  pub refused : refusal_in state packet ≡ Some step
  pub why_is : why ≡ status_of_step step
  pub held : after ≡ after_refused step (group_of packet) state

-- words that no packet has leave the translator as it was
abbrev pub Refuses : Bool → Option Bad → DownState → List ℕ → Status → DownState → Type 0
Refuses true None state words why after = IsUntaken state words why after
Refuses whole reason state words why after = Unread whole reason why × (after ≡ state)

abbrev pub IsTakenOrRefused : DownState → ℕ → List ℕ → List ℕ → Result Piece Status → List ℕ → DownState → Type 0
IsTakenOrRefused state offset words old (Ok piece) new after =
    (packet : Packet) × IsTaken state offset words packet piece after × (new ≡ with_front (piece_of state packet) old)
IsTakenOrRefused state offset words old (Err why) new after =
    Refuses (is_whole words) (reason words) state words why after × (new ≡ old)

-- ---- the call

-- the status and the piece of a packet that is taken, or refused
abbrev pub Shows : Result Piece Status → ℕ → Piece → Type 0
Shows (Ok shown) status piece = (status ≡ number_of statuses.Done) × (piece ≡ shown)
Shows (Err why) status piece = (status ≡ number_of why) × (piece ≡ no_piece)

abbrev pub answers : Bool → DownState → ℕ → List ℕ → List ℕ → ℕ → Piece → List ℕ → DownState → Type 0
answers true state offset words old status piece new after =
    (status ≡ number_of statuses.SmallBuffer) × (piece ≡ needing (most_bytes state)) × (new ≡ old) × (after ≡ state)
answers false state offset words old status piece new after =
    (result : Result Piece Status) × IsTakenOrRefused state offset words old result new after × Shows result status piece

-- The words come at an offset. If the buffer may be too small, they are refused before anything is taken;
-- otherwise they are taken or refused.
abbrev pub IsAnswered : DownState → ℕ → List ℕ → List ℕ → ℕ → Piece → List ℕ → DownState → Type 0
IsAnswered state offset words old status piece new after =
    answers (nat_lt (length old) (most_bytes state)) state offset words old status piece new after

-- ---- what is open

abbrev pub begins : Bool → Option ℕ → ℕ → ℕ → ℕ → Type 0
begins false start old status new = (status ≡ number_of statuses.BadGroup) × (new ≡ old)
begins true None old status new = (status ≡ number_of statuses.Nothing) × (new ≡ old)
begins true (Some start) old status new = (status ≡ number_of statuses.Done) × (new ≡ start)

-- the start of the exclusive that a group has open
abbrev pub HasBegun : DownState → ℕ → ℕ → ℕ → ℕ → Type 0
HasBegun state group old status new =
    begins (nat_lt group 16) (option_map (λ begun. begun.start) (begun_in state.exclusives group)) old status new
