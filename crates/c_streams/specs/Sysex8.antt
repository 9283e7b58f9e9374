-- What the join of 8-bit exclusives answers, into the caller's buffers.
use Rattle.std.specs.Prelude.{◌≡◌, ◌==◌, ℕ, nat_lt, ◌&&◌, not, Bool, true, false, List, [], ◌∷◌, length, Option, Some, None}
use Rattle.std.specs.Option.{option_map}
use Rattle.ump_grammar.specs.WordFields.{type_of}
use Rattle.sysex8_streams.specs.History.{Answer8, held8, whole8, stray8, restarted8, restarted_whole8, too_long8, full8, key_of, part_of}
use Rattle.sysex8_streams.specs.Reading.{is_left_out, Spells8}
use Rattle.sysex8_streams.specs.Table.{Table8, answer8_to, begun8_in, with_part8}
use Rattle.sysex8_streams.specs.declared.part8.Part8.{Part8}
use Rattle.packet_words.specs.Words.{words_asked}
use Rattle.c_answers.specs.Blocks.{AreTaken, Taking}
use Rattle.c_answers.specs.Fronts.{with_front}
use Rattle.c_answers.specs.Numbers.{number_of}
use Rattle.c_answers.specs.Whole.{is_whole}
use Rattle.c_answers.specs.declared.block.Block.{Block}
use Rattle.c_answers.specs.declared.status.Status.{Status}
use Rattle.c_answers.specs.declared.status.Status.TheVariants as statuses
use Rattle.c_streams.specs.declared.sysex8.JoinedPart.{JoinedPart}

-- ---- answers

-- the exclusive that a part ends
abbrev pub ended_by : Answer8 → List ℕ
ended_by (whole8 bytes) = bytes
ended_by (restarted_whole8 at bytes) = bytes
ended_by _ = []

-- the start of the exclusive that a part cuts off
abbrev pub cut_by : Answer8 → ℕ
cut_by (restarted8 at) = at
cut_by (restarted_whole8 at bytes) = at
cut_by _ = 0

abbrev pub reply_number : Answer8 → ℕ
reply_number held8 = 1
reply_number (whole8 bytes) = 2
reply_number stray8 = 3
reply_number (restarted8 at) = 4
reply_number (restarted_whole8 at bytes) = 5
reply_number full8 = 6
reply_number too_long8 = 7

-- an exclusive that exceeds its limit is dropped; no other part is refused
abbrev pub refusal_of : Answer8 → Option Status
refusal_of too_long8 = Some statuses.ExclusiveTooLong
refusal_of _ = None

-- what a part does to the exclusive of its stream
abbrev pub joined_by : Part8 → Answer8 → JoinedPart
joined_by part reply =
    record {
      written = length (ended_by reply);
      need = 0;
      cut_at = cut_by reply;
      answer = reply_number reply;
      group = part.group;
      stream = part.stream;
    }

-- there is no part
abbrev pub no_part : JoinedPart
no_part = record { written = 0; need = 0; cut_at = 0; answer = 0; group = 0; stream = 0 }

-- the same for a packet that isn't taken, since the buffer is too small; one of this size does
abbrev pub needing_part : ℕ → JoinedPart
needing_part size = record no_part { need = size }

-- ---- what a packet does

-- its part, the bytes of the exclusive that it ends, why it is refused, if it is, and what is begun after it
pub record Reply : Type 0 where
  pub joined : JoinedPart
  pub ended : List ℕ
  pub refusal : Option Status
  pub after : Table8

abbrev pub part_reply : Table8 → Part8 → ℕ → Reply
part_reply table part offset =
    let reply = answer8_to table (part_of part offset) in
    record {
      joined = joined_by part reply;
      ended = ended_by reply;
      refusal = refusal_of reply;
      after = with_part8 (part_of part offset) table;
    }

-- whether the words of a packet have a part of an 8-bit exclusive
abbrev pub has_part : List ℕ → Bool
has_part words = type_of words == 5 && not (is_left_out words)

-- a packet that has none changes nothing
abbrev pub replies : Bool → Table8 → List ℕ → ℕ → Reply → Type 0
replies false table words offset reply =
    reply ≡ record { joined = no_part; ended = []; refusal = None; after = table }
replies true table words offset reply = (part : Part8) × Spells8 part words × (reply ≡ part_reply table part offset)

abbrev pub IsReply : Table8 → List ℕ → ℕ → Reply → Type 0
IsReply table words offset reply = replies (has_part words) table words offset reply

-- ---- one packet

-- nothing is written, and nothing is taken
abbrev pub IsPassed : Status → JoinedPart → Table8 → List ℕ → ℕ → JoinedPart → List ℕ → Table8 → Type 0
IsPassed why shown table old status joined new after =
    (status ≡ number_of why) × (joined ≡ shown) × (new ≡ old) × (after ≡ table)

-- the status, by why a packet is refused, if it is
abbrev pub status_of : Option Status → Status
status_of None = statuses.Done
status_of (Some why) = why

-- the bytes of the exclusive that the packet ends are at the front of the buffer
pub record IsJoined (table : Table8) (words : List ℕ) (offset : ℕ) (old : List ℕ) (status : ℕ) (joined : JoinedPart) (new : List ℕ)
    (after : Table8) : Type 0 where
  pub reply : Reply
  pub replied : IsReply table words offset reply
  pub answer : status ≡ number_of (status_of reply.refusal)
  pub shown : joined ≡ reply.joined
  pub front : new ≡ with_front reply.ended old
  pub after_is : after ≡ reply.after

-- by whether the number of words is that of their type
abbrev pub takes_whole : Bool → Table8 → List ℕ → ℕ → List ℕ → ℕ → JoinedPart → List ℕ → Table8 → Type 0
takes_whole false table words offset old status joined new after = IsPassed statuses.BadWordCount no_part table old status joined new after
takes_whole true table words offset old status joined new after = IsJoined table words offset old status joined new after

-- by whether the buffer is too small for an exclusive of the limit
abbrev pub takes : Bool → Table8 → List ℕ → ℕ → List ℕ → ℕ → JoinedPart → List ℕ → Table8 → Type 0
takes true table words offset old status joined new after =
    IsPassed statuses.SmallBuffer (needing_part table.room) table old status joined new after
takes false table words offset old status joined new after =
    takes_whole (is_whole words) table words offset old status joined new after

abbrev pub IsPacketJoined : Table8 → List ℕ → ℕ → List ℕ → ℕ → JoinedPart → List ℕ → Table8 → Type 0
IsPacketJoined table words offset old status joined new after =
    takes (nat_lt (length old) table.room) table words offset old status joined new after

-- ---- many packets

-- one of them that isn't refused, with its part
pub record JoinsPacket (table : Table8) (offset : ℕ) (words written : List ℕ) (parts : List JoinedPart) (after : Table8) : Type 0 where
  pub reply : Reply
  pub replied : IsReply table words offset reply
  pub accepted : reply.refusal ≡ None
  pub written_are : written ≡ reply.ended
  pub parts_are : parts ≡ reply.joined ∷ []
  pub after_is : after ≡ reply.after

pub record RefusesPacket (table : Table8) (offset : ℕ) (words : List ℕ) (why : Status) (after : Table8) : Type 0 where
  pub reply : Reply
  pub replied : IsReply table words offset reply
  pub refused : reply.refusal ≡ Some why
  pub after_is : after ≡ reply.after

-- each word adds 4 to the offset
abbrev pub joining : Taking Table8 JoinedPart
joining =
    record {
      size_of = words_asked;
      step = 4;
      Takes = JoinsPacket;
      Refuses = RefusesPacket;
      most_written = λ table. table.room;
      most_items = 1;
    }

abbrev pub ArePacketsJoined : Table8 → ℕ → List ℕ → List ℕ → List JoinedPart → ℕ → Block → List ℕ → List JoinedPart → Table8 → Type 0
ArePacketsJoined table offset words old old_parts status block new parts after =
    AreTaken joining table offset words old old_parts status block new parts after

-- ---- what is begun

abbrev pub begins : Bool → Option ℕ → ℕ → ℕ → ℕ → Type 0
begins false start status old new = (status ≡ number_of statuses.BadGroup) × (new ≡ old)
begins true None status old new = (status ≡ number_of statuses.Nothing) × (new ≡ old)
begins true (Some start) status old new = (status ≡ number_of statuses.Done) × (new ≡ start)

-- the start of the exclusive that a stream has begun
abbrev pub IsBegun : Table8 → ℕ → ℕ → ℕ → ℕ → ℕ → Type 0
IsBegun table group stream status old new =
    begins (nat_lt group 16) (option_map (λ begun. begun.start) (begun8_in table (key_of group stream))) status old new
