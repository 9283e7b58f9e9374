-- What an endpoint answers to one packet, and to many, into the caller's buffers.
use Rattle.std.specs.Prelude.{◌≡◌, ℕ, nat_lt, Bool, true, false, List, [], ◌∷◌, length, Option, Some, None, Result, Ok, Err}
use Rattle.packet_words.specs.Words.{words_asked}
use Rattle.ump_grammar.specs.Ranges.{IsPacket}
use Rattle.ump_grammar.specs.Reason.{reason}
use Rattle.ump_grammar.specs.Replies.{AddsPackets}
use Rattle.ump_grammar.specs.Spelling.{Spells}
use Rattle.ump_grammar.specs.declared.packet.Bad.{Bad}
use Rattle.ump_grammar.specs.declared.packet.Packet.{Packet}
use Rattle.ump_grammar.specs.declared.packet.Packet.TheVariants as packets
use Rattle.listing_terms.specs.declared.listed.BadStep.{BadStep}
use Rattle.ump_endpoint.specs.Held.{EndpointState, after_packet, listed_in, outcome_in, refusal_in, replies_in}
use Rattle.ump_endpoint.specs.declared.taken.Taken.{Taken}
use Rattle.c_answers.specs.Blocks.{AreTaken, Taking}
use Rattle.c_answers.specs.Fronts.{with_front}
use Rattle.c_answers.specs.Lines.{listed_line}
use Rattle.c_answers.specs.Numbers.{number_of}
use Rattle.c_answers.specs.Refusals.{status_of_bad, status_of_step}
use Rattle.c_answers.specs.Whole.{is_whole}
use Rattle.c_answers.specs.declared.block.Block.{Block}
use Rattle.c_answers.specs.declared.status.Status.{Status}
use Rattle.c_answers.specs.declared.status.Status.TheVariants as statuses
use Rattle.c_endpoint.specs.Numbers.{heard_number}
use Rattle.c_endpoint.specs.declared.replies.PacketReplies.{PacketReplies}

-- there are no replies
abbrev pub no_replies : PacketReplies
no_replies = record { written = 0; need = 0; offset = 0; heard = 0; group = 255; kind = 0 }

-- the buffer is too small, and one of this size does
abbrev pub needing : ℕ → PacketReplies
needing size = record { written = 0; need = size; offset = 0; heard = 0; group = 255; kind = 0 }

-- the group of a packet of an exclusive
abbrev pub group_number : Packet → ℕ
group_number (packets.Exclusive group form bytes) = group
group_number _ = 255

-- what was done with a packet, to which there are this many words of replies
abbrev pub replies_of : Packet → Taken → ℕ → PacketReplies
replies_of packet taken words =
    record {
      written = words;
      need = 0;
      offset = (listed_line taken.listed).offset;
      heard = heard_number taken.outcome;
      group = group_number packet;
      kind = (listed_line taken.listed).kind;
    }

-- ---- one packet

-- the words of the replies to a packet, packet after packet, and the outcome of the packet
pub record IsReplied (held : EndpointState) (offset : ℕ) (packet : Packet) (written : List ℕ) (replies : PacketReplies) : Type 0 where
  pub accepted : refusal_in held packet ≡ None
  pub words : AddsPackets (replies_in held packet) [] written
  pub told : replies ≡ replies_of packet (record { outcome = outcome_in held packet; listed = listed_in held offset packet }) (length written)

-- these words encode this packet
pub record Reads (words : List ℕ) (packet : Packet) : Type 0 where
  pub whole : is_whole words ≡ true
  pub fine : reason words ≡ None
  pub spelled : Spells packet words
  pub fits : IsPacket packet

-- why no packet has these words
abbrev pub Unread : Bool → Option Bad → Status → Type 0
Unread false bad why = why ≡ statuses.BadWordCount
Unread true (Some bad) why = why ≡ status_of_bad bad
Unread true None why = ⊥

-- the packet that the words encode, or why none has them
abbrev pub IsRead : List ℕ → Result Packet Status → Type 0
IsRead words (Ok packet) = Reads words packet
IsRead words (Err why) = Unread (is_whole words) (reason words) why

-- the words are of a packet that is accepted: what is written for it, and the state after it
pub record TakesPacket (held : EndpointState) (offset : ℕ) (words written : List ℕ) (replies : PacketReplies)
    (after : EndpointState) : Type 0 where
  pub packet : Packet
  pub read : Reads words packet
  pub replied : IsReplied held offset packet written replies
  pub after_is : after ≡ after_packet offset packet held

-- or of one that is refused
pub record IsUntaken (held : EndpointState) (offset : ℕ) (words : List ℕ) (why : Status) (after : EndpointState) : Type 0 where
  pub packet : Packet
  pub bad : BadStep
  pub read : Reads words packet
  pub refused : refusal_in held packet ≡ Some bad
  pub why_is : why ≡ status_of_step bad
  pub after_is : after ≡ after_packet offset packet held

-- by whether the number of words is that of their type, and why no packet has them, which leaves the endpoint
-- as it was
abbrev pub refuses : Bool → Option Bad → EndpointState → ℕ → List ℕ → Status → EndpointState → Type 0
refuses true None held offset words why after = IsUntaken held offset words why after
refuses whole bad held offset words why after = Unread whole bad why × (after ≡ held)

abbrev pub RefusesPacket : EndpointState → ℕ → List ℕ → Status → EndpointState → Type 0
RefusesPacket held offset words why after = refuses (is_whole words) (reason words) held offset words why after

-- ---- the call for one packet

-- the outcome of a packet that is taken, or why it is refused; the words that are written for it are at the
-- front of the buffer
abbrev pub TakesOrRefuses : EndpointState → ℕ → List ℕ → List ℕ → Result PacketReplies Status → List ℕ → EndpointState → Type 0
TakesOrRefuses held offset words old (Ok replies) new after =
    (written : List ℕ) × TakesPacket held offset words written replies after × (new ≡ with_front written old)
TakesOrRefuses held offset words old (Err why) new after = RefusesPacket held offset words why after × (new ≡ old)

-- the status, and the outcome, which is empty if nothing is taken
abbrev pub Tells : Result PacketReplies Status → ℕ → PacketReplies → Type 0
Tells (Ok told) status replies = (status ≡ number_of statuses.Done) × (replies ≡ told)
Tells (Err why) status replies = (status ≡ number_of why) × (replies ≡ no_replies)

-- by whether the buffer has fewer than the most words of replies
abbrev pub answers : Bool → EndpointState → List ℕ → ℕ → List ℕ → ℕ → PacketReplies → List ℕ → EndpointState → Type 0
answers true held words offset old status replies new after =
    (status ≡ number_of statuses.SmallBuffer) × (replies ≡ needing 1024) × (new ≡ old) × (after ≡ held)
answers false held words offset old status replies new after =
    (result : Result PacketReplies Status) × TakesOrRefuses held offset words old result new after × Tells result status replies

abbrev pub IsPacketAnswered : EndpointState → List ℕ → ℕ → List ℕ → ℕ → PacketReplies → List ℕ → EndpointState → Type 0
IsPacketAnswered held words offset old status replies new after =
    answers (nat_lt (length old) 1024) held words offset old status replies new after

-- ---- a block of packets

-- each word of a packet adds 4 to the offset; a packet has one item, its outcome
abbrev pub packets_in : Taking EndpointState PacketReplies
packets_in =
    record {
      size_of = words_asked;
      step = 4;
      Takes = λ held offset words written items after.
          (replies : PacketReplies) × TakesPacket held offset words written replies after × (items ≡ replies ∷ []);
      Refuses = RefusesPacket;
      most_written = λ held. 1024;
      most_items = 1;
    }

abbrev pub AreAnswered : EndpointState → List ℕ → ℕ → List ℕ → List PacketReplies → ℕ → Block → List ℕ → List PacketReplies
    → EndpointState → Type 0
AreAnswered held words offset old old_replies status block new replies after =
    AreTaken packets_in held offset words old old_replies status block new replies after
