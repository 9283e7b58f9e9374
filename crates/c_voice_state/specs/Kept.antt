-- What a running state answers a caller.
use Rattle.std.specs.Prelude.{◌≡◌, ◌≢◌, ◌↔◌, ℕ, Bool, true, false, List, [], Option, Some, None, Result, Ok, Err, ◌⊎◌}
use Rattle.packet_words.specs.Words.{words_asked}
use Rattle.ump_grammar.specs.Reason.{reason}
use Rattle.ump_grammar.specs.Spelling.{Spells}
use Rattle.ump_grammar.specs.declared.packet.Bad.{Bad}
use Rattle.ump_grammar.specs.declared.packet.Packet.{Packet}
use Rattle.ump_grammar.specs.declared.packet.Packet.TheVariants as packets
use Rattle.sysex_groups.specs.Exclusives.{Answer, Part, whole, restarted_whole, too_long}
use Rattle.sysex_groups.specs.Table.{Table, answer_to, with_part}
use Rattle.midi1_bytes.specs.Messages.{Message}
use Rattle.midi_meaning.specs.Messages.{Scale, raised}
use Rattle.midi_meaning.specs.State.{with_common}
use Rattle.voice_state.specs.declared.not_kept.NotKept.{NotKept}
use Rattle.voice_state.specs.declared.not_kept.NotKept.TheVariants as not_kept
use Rattle.voice_state.specs.Kept.{KeptGroup, Keeps}
use Rattle.voice_state.specs.Rooms.{IsPacketFull, KeepsAllRooms}
use Rattle.voice_state.specs.States.{States, after_packet, at_group}
use Rattle.c_answers.specs.Blocks.{AreTakenAlone, Taking}
use Rattle.c_answers.specs.Numbers.{number_of}
use Rattle.c_answers.specs.Whole.{is_whole}
use Rattle.c_answers.specs.Refusals.{status_of_bad}
use Rattle.c_answers.specs.declared.block.Block.{Block}
use Rattle.c_answers.specs.declared.status.Status.{Status}
use Rattle.c_answers.specs.declared.status.Status.TheVariants as statuses

-- what is kept of the groups, and the exclusives that they have open
pub record StateKept : Type 0 where
  pub kept : List KeptGroup
  pub exclusives : Table

-- by whether a message is kept, and why it isn't
abbrev pub kept_status : {A : Type 0} → Result A NotKept → ℕ
kept_status (Ok value) = number_of statuses.Done
kept_status (Err not_kept.Full) = number_of statuses.StateFull
kept_status (Err not_kept.NoMemory) = number_of statuses.NoMemory

-- If it is done, what is kept represents the changed states if it represented the states before. If it adds to
-- a full list, or there isn't enough memory, nothing has changed.
pub record Changes (scale : Scale) (change : States → States) (IsFull : Type 0) (old : List KeptGroup) (status : ℕ)
    (new : List KeptGroup) : Type 0 where
  pub done : status ≡ number_of statuses.Done → (states : States) → Keeps scale old states → Keeps scale new (change states)
  pub unchanged : status ≢ number_of statuses.Done → new ≡ old
  pub full : (status ≡ number_of statuses.StateFull) ↔ IsFull
  pub rooms : KeepsAllRooms old new
  pub answers : (status ≡ number_of statuses.Done) ⊎ (status ≡ number_of statuses.NoMemory) ⊎ (status ≡ number_of statuses.StateFull)

-- a whole exclusive of a group is counted
abbrev pub IsCounted : ℕ → List KeptGroup → ℕ → List KeptGroup → Type 0
IsCounted group old status new =
    (status ≡ number_of statuses.Done)
    × KeepsAllRooms old new
    × ((states : States) (message : Message) → Keeps raised old states → Keeps raised new (at_group group (with_common message) states))

-- a part of an exclusive, by what it does
abbrev pub takes_part : Answer → ℕ → List KeptGroup → ℕ → List KeptGroup → Type 0
takes_part (whole bytes) group old status new = IsCounted group old status new
takes_part (restarted_whole at bytes) group old status new = IsCounted group old status new
takes_part too_long group old status new = (status ≡ number_of statuses.ExclusiveTooLong) × (new ≡ old)
takes_part _ group old status new = (status ≡ number_of statuses.Done) × (new ≡ old)

abbrev pub IsTaken : StateKept → Packet → ℕ → StateKept → Type 0
IsTaken old (packets.Exclusive group form bytes) status new =
    let part : Part = record { group = group; form = form; bytes = bytes; offset = 0 } in
    (new.exclusives ≡ with_part part old.exclusives) × takes_part (answer_to old.exclusives part) group old.kept status new.kept
IsTaken old packet status new = (new.exclusives ≡ old.exclusives) × Changes raised (after_packet packet None) (IsPacketFull packet old.kept) old.kept status new.kept

-- ---- words

-- by whether the number of words is that of their type, and why no packet has them
abbrev pub takes : Bool → Option Bad → StateKept → List ℕ → ℕ → StateKept → Type 0
takes false bad old words status new = (status ≡ number_of statuses.BadWordCount) × (new ≡ old)
takes true (Some bad) old words status new = (status ≡ number_of (status_of_bad bad)) × (new ≡ old)
takes true None old words status new = (packet : Packet) × Spells packet words × IsTaken old packet status new

abbrev pub IsPacketTaken : StateKept → List ℕ → ℕ → StateKept → Type 0
IsPacketTaken old words status new = takes (is_whole words) (reason words) old words status new

-- ---- a block

-- How a state takes one item, by how many words or bytes the item has that begins with this one: it writes
-- nothing, and has no offset.
abbrev pub alone : {Held : Type 0} → (ℕ → ℕ) → (Held → List ℕ → Held → Type 0) → (Held → List ℕ → Status → Held → Type 0)
    → Taking Held (Unit {0})
alone size_of Takes Refuses =
    record {
      size_of = size_of;
      step = 0;
      Takes = λ held offset own written items after. (written ≡ []) × (items ≡ []) × Takes held own after;
      Refuses = λ held offset own why after. Refuses held own why after;
      most_written = λ held. 0;
      most_items = 0;
    }

-- one packet is refused
abbrev pub RefusesPacket : StateKept → List ℕ → Status → StateKept → Type 0
RefusesPacket held words why after = (why ≢ statuses.Done) × IsPacketTaken held words (number_of why) after

abbrev pub packets_in : Taking StateKept (Unit {0})
packets_in = alone words_asked (λ held words after. IsPacketTaken held words (number_of statuses.Done) after) RefusesPacket

abbrev pub ArePacketsTaken : StateKept → List ℕ → ℕ → Block → StateKept → Type 0
ArePacketsTaken old words status block new = AreTakenAlone packets_in old words status block new
