-- A recording whose 8-bit exclusives are joined: the bytes and the line of each, the lines of packets that give none,
-- and at the end those of the exclusives that are still open, by group, then stream.
use Rattle.std.specs.Prelude.{◌≡◌, ℕ, ◌==◌, true, false, if◌then◌else◌, List, [], ◌∷◌, ◌++◌, length, Option, None, Some}
use Rattle.std.specs.List.{flat_map}
use Rattle.packet_words.specs.declared.words.Framed.{Framed}
use Rattle.ump_grammar.specs.declared.packet.Packet.{Packet}
use Rattle.ump_grammar.specs.declared.packet.Packet.TheVariants as packet
use Rattle.pass_loop.specs.Pass.{Tail, Work}
use Rattle.pass_loop.specs.Put.{Put, in_lane, in_notes, notes_in, pairs_in}
use Rattle.pass_loop.specs.declared.ends.Reason.TheVariants.{ExclusiveTooLong}
use Rattle.sysex_groups.specs.Exclusives.{Part, of_group}
use Rattle.sysex8_streams.specs.declared.part8.Part8.{Part8}
use Rattle.sysex8_streams.specs.History.{Answer8, held8, whole8, stray8, restarted8, restarted_whole8}
use Rattle.sysex8_streams.specs.History.{too_long8, full8, key_of, part_of, answer8}
use Rattle.sysex8_streams.specs.Laws.{IsNeverFull}
use Rattle.sysex8_pass.specs.declared.lines.Kind8.TheVariants as kinds
use Rattle.sysex8_pass.specs.Completed.{completed8, of_stream, piece_of}
use Rattle.sysex8_pass.specs.Lines.{kind_text, whole_text}
use Rattle.sysex8_pass.specs.Listing.{below, lines_of}
use Rattle.sysex8_pass.specs.Options.{Sysex8Options}
use Rattle.sysex8_pass.specs.Parts.{open_since, part_in, parts_at}

-- ---- what is put for an answer

abbrev pub listed : List ℕ → List Put
listed line = in_notes line ∷ []

-- an exclusive that is whole: its bytes, unless there are none, and its line
abbrev pub piece_puts : ℕ → List ℕ → List Put
piece_puts group bytes = if length bytes == 0 then [] else in_lane group bytes ∷ []

abbrev pub whole_puts : ℕ → ℕ → ℕ → List ℕ → List Put
whole_puts offset group stream bytes = piece_puts group bytes ++ listed (whole_text offset group stream (length bytes))

-- one that cuts off an exclusive that began at the first offset: its bytes, then the line of that one, then its own
abbrev pub cut_lines : ℕ → ℕ → ℕ → ℕ → ℕ → List Put
cut_lines at offset group stream size = listed (kind_text kinds.Cut at group) ++ listed (whole_text offset group stream size)

abbrev pub cut_puts : ℕ → ℕ → ℕ → ℕ → List ℕ → List Put
cut_puts at offset group stream bytes = piece_puts group bytes ++ cut_lines at offset group stream (length bytes)

-- the answer to a part of a stream in the packet at an offset
abbrev pub answer_puts : ℕ → ℕ → ℕ → Answer8 → List Put
answer_puts offset group stream held8 = []
answer_puts offset group stream (whole8 bytes) = whole_puts offset group stream bytes
answer_puts offset group stream stray8 = listed (kind_text kinds.Stray offset group)
answer_puts offset group stream (restarted8 at) = listed (kind_text kinds.Cut at group)
answer_puts offset group stream (restarted_whole8 at bytes) = cut_puts at offset group stream bytes
answer_puts offset group stream too_long8 = []
answer_puts offset group stream full8 = listed (kind_text kinds.Full offset group)

-- why it is refused
abbrev pub answer_refusal : ℕ → Answer8 → Tail
answer_refusal offset held8 = None
answer_refusal offset (whole8 bytes) = None
answer_refusal offset stray8 = None
answer_refusal offset (restarted8 at) = None
answer_refusal offset (restarted_whole8 at bytes) = None
answer_refusal offset too_long8 = Some (ExclusiveTooLong, offset)
answer_refusal offset full8 = None

-- ---- by the answers to parts

module _ (answer : Part → Answer8) (offset : ℕ) where
  -- a packet of type 5, by the part in it
  abbrev pub data8_puts : ℕ → Option Part8 → List Put
  data8_puts group None = listed (kind_text kinds.Other offset group)
  data8_puts group (Some part) = answer_puts offset part.group part.stream (answer (part_of part offset))

  abbrev pub data8_refusal : Option Part8 → Tail
  data8_refusal None = None
  data8_refusal (Some part) = answer_refusal offset (answer (part_of part offset))

  abbrev pub packet_puts : Packet → List Put
  packet_puts (packet.Data8 group words) = data8_puts group (part_in words)
  packet_puts _ = []

  abbrev pub packet_refusal : Packet → Tail
  packet_refusal (packet.Data8 group words) = data8_refusal (part_in words)
  packet_refusal _ = None

-- ---- at the end

-- the line of an exclusive that is open, by the offset at which it began
abbrev pub open_put : ℕ → Option ℕ → List Put
open_put group None = []
open_put group (Some start) = listed (kind_text kinds.Open start group)

-- those of a group, by the offset at which each stream's began, and those of all groups
abbrev pub group_puts : (ℕ → Option ℕ) → ℕ → List Put
group_puts starts group = flat_map (λ stream. open_put group (starts (key_of group stream))) (below 256)

abbrev pub open_puts : (ℕ → Option ℕ) → List Put
open_puts starts = flat_map (group_puts starts) (below 16)

-- ---- the work

-- If none of these parts found all slots taken, the exclusives of each stream are those that its own parts alone
-- complete.
abbrev pub CompleteAlone : ℕ → ℕ → List Part → Type 0
CompleteAlone slots room parts =
    IsNeverFull slots room parts → (key : ℕ) →
    of_stream key (completed8 slots room parts) ≡ completed8 slots room (of_group key parts)

-- For these packets, the newest first, the lanes gain the bytes of the exclusives that they complete, each in the lane
-- of its group and in their order, and the notes gain their lines.
pub record JoinsThem (slots room : ℕ) (past : List (Framed × Packet)) (puts : List Put) : Type 0 where
  pub pieces : pairs_in puts ≡ flat_map piece_of (completed8 slots room (parts_at past))
  pub alone : CompleteAlone slots room (parts_at past)
  pub lines : notes_in puts ≡ lines_of slots room past

-- The work on a recording whose 8-bit exclusives are joined. A packet that makes its stream's exclusive too long is
-- refused.
abbrev pub joining : Sysex8Options → Work (Framed × Packet)
joining options =
    record {
      names = record { lanes = true; output = false; notes = true };
      grows = false;
      refusal = λ past item. packet_refusal (answer8 options.slots options.room (parts_at past)) item.0.offset item.1;
      IsPut = λ past item puts. puts ≡ packet_puts (answer8 options.slots options.room (parts_at past)) item.0.offset item.1;
      refusal_at_end = λ past. None;
      IsPutAtEnd = λ past puts. puts ≡ open_puts (open_since options.slots options.room (parts_at past));
      Means = λ past puts. JoinsThem options.slots options.room past puts;
    }
