-- The lines of a recording whose 8-bit exclusives are joined.
use Rattle.std.specs.Prelude.{ℕ, zero, suc, List, [], ◌∷◌, ◌++◌, length, Option, None, Some}
use Rattle.std.specs.List.{flat_map}
use Rattle.packet_words.specs.declared.words.Framed.{Framed}
use Rattle.ump_grammar.specs.declared.packet.Packet.{Packet}
use Rattle.ump_grammar.specs.declared.packet.Packet.TheVariants as packet
use Rattle.sysex_groups.specs.Exclusives.{Part}
use Rattle.sysex8_streams.specs.declared.part8.Part8.{Part8}
use Rattle.sysex8_streams.specs.History.{Answer8, held8, whole8, stray8, restarted8, restarted_whole8}
use Rattle.sysex8_streams.specs.History.{too_long8, full8, key_of, part_of, answer8}
use Rattle.sysex8_pass.specs.declared.lines.Kind8.TheVariants as kinds
use Rattle.sysex8_pass.specs.Lines.{kind_text, whole_text}
use Rattle.sysex8_pass.specs.Parts.{part_in, parts_at}

-- the lines of the answer to a part of a stream in the packet at an offset; one that is cut off comes before one that
-- is whole
abbrev pub answer_lines : ℕ → ℕ → ℕ → Answer8 → List ℕ
answer_lines offset group stream held8 = []
answer_lines offset group stream (whole8 bytes) = whole_text offset group stream (length bytes)
answer_lines offset group stream stray8 = kind_text kinds.Stray offset group
answer_lines offset group stream (restarted8 at) = kind_text kinds.Cut at group
answer_lines offset group stream (restarted_whole8 at bytes) =
    kind_text kinds.Cut at group ++ whole_text offset group stream (length bytes)
answer_lines offset group stream too_long8 = []
answer_lines offset group stream full8 = kind_text kinds.Full offset group

-- the lines of a packet of type 5, by the part in it; one that has none has a line of its own
abbrev pub data8_lines : (Part → Answer8) → ℕ → ℕ → Option Part8 → List ℕ
data8_lines answer offset group None = kind_text kinds.Other offset group
data8_lines answer offset group (Some part) = answer_lines offset part.group part.stream (answer (part_of part offset))

-- other packets have none
abbrev pub packet_lines : (Part → Answer8) → ℕ → Packet → List ℕ
packet_lines answer offset (packet.Data8 group words) = data8_lines answer offset group (part_in words)
packet_lines answer offset _ = []

-- the lines of these packets, the newest first, in their order
abbrev pub lines_of : ℕ → ℕ → List (Framed × Packet) → List ℕ
lines_of slots room [] = []
lines_of slots room (item ∷ past) =
    lines_of slots room past ++ packet_lines (answer8 slots room (parts_at past)) item.0.offset item.1

-- ---- at the end

-- the numbers below this one
unfoldable pub below : ℕ → List ℕ
below zero = []
below (suc n) = below n ++ n ∷ []

-- the line of an exclusive that is open, by the offset at which it began
abbrev pub open_line : ℕ → Option ℕ → List ℕ
open_line group None = []
open_line group (Some start) = kind_text kinds.Open start group

-- the lines of those that are open, by the offset at which each stream's began: by group, then stream
abbrev pub open_lines : (ℕ → Option ℕ) → List ℕ
open_lines starts =
    flat_map (λ group. flat_map (λ stream. open_line group (starts (key_of group stream))) (below 256)) (below 16)
