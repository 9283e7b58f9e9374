-- A clip file, cut into packets: its header, and the packets after it, whose words have their most significant byte first. The header
-- counts: offsets are those from the start of the file, and the limit is that of the whole file. If there is no header, the file is
-- refused at its start.
use Rattle.std.specs.Prelude.{◌≡◌, ◌≢◌, ◌⊎◌, ℕ, List, [], ◌++◌, Some, map}
use Rattle.midi_clip.specs.Header.{header_bytes}
use Rattle.ump_words.specs.declared.words.Framed.{Framed}
use Rattle.ump_words.specs.declared.words.Order.TheVariants.{Big}
use Rattle.ump_grammar.specs.declared.packet.Packet.{Packet}
use Rattle.pass_loop.specs.Pass.{Cutting}
use Rattle.pass_loop.specs.declared.ends.Reason.TheVariants.{NotClip}
use Rattle.packet_input.specs.Packets.{packets_behind}

abbrev pub packets_of : List (Framed × Packet) → List Packet
packets_of items = map (λ item. item.1) items

-- the bytes after the header are cut into the packets that they spell: into all of them, or into those before the first words that are
-- refused
abbrev pub CutsBehind : Cutting (Framed × Packet)
CutsBehind = packets_behind Big 8

-- these bytes don't begin with the header
abbrev pub HasNoHeader : List ℕ → Type 0
HasNoHeader bytes = (after : List ℕ) → bytes ≢ header_bytes ++ after

-- A clip file is its header and these packets, or has no header.
abbrev pub clip_cutting : Cutting (Framed × Packet)
clip_cutting bytes items end =
    ((after : List ℕ) × (bytes ≡ header_bytes ++ after) × CutsBehind after items end)
    ⊎ ((items ≡ []) × (end ≡ Some (NotClip, 0)) × HasNoHeader bytes)
