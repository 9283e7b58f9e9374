-- Packets that are written to the output.
use Rattle.std.specs.Prelude.{◌≡◌, ℕ, true, false, List, [], ◌∷◌, ◌++◌}
use Rattle.std.specs.List.{flat_map}
use Rattle.packet_words.specs.Words.{word_bytes}
use Rattle.packet_words.specs.declared.words.Order.{Order}
use Rattle.ump_grammar.specs.Reading.{Encodes}
use Rattle.ump_grammar.specs.declared.packet.Packet.{Packet}
use Rattle.pass_loop.specs.Named.{Named}
use Rattle.pass_loop.specs.Put.{Put, in_output}

-- such a pass names the output and the notes
abbrev pub output_and_notes : Named
output_and_notes = record { lanes = false; output = true; notes = true }

-- one put in the output: the bytes of words that encode the packet
abbrev pub IsWritten : Order → Packet → List Put → Type 0
IsWritten order packet puts =
    (words : List ℕ) × Encodes packet words × (puts ≡ in_output (flat_map (word_bytes order) words) ∷ [])

-- the same for each of these packets, one after the other
abbrev pub AreWritten : Order → List Packet → List Put → Type 0
AreWritten order [] puts = puts ≡ []
AreWritten order (packet ∷ packets) puts =
    (first : List Put) × (rest : List Put) × IsWritten order packet first × AreWritten order packets rest
    × (puts ≡ first ++ rest)

-- these packets are written, and then these lines are put in the notes
abbrev pub AreWrittenAndListed : Order → List Packet → List Put → List Put → Type 0
AreWrittenAndListed order packets lines puts =
    (written : List Put) × AreWritten order packets written × (puts ≡ written ++ lines)
