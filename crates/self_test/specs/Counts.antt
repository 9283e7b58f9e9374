-- What a self test counts, over the generated packets, their plain pieces, and the packets of the bytes of
-- these.
use Rattle.std.specs.Prelude.{ℕ, ◌+◌, ◌*◌, ◌==◌, if◌then◌else◌, zero, suc, List, [], ◌∷◌, ◌++◌, length, reverse, None, false}
use Rattle.std.specs.Option.{option_to_list}
use Rattle.ump_grammar.specs.declared.packet.Packet.{Packet}
use Rattle.midi_meaning.specs.Back.{back}
use Rattle.midi_meaning.specs.Lanes.{pairs_over}
use Rattle.midi_meaning.specs.Listing.{lines_over}
use Rattle.midi_meaning.specs.Parts.{Placed, whole_of}
use Rattle.midi_meaning.specs.Plain.{plain_piece}
use Rattle.down_translator.specs.declared.carried.Carried.{Carried}
use Rattle.down_translator.specs.Carried.{line_in}
use Rattle.down_translator.specs.Recording.{packets_of}
use Rattle.self_test.specs.declared.counts.Counts.{Counts}
use Rattle.self_test.specs.Generator.{generated}

-- the bytes of the plain pieces of packets; both are listed newest first
abbrev pub bytes_over : List Packet → List ℕ
bytes_over [] = []
bytes_over (packet ∷ past) = reverse (plain_piece false (whole_of past packet) packet) ++ bytes_over past

-- The counts over packets of group 0, the newest first: those that are carried, which have a pair each; their
-- lines; the bytes of their plain pieces; and the bytes of the plain pieces of the packets to which these
-- bytes are raised in group 0.
abbrev pub counts_of : List Placed → Counts
counts_of past =
    let bytes : List ℕ = bytes_over (packets_of past) in
    record {
      carried = length (pairs_over false (packets_of past));
      listed = length (lines_over false None past);
      bytes = length bytes;
      again = length (back false None 0 bytes);
    }

-- the first packets of a seed, the newest first; each has eight bytes
abbrev pub first_packets : ℕ → ℕ → List Placed
first_packets seed zero = []
first_packets seed (suc count) = record { offset = 8 * count; packet = generated seed count } ∷ first_packets seed count

-- the counts of a self test
abbrev pub counted : ℕ → ℕ → Counts
counted seed packets = counts_of (first_packets seed packets)

-- counts with what is carried of one more packet, and with the bytes that come back of it
abbrev pub counts_with : Counts → Carried → ℕ → Counts
counts_with counts carried again =
    record {
      carried = counts.carried + (if length carried.piece.now == 0 then 0 else 1);
      listed = counts.listed + length (option_to_list (line_in carried));
      bytes = counts.bytes + length carried.piece.now;
      again = counts.again + again;
    }
