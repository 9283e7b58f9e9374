-- Worked rows of paired controllers: packets and bytes whose pieces, packets and meaning are computed from
-- the definitions alone.
use Rattle.std.specs.Prelude.{ℕ, List, [], ◌∷◌}
use Rattle.voice_messages.specs.declared.voice1.Voice1.TheVariants as voice1
use Rattle.voice_messages.specs.declared.voice2.Voice2.TheVariants as voice2
use Rattle.ump_grammar.specs.declared.packet.Packet.{Packet}
use Rattle.ump_grammar.specs.declared.packet.Packet.TheVariants as packet
use Rattle.listing_terms.specs.Parts.{Placed}

-- a control change of MIDI 2.0
abbrev pub control_of : ℕ → ℕ → Packet
control_of index value = packet.Voice2 0 (voice2.Control 0 index value)

-- volume, 7: its MSB; the same twice
abbrev pub volume : List Packet
volume = control_of 7 0xc9240000 ∷ []

abbrev pub volume_twice : List Packet
volume_twice = control_of 7 0xc9240000 ∷ control_of 7 0xc9240000 ∷ []

-- the LSB of volume, 39
abbrev pub volume_lsb : List Placed
volume_lsb = record { offset = 0; packet = control_of 39 0xc9240000 } ∷ []

-- volume in a MIDI 2.0 packet, and then its LSB in one of MIDI 1.0
abbrev pub volume_of_both_protocols : List Packet
volume_of_both_protocols = control_of 7 0xc9240000 ∷ packet.Voice1 0 (voice1.Control 0 39 5) ∷ []

-- the MSB and the LSB of volume
abbrev pub both_halves : List ℕ
both_halves = 0xb0 ∷ 7 ∷ 0x64 ∷ 0x27 ∷ 5 ∷ []

-- and its MSB once more
abbrev pub a_new_msb : List ℕ
a_new_msb = 0xb0 ∷ 7 ∷ 0x64 ∷ 0x27 ∷ 5 ∷ 7 ∷ 0x64 ∷ []

abbrev pub msb_alone : List ℕ
msb_alone = 0xb0 ∷ 7 ∷ 0x64 ∷ []

-- all controllers are reset, and the LSB of expression, 43, comes
abbrev pub lsb_after_reset : List ℕ
lsb_after_reset = 0xb0 ∷ 0x79 ∷ 0 ∷ 0x2b ∷ 5 ∷ []

-- registered parameter 0/0 is selected, and takes a data entry MSB and LSB
abbrev pub data_entry : List ℕ
data_entry = 0xb0 ∷ 0x65 ∷ 0 ∷ 0x64 ∷ 0 ∷ 6 ∷ 2 ∷ 0x26 ∷ 5 ∷ []
