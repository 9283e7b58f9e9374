-- Worked rows: packets whose pieces, meaning and lines are computed from the definitions alone.
use Rattle.std.specs.Prelude.{ℕ, List, [], ◌∷◌}
use Rattle.voice_messages.specs.declared.voice1.Voice1.TheVariants as voice1
use Rattle.voice_messages.specs.declared.voice2.Voice2.TheVariants as voice2
use Rattle.voice_messages.specs.declared.voice2.Form.TheVariants as form
use Rattle.voice_messages.specs.declared.voice2.Param.{Param}
use Rattle.voice_messages.specs.declared.voice2.ParamKind.TheVariants.{Registered}
use Rattle.ump_grammar.specs.declared.packet.Packet.{Packet}
use Rattle.ump_grammar.specs.declared.packet.Packet.TheVariants as packet
use Rattle.listing_terms.specs.Parts.{Placed}

-- an exclusive of group 0 in two packets, with a whole one of group 1 between them
abbrev pub exclusives_of_two_groups : List Packet
exclusives_of_two_groups =
    packet.Exclusive 0 form.Start (1 ∷ 2 ∷ 3 ∷ 4 ∷ 5 ∷ 6 ∷ [])
    ∷ packet.Exclusive 1 form.Complete (0x11 ∷ 0x12 ∷ [])
    ∷ packet.Exclusive 0 form.End (7 ∷ [])
    ∷ []

-- an exclusive that a whole one cuts, a part if none is open, and one that is open at the end
abbrev pub cut_stray_and_open : List Placed
cut_stray_and_open =
    record { offset = 0; packet = packet.Exclusive 0 form.Start (1 ∷ 2 ∷ 3 ∷ 4 ∷ 5 ∷ 6 ∷ []) }
    ∷ record { offset = 8; packet = packet.Exclusive 0 form.Complete (7 ∷ 8 ∷ []) }
    ∷ record { offset = 16; packet = packet.Exclusive 0 form.Continue (9 ∷ []) }
    ∷ record { offset = 24; packet = packet.Exclusive 0 form.Start (10 ∷ []) }
    ∷ []

abbrev pub registered : ℕ → ℕ → Param
registered bank index = record { kind = Registered; bank = bank; index = index }

-- registered parameter 0/1 is selected by MIDI 1.0 packets, 0/0 is set by a MIDI 2.0 packet, and a data entry
-- comes
abbrev pub mixed_protocols : List Packet
mixed_protocols =
    packet.Voice1 0 (voice1.Control 0 0x65 0)
    ∷ packet.Voice1 0 (voice1.Control 0 0x64 1)
    ∷ packet.Voice2 0 (voice2.Set 0 (registered 0 0) 0x04000000)
    ∷ packet.Voice1 0 (voice1.Control 0 6 3)
    ∷ []

-- ---- bytes of a MIDI 1.0 stream

-- two notes under running status, and a clock between the data bytes of the second
abbrev pub notes_and_a_clock : List ℕ
notes_and_a_clock = 0x90 ∷ 0x3c ∷ 0x64 ∷ 0x3e ∷ 0xf8 ∷ 0x64 ∷ []

-- registered parameter 0/0 is selected, and takes a data entry MSB and LSB
abbrev pub entry_of_both_halves : List ℕ
entry_of_both_halves = 0xb0 ∷ 0x65 ∷ 0 ∷ 0x64 ∷ 0 ∷ 6 ∷ 2 ∷ 0x26 ∷ 5 ∷ []

-- it is selected, all controllers are reset, and a data entry comes
abbrev pub entry_after_reset : List ℕ
entry_after_reset = 0xb0 ∷ 0x65 ∷ 0 ∷ 0x64 ∷ 0 ∷ 0x79 ∷ 0 ∷ 6 ∷ 2 ∷ []

-- a program change without a bank, and one with both halves of a bank
abbrev pub program_alone : List ℕ
program_alone = 0xc0 ∷ 5 ∷ []

abbrev pub program_with_bank : List ℕ
program_with_bank = 0xb0 ∷ 0 ∷ 1 ∷ 0x20 ∷ 2 ∷ 0xc0 ∷ 5 ∷ []

-- an exclusive of seven bytes
abbrev pub long_exclusive : List ℕ
long_exclusive = 0xf0 ∷ 1 ∷ 2 ∷ 3 ∷ 4 ∷ 5 ∷ 6 ∷ 7 ∷ 0xf7 ∷ []

-- a stray data byte, a note that is cut, an exclusive that a tune request cuts, and an end of no exclusive
abbrev pub strays_and_cuts : List ℕ
strays_and_cuts = 5 ∷ 0x90 ∷ 0x3c ∷ 0xf0 ∷ 1 ∷ 0xf6 ∷ 0xf7 ∷ []

-- a note on of velocity 0; a controller; a bend
abbrev pub note_on_of_velocity_zero : List ℕ
note_on_of_velocity_zero = 0x90 ∷ 0x3c ∷ 0 ∷ []

abbrev pub controller_and_bend : List ℕ
controller_and_bend = 0xb0 ∷ 7 ∷ 0x64 ∷ 0xe0 ∷ 0x10 ∷ 0x4e ∷ []

-- parameter 0/1 is set after 0/0, which then takes an LSB
abbrev pub entries_of_two_parameters : List ℕ
entries_of_two_parameters =
    0xb0 ∷ 0x65 ∷ 0 ∷ 0x64 ∷ 0 ∷ 6 ∷ 2 ∷ 0x26 ∷ 5
    ∷ 0x65 ∷ 0 ∷ 0x64 ∷ 1 ∷ 6 ∷ 0x40
    ∷ 0x65 ∷ 0 ∷ 0x64 ∷ 0 ∷ 0x26 ∷ 7 ∷ []

-- an end cuts a note and an undefined byte an exclusive, another undefined byte comes, and a note is open at
-- the end; an exclusive that is open at the end
abbrev pub cuts_by_stray_bytes : List ℕ
cuts_by_stray_bytes = 0x90 ∷ 0x3c ∷ 0xf7 ∷ 0xf0 ∷ 1 ∷ 0xf4 ∷ 0xf9 ∷ 0x90 ∷ []

abbrev pub exclusive_without_end : List ℕ
exclusive_without_end = 0xf8 ∷ 0xf0 ∷ 1 ∷ 0xf8 ∷ []
