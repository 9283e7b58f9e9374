-- Worked rows of the meaning: bytes and packets, and what they leave, as the standards' tables have it.
use Rattle.std.specs.Prelude.{ℕ, List, [], ◌∷◌, ◌++◌, map, Option, Some, None, false}
use Rattle.voice_messages.specs.declared.voice1.System.TheVariants as system
use Rattle.voice_messages.specs.declared.voice1.Voice1.TheVariants as voice1
use Rattle.voice_messages.specs.declared.voice2.Bank.{Bank}
use Rattle.voice_messages.specs.declared.voice2.Form.TheVariants as form
use Rattle.voice_messages.specs.declared.voice2.Param.{Param}
use Rattle.voice_messages.specs.declared.voice2.ParamKind.TheVariants.{Assignable, Registered}
use Rattle.voice_messages.specs.declared.voice2.Voice2.TheVariants as voice2
use Rattle.ump_grammar.specs.declared.packet.Packet.{Packet}
use Rattle.ump_grammar.specs.declared.packet.Packet.TheVariants as packet
use Rattle.midi_meaning.specs.Messages.{mean1}
use Rattle.midi_meaning.specs.Packets.{mean2}
use Rattle.listing_terms.specs.Parts.{Placed}
use Rattle.midi_meaning.specs.Registers.{Pair, Registers}
use Rattle.midi_meaning.specs.Worked.Rows.{registered}
use Rattle.midi_meaning.specs.State.{Channel}

-- what bytes leave in channel 0
abbrev pub over_bytes : List ℕ → Channel
over_bytes bytes = (mean1 false bytes).channels 0

-- what packets leave in channel 0 of group 0
abbrev pub over_packets : List Packet → Channel
over_packets packets = (mean2 false packets 0).channels 0

-- the values of some controllers
abbrev pub controllers_at : List ℕ → Channel → List (Option ℕ)
controllers_at indexes channel = map channel.controllers indexes

abbrev pub assignable : ℕ → ℕ → Param
assignable bank index = record { kind = Assignable; bank = bank; index = index }

abbrev pub whole_pair : ℕ → ℕ → Pair
whole_pair msb lsb = record { msb = Some msb; lsb = Some lsb }

-- ---- reset all controllers

-- controllers 11, 1, 64 to 67, 63 and 68, a bank, registered parameter 0/0 with a data entry, a bend, both
-- pressures; and then control change 121
abbrev pub bytes_with_reset : List ℕ
bytes_with_reset =
    0xb0 ∷ 11 ∷ 32 ∷ 1 ∷ 64 ∷ 64 ∷ 127 ∷ 65 ∷ 127 ∷ 66 ∷ 127 ∷ 67 ∷ 127 ∷ 63 ∷ 17 ∷ 68 ∷ 18
    ∷ 0 ∷ 1 ∷ 32 ∷ 2 ∷ 101 ∷ 0 ∷ 100 ∷ 0 ∷ 6 ∷ 2
    ∷ 0xe0 ∷ 0 ∷ 0 ∷ 0xd0 ∷ 51 ∷ 0xa0 ∷ 60 ∷ 34
    ∷ 0xb0 ∷ 121 ∷ 0 ∷ []

abbrev pub packets_before_reset : List Packet
packets_before_reset =
    packet.Voice2 0 (voice2.Control 0 11 0x20000000)
    ∷ packet.Voice2 0 (voice2.Control 0 1 0x30000000)
    ∷ packet.Voice2 0 (voice2.Control 0 64 0xffffffff)
    ∷ packet.Voice2 0 (voice2.Control 0 65 0xffffffff)
    ∷ packet.Voice2 0 (voice2.Control 0 66 0xffffffff)
    ∷ packet.Voice2 0 (voice2.Control 0 67 0xffffffff)
    ∷ packet.Voice2 0 (voice2.Control 0 63 0x17000000)
    ∷ packet.Voice2 0 (voice2.Control 0 68 0x18000000)
    ∷ packet.Voice2 0 (voice2.Program 0 5 (Some (record { msb = 1; lsb = 2 })))
    ∷ packet.Voice2 0 (voice2.Set 0 (registered 0 0) 0x04000000)
    ∷ packet.Voice2 0 (voice2.Bend 0 0x10000000)
    ∷ packet.Voice2 0 (voice2.Pressure 0 0x20000000)
    ∷ packet.Voice2 0 (voice2.PolyPressure 0 60 0x30000000)
    ∷ []

-- control change 121 in a MIDI 2.0 packet, and in one of MIDI 1.0
abbrev pub packets_with_reset : List Packet
packets_with_reset = packets_before_reset ++ packet.Voice2 0 (voice2.Control 0 121 0) ∷ []

abbrev pub packets_with_midi1_reset : List Packet
packets_with_midi1_reset = packets_before_reset ++ packet.Voice1 0 (voice1.Control 0 121 0) ∷ []

-- the bank 1/2 is kept, and both parameter numbers are the null number
abbrev pub registers_after_reset : Registers
registers_after_reset =
    record {
      bank = whole_pair 1 2;
      registered = whole_pair 127 127;
      assignable = whole_pair 127 127;
      touched = Some Registered;
    }

-- ---- voice messages

-- two notes on, one of velocity 0, a note off, both pressures, a controller, a program and a bend
abbrev pub bytes_of_each_kind : List ℕ
bytes_of_each_kind =
    0x90 ∷ 60 ∷ 100 ∷ 62 ∷ 0 ∷ 0x80 ∷ 60 ∷ 32
    ∷ 0xa0 ∷ 60 ∷ 100 ∷ 0xd0 ∷ 32
    ∷ 0xb0 ∷ 7 ∷ 64 ∷ 0xc0 ∷ 5 ∷ 0xe0 ∷ 0x10 ∷ 0x4e ∷ []

-- the same in packets of the MIDI 1.0 protocol
abbrev pub midi1_packets_of_each_kind : List Packet
midi1_packets_of_each_kind =
    packet.Voice1 0 (voice1.NoteOn 0 60 100)
    ∷ packet.Voice1 0 (voice1.NoteOn 0 62 0)
    ∷ packet.Voice1 0 (voice1.NoteOff 0 60 32)
    ∷ packet.Voice1 0 (voice1.PolyPressure 0 60 100)
    ∷ packet.Voice1 0 (voice1.Pressure 0 32)
    ∷ packet.Voice1 0 (voice1.Control 0 7 64)
    ∷ packet.Voice1 0 (voice1.Program 0 5)
    ∷ packet.Voice1 0 (voice1.Bend 0 10000)
    ∷ []

-- packets of the MIDI 2.0 protocol; their values, velocity 0 included, are kept as they come
abbrev pub midi2_packets_of_each_kind : List Packet
midi2_packets_of_each_kind =
    packet.Voice2 0 (voice2.NoteOn 0 60 511 0 0)
    ∷ packet.Voice2 0 (voice2.NoteOn 0 62 0 0 0)
    ∷ packet.Voice2 0 (voice2.NoteOff 0 60 0 3 4)
    ∷ packet.Voice2 0 (voice2.PolyPressure 0 60 0x12345678)
    ∷ packet.Voice2 0 (voice2.Pressure 0 0x23456789)
    ∷ packet.Voice2 0 (voice2.Control 0 7 0x3456789a)
    ∷ packet.Voice2 0 (voice2.Program 0 5 None)
    ∷ packet.Voice2 0 (voice2.Bend 0 0x456789ab)
    ∷ []

-- what MIDI 1.0 has no message for, and the control changes that have packets of their own
abbrev pub packets_without_meaning : List Packet
packets_without_meaning =
    packet.Voice2 0 (voice2.NoteController 0 Registered 60 3 0x12345678)
    ∷ packet.Voice2 0 (voice2.NoteBend 0 60 0x12345678)
    ∷ packet.Voice2 0 (voice2.NoteManagement 0 60 3)
    ∷ packet.Voice2 0 (voice2.Control 0 0 0x10000000)
    ∷ packet.Voice2 0 (voice2.Control 0 6 0x10000000)
    ∷ packet.Voice2 0 (voice2.Control 0 101 0x10000000)
    ∷ packet.Voice2 0 (voice2.Set 0 (registered 127 127) 0x10000000)
    ∷ packet.Voice2 0 (voice2.Shift 0 (assignable 127 127) 0x10000000)
    ∷ []

-- ---- parameters

-- assignable parameter 1/2 takes an MSB, and registered 0/1 an LSB alone; then the null number is selected,
-- and an MSB comes
abbrev pub bytes_with_parameters : List ℕ
bytes_with_parameters =
    0xb0 ∷ 99 ∷ 1 ∷ 98 ∷ 2 ∷ 6 ∷ 3
    ∷ 101 ∷ 0 ∷ 100 ∷ 1 ∷ 38 ∷ 5
    ∷ 101 ∷ 127 ∷ 100 ∷ 127 ∷ 6 ∷ 64 ∷ []

-- registered parameter 0/0 is set and changed; 0/1 is changed, and takes an LSB and an MSB of MIDI 1.0
abbrev pub packets_with_parameters : List Packet
packets_with_parameters =
    packet.Voice2 0 (voice2.Set 0 (registered 0 0) 0x04000000)
    ∷ packet.Voice2 0 (voice2.Shift 0 (registered 0 0) 0x00000005)
    ∷ packet.Voice2 0 (voice2.Shift 0 (registered 0 1) 0x00000005)
    ∷ packet.Voice1 0 (voice1.Control 0 101 0)
    ∷ packet.Voice1 0 (voice1.Control 0 100 1)
    ∷ packet.Voice1 0 (voice1.Control 0 38 5)
    ∷ []

abbrev pub one_more_msb : Packet
one_more_msb = packet.Voice1 0 (voice1.Control 0 6 2)

-- ---- programs

abbrev pub bank_of_halves : ℕ → ℕ → Bank
bank_of_halves msb lsb = record { msb = msb; lsb = lsb }

-- a program with bank 1/2, and then one without
abbrev pub packets_with_programs : List Packet
packets_with_programs =
    packet.Voice2 0 (voice2.Program 0 5 (Some (bank_of_halves 1 2)))
    ∷ packet.Voice2 0 (voice2.Program 0 6 None)
    ∷ []

-- one half of a bank by a MIDI 1.0 packet, and then a program
abbrev pub packets_with_half_a_bank : List Packet
packets_with_half_a_bank = packet.Voice1 0 (voice1.Control 0 32 2) ∷ packet.Voice2 0 (voice2.Program 0 6 None) ∷ []

-- ---- system messages

-- a quarter frame, a clock within an exclusive, a tune request, and a reset
abbrev pub bytes_of_the_system : List ℕ
bytes_of_the_system = 0xf1 ∷ 0x21 ∷ 0xf0 ∷ 1 ∷ 0xf8 ∷ 2 ∷ 0xf7 ∷ 0xf6 ∷ 0xff ∷ []

abbrev pub packets_of_the_system : List Packet
packets_of_the_system =
    packet.System 0 (system.Quarter 0x21)
    ∷ packet.Exclusive 0 form.Start (1 ∷ [])
    ∷ packet.System 0 system.Clock
    ∷ packet.Exclusive 0 form.End (2 ∷ [])
    ∷ packet.System 0 system.Tune
    ∷ packet.System 1 system.Start
    ∷ packet.System 0 system.Reset
    ∷ []

-- ---- channel mode messages

-- control changes 119 and 120, 122 to 127
abbrev pub bytes_of_modes : List ℕ
bytes_of_modes = 0xb0 ∷ 119 ∷ 5 ∷ 120 ∷ 0 ∷ 122 ∷ 127 ∷ 123 ∷ 0 ∷ 124 ∷ 0 ∷ 125 ∷ 0 ∷ 126 ∷ 1 ∷ 127 ∷ 0 ∷ []

abbrev pub packets_of_modes : List Packet
packets_of_modes =
    packet.Voice2 0 (voice2.Control 0 119 0x12345678)
    ∷ packet.Voice2 0 (voice2.Control 0 120 0x12345678)
    ∷ packet.Voice1 0 (voice1.Control 0 122 127)
    ∷ packet.Voice2 0 (voice2.Control 0 127 0)
    ∷ []

-- ---- listed packets

abbrev pub placed_at : ℕ → Packet → Placed
placed_at offset packet = record { offset = offset; packet = packet }

-- one packet, or a few, of each kind that is listed
abbrev pub packets_of_each_listed_kind : List Placed
packets_of_each_listed_kind =
    placed_at 0 (packet.Utility 0 0)
    ∷ placed_at 4 (packet.Stream 0 0 0x0101 0 0 0)
    ∷ placed_at 20 (packet.Reserved (0x60000000 ∷ []))
    ∷ placed_at 24 (packet.Data8 5 (0x55000000 ∷ 0 ∷ 0 ∷ 0 ∷ []))
    ∷ placed_at 40 (packet.Flex 6 (0xd6000000 ∷ 0 ∷ 0 ∷ 0 ∷ []))
    ∷ placed_at 56 (packet.Voice2 1 (voice2.NoteOn 0 60 511 1 0))
    ∷ placed_at 64 (packet.Voice2 1 (voice2.NoteOff 0 60 511 3 7))
    ∷ placed_at 72 (packet.Voice2 1 (voice2.NoteController 0 Assignable 60 3 4))
    ∷ placed_at 80 (packet.Voice2 2 (voice2.NoteBend 0 60 4))
    ∷ placed_at 88 (packet.Voice2 2 (voice2.NoteManagement 0 60 1))
    ∷ placed_at 96 (packet.Voice2 2 (voice2.Set 0 (registered 127 127) 4))
    ∷ placed_at 104 (packet.Voice2 2 (voice2.Shift 0 (assignable 127 127) 4))
    ∷ placed_at 112 (packet.Voice2 2 (voice2.Shift 0 (registered 0 0) 4))
    ∷ []

-- control changes of MIDI 2.0 that have packets of their own
abbrev pub misplaced_packets : List Placed
misplaced_packets =
    placed_at 0 (packet.Voice2 3 (voice2.Control 0 0 4))
    ∷ placed_at 8 (packet.Voice2 3 (voice2.Control 0 6 4))
    ∷ placed_at 16 (packet.Voice2 3 (voice2.Control 0 32 4))
    ∷ placed_at 24 (packet.Voice2 3 (voice2.Control 0 38 4))
    ∷ placed_at 32 (packet.Voice2 3 (voice2.Control 0 98 4))
    ∷ placed_at 40 (packet.Voice2 3 (voice2.Control 0 99 4))
    ∷ placed_at 48 (packet.Voice2 3 (voice2.Control 0 100 4))
    ∷ placed_at 56 (packet.Voice2 3 (voice2.Control 0 101 4))
    ∷ []

-- carried packets, which are not listed
abbrev pub packets_without_lines : List Placed
packets_without_lines =
    placed_at 0 (packet.System 0 system.Clock)
    ∷ placed_at 4 (packet.Voice1 0 (voice1.Control 0 0 1))
    ∷ placed_at 8 (packet.Exclusive 0 form.Complete (1 ∷ []))
    ∷ placed_at 16 (packet.Voice2 0 (voice2.NoteOn 0 60 511 0 0))
    ∷ placed_at 24 (packet.Voice2 0 (voice2.Control 0 102 4))
    ∷ placed_at 32 (packet.Voice2 0 (voice2.Set 0 (registered 127 126) 4))
    ∷ placed_at 40 (packet.Voice2 0 (voice2.Program 0 5 None))
    ∷ placed_at 48 (packet.Voice2 0 (voice2.Pressure 0 4))
    ∷ placed_at 56 (packet.Voice2 0 (voice2.Bend 0 4))
    ∷ []
