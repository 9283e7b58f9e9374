-- Worked rows of the compact style: packets whose pieces are computed from the definitions alone.
use Rattle.std.specs.Prelude.{ℕ, List, [], ◌∷◌, Some}
use Rattle.voice_messages.specs.declared.voice1.System.TheVariants as system
use Rattle.voice_messages.specs.declared.voice1.Voice1.TheVariants as voice1
use Rattle.voice_messages.specs.declared.voice2.Form.TheVariants as form
use Rattle.voice_messages.specs.declared.voice2.Voice2.TheVariants as voice2
use Rattle.ump_grammar.specs.declared.packet.Packet.{Packet}
use Rattle.ump_grammar.specs.declared.packet.Packet.TheVariants as packet
use Rattle.midi_meaning.specs.Worked.Rows.{registered}

abbrev pub note : ℕ → Packet
note number = packet.Voice2 0 (voice2.NoteOn 0 number 0xc924 0 0)

-- registered parameter 0/0 is set in a group
abbrev pub set_in : ℕ → Packet
set_in group = packet.Voice2 group (voice2.Set 0 (registered 0 0) 0x04000000)

-- a program with a bank
abbrev pub program_of : ℕ → ℕ → Packet
program_of msb lsb = packet.Voice2 0 (voice2.Program 0 5 (Some (record { msb = msb; lsb = lsb })))

-- notes with a tune request between them, the parameter twice, all controllers reset, and the parameter again
abbrev pub notes_and_sets : List Packet
notes_and_sets =
    note 0x3c ∷ note 0x3e ∷ packet.System 0 system.Tune ∷ note 0x40 ∷ set_in 0 ∷ set_in 0
    ∷ packet.Voice2 0 (voice2.Control 0 0x79 0) ∷ set_in 0 ∷ []

abbrev pub program_twice : List Packet
program_twice = program_of 1 2 ∷ program_of 1 2 ∷ []

-- one half of the bank differs
abbrev pub programs_of_two_banks : List Packet
programs_of_two_banks = program_of 1 2 ∷ program_of 1 3 ∷ program_of 4 3 ∷ []

abbrev pub notes_across_a_reset : List Packet
notes_across_a_reset = note 0x3c ∷ packet.System 0 system.Reset ∷ note 0x3e ∷ []

abbrev pub sets_across_a_reset : List Packet
sets_across_a_reset = set_in 0 ∷ packet.System 0 system.Reset ∷ set_in 0 ∷ []

-- a clock leaves the running status; an exclusive ends it
abbrev pub notes_around_a_clock_and_an_exclusive : List Packet
notes_around_a_clock_and_an_exclusive =
    note 0x3c ∷ packet.System 0 system.Clock ∷ note 0x3e
    ∷ packet.Exclusive 0 form.Complete (1 ∷ []) ∷ note 0x40 ∷ []

-- the parameter is selected by MIDI 1.0 packets, which are written also if they are needless
abbrev pub selected_before : List Packet
selected_before =
    packet.Voice1 0 (voice1.Control 0 0x65 0) ∷ packet.Voice1 0 (voice1.Control 0 0x64 0) ∷ set_in 0
    ∷ packet.Voice1 0 (voice1.Control 0 0x64 0) ∷ []

-- each lane has registers and a running status of its own
abbrev pub sets_of_two_groups : List Packet
sets_of_two_groups = set_in 0 ∷ set_in 1 ∷ set_in 0 ∷ []
