-- Worked rows of the way up, computed from the definitions alone.
use Rattle.std.proofs.Common.{◌≡◌, refl, [], ◌∷◌, reverse, Some, None, false}
use Rattle.voice_messages.specs.declared.voice1.System.TheVariants as system
use Rattle.voice_messages.specs.declared.voice2.Voice2.TheVariants as voice2
use Rattle.voice_messages.specs.declared.voice2.Form.TheVariants as form
use Rattle.ump_grammar.specs.declared.packet.Packet.TheVariants as packet
use Rattle.bit_scaling.specs.Scaling.{up, down14, release_down}
use Rattle.midi1_bytes.specs.Sorts.{sort_of}
use Rattle.listing_terms.specs.declared.listed.Kind.TheVariants as kinds
use Rattle.listing_terms.specs.declared.listed.BadStep.TheVariants as bad
use Rattle.midi_meaning.specs.Controllers.{role_of}
use Rattle.midi_meaning.specs.Raising.{packets_of_bytes}
use Rattle.midi_meaning.specs.StepListing.{listing_of_bytes}
use Rattle.midi_meaning.specs.Back.{back_of_bytes}
use Rattle.midi_meaning.specs.UpRefusal.{refusal_up}
use Rattle.midi_meaning.specs.Worked.Rows.{registered, notes_and_a_clock, entry_of_both_halves, entry_after_reset}
use Rattle.midi_meaning.specs.Worked.Rows.{note_on_of_velocity_zero, controller_and_bend, entries_of_two_parameters, program_alone}
use Rattle.midi_meaning.specs.Worked.Rows.{program_with_bank, long_exclusive, strays_and_cuts, cuts_by_stray_bytes, exclusive_without_end}

pub notes_up : packets_of_bytes false None 0 notes_and_a_clock
    ≡ packet.Voice2 0 (voice2.NoteOn 0 0x3c 0xc924 0 0) ∷ packet.System 0 system.Clock ∷ packet.Voice2 0 (voice2.NoteOn 0 0x3e 0xc924 0 0)
    ∷ []
unfolding sort_of up
notes_up = refl

pub entry_up : packets_of_bytes false None 0 entry_of_both_halves
    ≡ packet.Voice2 0 (voice2.Set 0 (registered 0 0) 0x04000000) ∷ packet.Voice2 0 (voice2.Set 0 (registered 0 0) 0x04140000) ∷ []
unfolding sort_of up role_of
entry_up = refl

pub reset_up : packets_of_bytes false None 0 entry_after_reset ≡ packet.Voice2 0 (voice2.Control 0 0x79 0) ∷ []
unfolding sort_of up role_of
reset_up = refl

pub reset_lines : listing_of_bytes false None 0 entry_after_reset
    ≡ record { offset = 8; group = Some 0; kind = kinds.IgnoredDataEntry } ∷ []
unfolding sort_of role_of
reset_lines = refl

pub program_up : packets_of_bytes false None 0 program_alone ≡ packet.Voice2 0 (voice2.Program 0 5 None) ∷ []
unfolding sort_of up role_of
program_up = refl

pub banked_up : packets_of_bytes false None 0 program_with_bank
    ≡ packet.Voice2 0 (voice2.Program 0 5 (Some (record { msb = 1; lsb = 2 }))) ∷ []
unfolding sort_of up role_of
banked_up = refl

pub exclusive_up : packets_of_bytes false None 3 long_exclusive
    ≡ packet.Exclusive 3 form.Start (1 ∷ 2 ∷ 3 ∷ 4 ∷ 5 ∷ 6 ∷ []) ∷ packet.Exclusive 3 form.End (7 ∷ []) ∷ []
unfolding sort_of
exclusive_up = refl

pub cuts_up : packets_of_bytes false None 0 strays_and_cuts ≡ packet.System 0 system.Tune ∷ []
unfolding sort_of
cuts_up = refl

pub cut_lines : listing_of_bytes false None 0 strays_and_cuts
    ≡ record { offset = 0; group = Some 0; kind = kinds.Stray } ∷ record { offset = 1; group = Some 0; kind = kinds.CutMessage }
    ∷ record { offset = 3; group = Some 0; kind = kinds.CutExclusive } ∷ record { offset = 6; group = Some 0; kind = kinds.Stray } ∷ []
unfolding sort_of role_of
cut_lines = refl

pub step_refused : refusal_up None (reverse (0xb0 ∷ 0x60 ∷ [])) 0 ≡ Some bad.DataIncrement
unfolding sort_of role_of
step_refused = refl

pub exclusive_refused : refusal_up (Some 6) (reverse (0xf0 ∷ 1 ∷ 2 ∷ 3 ∷ 4 ∷ 5 ∷ 6 ∷ [])) 7 ≡ Some bad.ExclusiveTooLong
unfolding sort_of
exclusive_refused = refl

pub zero_up : packets_of_bytes false None 0 note_on_of_velocity_zero ≡ packet.Voice2 0 (voice2.NoteOff 0 0x3c 0x8000 0 0) ∷ []
unfolding sort_of up
zero_up = refl

pub wide_up : packets_of_bytes false None 0 controller_and_bend
    ≡ packet.Voice2 0 (voice2.Control 0 7 0xc9249249) ∷ packet.Voice2 0 (voice2.Bend 0 0x9c40e207) ∷ []
unfolding sort_of up role_of
wide_up = refl

pub two_up : packets_of_bytes false None 0 entries_of_two_parameters
    ≡ packet.Voice2 0 (voice2.Set 0 (registered 0 0) 0x04000000) ∷ packet.Voice2 0 (voice2.Set 0 (registered 0 0) 0x04140000)
    ∷ packet.Voice2 0 (voice2.Set 0 (registered 0 1) 0x80000000) ∷ packet.Voice2 0 (voice2.Set 0 (registered 0 0) 0x041c0000) ∷ []
unfolding sort_of up role_of
two_up = refl

pub entry_back : back_of_bytes false None 0 entry_of_both_halves
    ≡ 0xb0 ∷ 0x65 ∷ 0 ∷ 0xb0 ∷ 0x64 ∷ 0 ∷ 0xb0 ∷ 6 ∷ 2 ∷ 0xb0 ∷ 0x26 ∷ 0 ∷ 0xb0 ∷ 0x65 ∷ 0 ∷ 0xb0 ∷ 0x64 ∷ 0 ∷ 0xb0 ∷ 6 ∷ 2 ∷ 0xb0 ∷ 0x26
    ∷ 5 ∷ []
unfolding sort_of up down14 role_of
entry_back = refl

pub zero_back : back_of_bytes false None 0 note_on_of_velocity_zero ≡ 0x80 ∷ 0x3c ∷ 0x40 ∷ []
unfolding sort_of up release_down
zero_back = refl

pub exclusive_back : back_of_bytes false None 3 long_exclusive ≡ long_exclusive
unfolding sort_of
exclusive_back = refl

pub order_lines : listing_of_bytes false None 2 cuts_by_stray_bytes
    ≡ record { offset = 0; group = Some 2; kind = kinds.CutMessage } ∷ record { offset = 2; group = Some 2; kind = kinds.Stray }
    ∷ record { offset = 3; group = Some 2; kind = kinds.CutExclusive } ∷ record { offset = 5; group = Some 2; kind = kinds.Undefined }
    ∷ record { offset = 6; group = Some 2; kind = kinds.Undefined } ∷ record { offset = 7; group = Some 2; kind = kinds.OpenMessage }
    ∷ []
unfolding sort_of
order_lines = refl

pub open_lines : listing_of_bytes false None 0 exclusive_without_end
    ≡ record { offset = 1; group = Some 0; kind = kinds.OpenExclusive } ∷ []
unfolding sort_of
open_lines = refl
