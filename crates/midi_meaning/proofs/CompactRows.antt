-- Worked rows of the compact style, computed from the definitions alone.
use Rattle.std.proofs.Common.{◌≡◌, refl, [], ◌∷◌, false}
use Rattle.bit_scaling.specs.Scaling.{up, down7, down14, release_down, velocity_down}
use Rattle.midi1_bytes.specs.Sorts.{sort_of}
use Rattle.midi_meaning.specs.Controllers.{role_of}
use Rattle.midi_meaning.specs.Styles.{compact_style, styled_pairs}
use Rattle.midi_meaning.specs.Worked.Rows.{mixed_protocols}
use Rattle.midi_meaning.specs.Worked.CompactRows.{notes_across_a_reset, notes_and_sets, notes_around_a_clock_and_an_exclusive, program_twice}
use Rattle.midi_meaning.specs.Worked.CompactRows.{programs_of_two_banks, selected_before, sets_across_a_reset, sets_of_two_groups}

pub notes_and_sets_pieces : styled_pairs false compact_style notes_and_sets
    ≡ (0, 0x90 ∷ 0x3c ∷ 0x64 ∷ []) ∷ (0, 0x3e ∷ 0x64 ∷ []) ∷ (0, 0xf6 ∷ []) ∷ (0, 0x90 ∷ 0x40 ∷ 0x64 ∷ [])
    ∷ (0, 0xb0 ∷ 0x65 ∷ 0 ∷ 0x64 ∷ 0 ∷ 6 ∷ 2 ∷ 0x26 ∷ 0 ∷ []) ∷ (0, 6 ∷ 2 ∷ 0x26 ∷ 0 ∷ []) ∷ (0, 0x79 ∷ 0 ∷ [])
    ∷ (0, 0x65 ∷ 0 ∷ 0x64 ∷ 0 ∷ 6 ∷ 2 ∷ 0x26 ∷ 0 ∷ []) ∷ []
unfolding up down7 down14 release_down velocity_down role_of sort_of
notes_and_sets_pieces = refl

pub program_twice_pieces : styled_pairs false compact_style program_twice ≡ (0, 0xb0 ∷ 0 ∷ 1 ∷ 0x20 ∷ 2 ∷ 0xc0 ∷ 5 ∷ []) ∷ (0, 5 ∷ []) ∷ []
unfolding up down7 down14 release_down velocity_down role_of sort_of
program_twice_pieces = refl

pub programs_of_two_banks_pieces : styled_pairs false compact_style programs_of_two_banks
    ≡ (0, 0xb0 ∷ 0 ∷ 1 ∷ 0x20 ∷ 2 ∷ 0xc0 ∷ 5 ∷ []) ∷ (0, 0xb0 ∷ 0 ∷ 1 ∷ 0x20 ∷ 3 ∷ 0xc0 ∷ 5 ∷ [])
    ∷ (0, 0xb0 ∷ 0 ∷ 4 ∷ 0x20 ∷ 3 ∷ 0xc0 ∷ 5 ∷ []) ∷ []
unfolding up down7 down14 release_down velocity_down role_of sort_of
programs_of_two_banks_pieces = refl

pub notes_across_a_reset_pieces : styled_pairs false compact_style notes_across_a_reset
    ≡ (0, 0x90 ∷ 0x3c ∷ 0x64 ∷ []) ∷ (0, 0xff ∷ []) ∷ (0, 0x90 ∷ 0x3e ∷ 0x64 ∷ []) ∷ []
unfolding up down7 down14 release_down velocity_down role_of sort_of
notes_across_a_reset_pieces = refl

pub sets_across_a_reset_pieces : styled_pairs false compact_style sets_across_a_reset
    ≡ (0, 0xb0 ∷ 0x65 ∷ 0 ∷ 0x64 ∷ 0 ∷ 6 ∷ 2 ∷ 0x26 ∷ 0 ∷ []) ∷ (0, 0xff ∷ []) ∷ (0, 0xb0 ∷ 0x65 ∷ 0 ∷ 0x64 ∷ 0 ∷ 6 ∷ 2 ∷ 0x26 ∷ 0 ∷ [])
    ∷ []
unfolding up down7 down14 release_down velocity_down role_of sort_of
sets_across_a_reset_pieces = refl

pub notes_around_a_clock_and_an_exclusive_pieces : styled_pairs false compact_style notes_around_a_clock_and_an_exclusive
    ≡ (0, 0x90 ∷ 0x3c ∷ 0x64 ∷ []) ∷ (0, 0xf8 ∷ []) ∷ (0, 0x3e ∷ 0x64 ∷ []) ∷ (0, 0xf0 ∷ 1 ∷ 0xf7 ∷ []) ∷ (0, 0x90 ∷ 0x40 ∷ 0x64 ∷ []) ∷ []
unfolding up down7 down14 release_down velocity_down role_of sort_of
notes_around_a_clock_and_an_exclusive_pieces = refl

pub mixed_protocols_pieces : styled_pairs false compact_style mixed_protocols
    ≡ (0, 0xb0 ∷ 0x65 ∷ 0 ∷ []) ∷ (0, 0x64 ∷ 1 ∷ []) ∷ (0, 0x65 ∷ 0 ∷ 0x64 ∷ 0 ∷ 6 ∷ 2 ∷ 0x26 ∷ 0 ∷ []) ∷ (0, 6 ∷ 3 ∷ []) ∷ []
unfolding up down7 down14 release_down velocity_down role_of sort_of
mixed_protocols_pieces = refl

pub selected_before_pieces : styled_pairs false compact_style selected_before
    ≡ (0, 0xb0 ∷ 0x65 ∷ 0 ∷ []) ∷ (0, 0x64 ∷ 0 ∷ []) ∷ (0, 6 ∷ 2 ∷ 0x26 ∷ 0 ∷ []) ∷ (0, 0x64 ∷ 0 ∷ []) ∷ []
unfolding up down7 down14 release_down velocity_down role_of sort_of
selected_before_pieces = refl

pub sets_of_two_groups_pieces : styled_pairs false compact_style sets_of_two_groups
    ≡ (0, 0xb0 ∷ 0x65 ∷ 0 ∷ 0x64 ∷ 0 ∷ 6 ∷ 2 ∷ 0x26 ∷ 0 ∷ []) ∷ (1, 0xb0 ∷ 0x65 ∷ 0 ∷ 0x64 ∷ 0 ∷ 6 ∷ 2 ∷ 0x26 ∷ 0 ∷ [])
    ∷ (0, 6 ∷ 2 ∷ 0x26 ∷ 0 ∷ []) ∷ []
unfolding up down7 down14 release_down velocity_down role_of sort_of
sets_of_two_groups_pieces = refl
