-- Worked rows, computed from the definitions alone.
use Rattle.std.proofs.Common.{◌≡◌, refl, [], ◌∷◌, Some, None, false}
use Rattle.std.specs.Prelude.{map}
use Rattle.bit_scaling.specs.Scaling.{down14}
use Rattle.midi1_bytes.specs.Sorts.{sort_of}
use Rattle.listing_terms.specs.declared.listed.Kind.TheVariants as kinds
use Rattle.midi_meaning.specs.Controllers.{role_of}
use Rattle.midi_meaning.specs.Messages.{mean1}
use Rattle.midi_meaning.specs.Listing.{listing_of}
use Rattle.midi_meaning.specs.Lanes.{plain_pairs, lane_bytes}
use Rattle.midi_meaning.specs.Worked.Rows.{exclusives_of_two_groups, cut_stray_and_open, mixed_protocols, registered}

pub joined_by_group : plain_pairs false exclusives_of_two_groups
    ≡ (1, 0xf0 ∷ 0x11 ∷ 0x12 ∷ 0xf7 ∷ []) ∷ (0, 0xf0 ∷ 1 ∷ 2 ∷ 3 ∷ 4 ∷ 5 ∷ 6 ∷ 7 ∷ 0xf7 ∷ []) ∷ []
joined_by_group = refl

pub cut_pairs : plain_pairs false (map (λ placed. placed.packet) cut_stray_and_open) ≡ (0, 0xf0 ∷ 7 ∷ 8 ∷ 0xf7 ∷ []) ∷ []
cut_pairs = refl

pub cut_listing : listing_of false None cut_stray_and_open
    ≡ record { offset = 0; group = Some 0; kind = kinds.CutExclusive } ∷ record { offset = 16; group = Some 0; kind = kinds.StrayExclusive }
    ∷ record { offset = 24; group = Some 0; kind = kinds.OpenExclusive } ∷ []
cut_listing = refl

pub mixed_pairs : plain_pairs false mixed_protocols
    ≡ (0, 0xb0 ∷ 0x65 ∷ 0 ∷ []) ∷ (0, 0xb0 ∷ 0x64 ∷ 1 ∷ []) ∷ (0, 0xb0 ∷ 0x65 ∷ 0 ∷ 0xb0 ∷ 0x64 ∷ 0 ∷ 0xb0 ∷ 6 ∷ 2 ∷ 0xb0 ∷ 0x26 ∷ 0 ∷ [])
    ∷ (0, 0xb0 ∷ 6 ∷ 3 ∷ []) ∷ []
unfolding down14
mixed_pairs = refl

pub set_by_entry : ((mean1 false (lane_bytes 0 (plain_pairs false mixed_protocols))).channels 0).params (registered 0 0) ≡ Some 384
unfolding down14 sort_of role_of
set_by_entry = refl

pub never_set : ((mean1 false (lane_bytes 0 (plain_pairs false mixed_protocols))).channels 0).params (registered 0 1) ≡ None
unfolding down14 sort_of role_of
never_set = refl
