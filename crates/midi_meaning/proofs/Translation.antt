-- The plain pairs are a translation.
use Rattle.std.proofs.Common.{ℕ, ◌≡◌, ◌∙◌, ap, sym, refl, subst, List, [], ◌∷◌, ◌++◌, reverse, length, take}
use Rattle.std.proofs.Common.{drop, Option, Some, None, Bool, true, false, append_assoc, take-append-drop}
use Rattle.std.specs.Prelude.{map}
use Rattle.std.proofs.lemmas.List.{append-nil, reverse-append, map-append, length-map}
use Rattle.std.proofs.Math.Seq.{take-append_seam}
use Rattle.std.specs.List.{AllByRecursion}
use Rattle.ump_grammar.specs.declared.packet.Packet.{Packet}
use Rattle.midi1_bytes.specs.Laws.{WrittenMessagesAreReadAgain}
use Rattle.midi_meaning.specs.Messages.{mean1}
use Rattle.listing_terms.specs.Parts.{group_of, whole_of}
use Rattle.midi_meaning.specs.Packets.{mean2, IsInRange}
use Rattle.midi_meaning.specs.Agreement.{Agrees}
use Rattle.midi_meaning.specs.Listing.{is_carried}
use Rattle.midi_meaning.specs.Plain.{plain_piece}
use Rattle.midi_meaning.specs.Lanes.{pair_by, pair_of, pairs_over, plain_pairs, lane_bytes}
use Rattle.midi_meaning.specs.Translation.{lane_by, lanes_over, carried_lanes, IsTranslation}
use Rattle.midi_meaning.proofs.Recording.{recording_agrees}

-- ---- one pair for each packet that is carried

pub pair_by-lane : (o : Option ℕ) (t : Bool) (piece : List ℕ) → map (λ (pair : ℕ × List ℕ). pair.0) (pair_by o t piece) ≡ lane_by o t
pair_by-lane None t piece = refl
pair_by-lane (Some l) true piece = refl
pair_by-lane (Some l) false piece = refl

pub all_take : (count : ℕ) (packets : List Packet) → AllByRecursion IsInRange packets → AllByRecursion IsInRange (take count packets)
all_take count packets a =
    first (take count packets) (drop count packets) (subst (AllByRecursion IsInRange) (sym (take-append-drop count packets)) a)
  where
    first : (before after : List Packet) → AllByRecursion IsInRange (before ++ after) → AllByRecursion IsInRange before
    first [] after a = tt
    first (p ∷ before) after a = (a.0, first before after a.1)

module _ (paired : Bool) where
  pairs-lanes : (past : List Packet) → map (λ (pair : ℕ × List ℕ). pair.0) (pairs_over paired past) ≡ lanes_over paired past
  pairs-lanes [] = refl
  pairs-lanes (p ∷ past) =
      let whole = whole_of past p in
      map-append (λ (pair : ℕ × List ℕ). pair.0) (pairs_over paired past) (pair_of paired past p)
      ∙ ap (λ l. l ++ map (λ (pair : ℕ × List ℕ). pair.0) (pair_of paired past p)) (pairs-lanes past)
      ∙ ap (λ l. lanes_over paired past ++ l) (pair_by-lane (group_of p) (is_carried paired whole p) (plain_piece paired whole p))

  length-pairs : (packets : List Packet) → length (plain_pairs paired packets) ≡ length (carried_lanes paired packets)
  length-pairs packets =
      sym (length-map (plain_pairs paired packets) (λ (pair : ℕ × List ℕ). pair.0)) ∙ ap length (pairs-lanes (reverse packets))

  -- ---- the pairs of the first packets come first

  -- the pairs of further packets, newest first as those before them
  pairs_since : List Packet → List Packet → List (ℕ × List ℕ)
  pairs_since past [] = []
  pairs_since past (p ∷ more) = pairs_since past more ++ pair_of paired (more ++ past) p

  pairs_over-more : (more past : List Packet) → pairs_over paired (more ++ past) ≡ pairs_over paired past ++ pairs_since past more
  unfolding pairs_since
  pairs_over-more [] past = sym (append-nil (pairs_over paired past))
  pairs_over-more (p ∷ more) past =
      ap (λ l. l ++ pair_of paired (more ++ past) p) (pairs_over-more more past)
      ∙ append_assoc (pairs_over paired past) (pairs_since past more) (pair_of paired (more ++ past) p)

  plain_pairs-append : (before after : List Packet)
      → plain_pairs paired (before ++ after) ≡ plain_pairs paired before ++ pairs_since (reverse before) (reverse after)
  plain_pairs-append before after = ap (pairs_over paired) (reverse-append before after) ∙ pairs_over-more (reverse after) (reverse before)

  pairs_of_first : (before after : List Packet)
      → take (length (carried_lanes paired before)) (plain_pairs paired (before ++ after)) ≡ plain_pairs paired before
  pairs_of_first before after =
      ap (λ n. take n (plain_pairs paired (before ++ after))) (sym (length-pairs before))
      ∙ ap (take (length (plain_pairs paired before))) (plain_pairs-append before after)
      ∙ take-append_seam (plain_pairs paired before) (pairs_since (reverse before) (reverse after))

  pub plain_is_translation : WrittenMessagesAreReadAgain → (packets : List Packet) → AllByRecursion IsInRange packets
      → IsTranslation paired packets (plain_pairs paired packets)
  plain_is_translation reads packets a = record {
    lanes = pairs-lanes (reverse packets);
    agrees = λ count group.
        let before = take count packets in
        let first : take (length (carried_lanes paired before)) (plain_pairs paired packets) ≡ plain_pairs paired before =
        ap (λ l. take (length (carried_lanes paired before)) (plain_pairs paired l)) (sym (take-append-drop count packets))
        ∙ pairs_of_first before (drop count packets) in
        subst (λ pairs. Agrees paired (mean1 paired (lane_bytes group pairs)) (mean2 paired before group)) (sym first)
        (recording_agrees paired reads before group (all_take count packets a));
  }
