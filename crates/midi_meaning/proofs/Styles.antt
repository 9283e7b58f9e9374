-- A recording in either style: the bytes of each lane denote the packets of its group, and the pairs are a
-- translation.
use Rattle.std.proofs.Common.{ℕ, ◌≡◌, ◌<◌, ◌∙◌, ap, sym, refl, subst, List, [], ◌∷◌, ◌++◌, reverse, length, take, drop}
use Rattle.std.proofs.Common.{Option, Some, None, Bool, true, false, cond, arith, append_assoc, take-append-drop}
use Rattle.std.proofs.lemmas.Bool.{eqb-true}
use Rattle.std.proofs.lemmas.List.{append-nil, reverse-append, map-append, length-map}
use Rattle.std.proofs.lemmas.Grind.{flat_map-append}
use Rattle.std.proofs.Math.Seq.{take-append_seam}
use Rattle.std.specs.Prelude.{◌↔◌, IsTrue, map}
use Rattle.std.specs.List.{AllByRecursion}
use mathlib.Core.List.{reverse_aux}
use Rattle.ump_grammar.specs.declared.packet.Packet.{Packet}
use Rattle.midi1_bytes.specs.Laws.{StatusesThatRunCanBeLeftOut, WrittenMessagesAreReadAgain}
use Rattle.midi1_bytes.specs.Stream.{open_in}
use Rattle.listing_terms.specs.Parts.{group_of, is_group, whole_of}
use Rattle.midi_meaning.specs.Messages.{mean1, meaning1}
use Rattle.midi_meaning.specs.Packets.{mean2, meaning2, step2, IsInRange}
use Rattle.midi_meaning.specs.Agreement.{Agrees, SameRegisters}
use Rattle.midi_meaning.specs.Listing.{is_carried}
use Rattle.midi_meaning.specs.Lanes.{pairs_over, bytes_for, lane_bytes, Denotes}
use Rattle.midi_meaning.specs.Translation.{lanes_over, carried_lanes, IsTranslation}
use Rattle.midi_meaning.specs.Compact.{compact_piece}
use Rattle.midi_meaning.specs.Relied.{IsRelied}
use Rattle.midi_meaning.specs.Styles.{Style, plain_style, compact_style, piece_in, lane_so_far, styled_pair, styled_over, styled_pairs}
use Rattle.midi_meaning.proofs.Compact.{start_relied, more_relied, compact_matches, uncarried_compact, carried_compact}
use Rattle.midi_meaning.proofs.Induction.{plain_is_message, matches_of, denotes_of, start_denotes, one_more}
use Rattle.midi_meaning.proofs.Joined.{whole_data}
use Rattle.midi_meaning.proofs.Packets.{GroupMatches}
use Rattle.midi_meaning.proofs.Recording.{carried_has_piece, lane_bytes-pair, uncarried}
use Rattle.midi_meaning.proofs.Translation.{all_take, pair_by-lane}

same_lane : (o : Option ℕ) (g : ℕ) (pairs : List (ℕ × List ℕ)) → is_group o g ≡ true → lane_so_far o pairs ≡ reverse (lane_bytes g pairs)
same_lane None g pairs e = cc
same_lane (Some l) g pairs e = ap (λ k. reverse (lane_bytes k pairs)) (eqb-true l g e)

all_turned : (xs acc : List Packet) → AllByRecursion IsInRange xs → AllByRecursion IsInRange acc
    → AllByRecursion IsInRange (reverse_aux xs acc)
all_turned [] acc h k = k
all_turned (x ∷ xs) acc h k = all_turned xs (x ∷ acc) h.1 (h.0, k)

-- ---- a packet is carried exactly when it has a piece

module _ (paired : Bool) where
  uncarried_piece : (style : Style) (past : List ℕ) (whole : Option (List ℕ)) (p : Packet) → is_carried paired whole p ≡ false
      → piece_in paired style past whole p ≡ []
  uncarried_piece plain_style past whole p e = uncarried paired whole p e
  uncarried_piece compact_style past whole p e = uncarried_compact paired past whole p e

  pub styled_has_piece : StatusesThatRunCanBeLeftOut → (style : Style) (past : List ℕ) (whole : Option (List ℕ)) (p : Packet)
      → IsTrue (is_carried paired whole p) ↔ (0 < length (piece_in paired style past whole p))
  styled_has_piece rules plain_style past whole p = carried_has_piece paired whole p
  styled_has_piece rules compact_style past whole p = (carried_compact paired rules past whole p, go (is_carried paired whole p) refl)
    where
      nothing_below : (xs : List ℕ) → xs ≡ [] → 0 < length xs → ⊥
      nothing_below xs e h = omega (arith, subst (λ ys. 0 < length ys) e h)

      go : (t : Bool) → is_carried paired whole p ≡ t → 0 < length (compact_piece paired past whole p) → is_carried paired whole p ≡ true
      go true e h = e
      go false e h = absurd (nothing_below (compact_piece paired past whole p) (uncarried_compact paired past whole p e) h)

  -- ---- the lanes

  abbrev pub styled_lane : Style → List Packet → ℕ → List ℕ
  styled_lane style past g = reverse (lane_bytes g (styled_over paired style past))

  -- the bytes of a group's lane after one more packet
  abbrev pub styled_after : Style → List ℕ → List Packet → Packet → ℕ → List ℕ
  styled_after style bytes past p g =
      cond (is_group (group_of p) g) (reverse (piece_in paired style bytes (whole_of past p) p) ++ bytes) bytes

  pub styled_lane-more : (style : Style) (g : ℕ) (past : List Packet) (p : Packet)
      → styled_lane style (p ∷ past) g ≡ styled_after style (styled_lane style past g) past p g
  styled_lane-more style g past p =
      let whole = whole_of past p in
      let pairs = styled_over paired style past in
      let piece = piece_in paired style (lane_so_far (group_of p) pairs) whole p in
      let bytes = lane_bytes g pairs in
      ap reverse (flat_map-append (bytes_for g) pairs (styled_pair paired style pairs past p)
      ∙ ap (λ l. bytes ++ l) (lane_bytes-pair g (group_of p) (is_carried paired whole p) piece
      (uncarried_piece style (lane_so_far (group_of p) pairs) whole p)))
      ∙ at (is_group (group_of p) g) refl
    where
      at : (t : Bool) → is_group (group_of p) g ≡ t
          → reverse (lane_bytes g (styled_over paired style past)
          ++ cond t (piece_in paired style (lane_so_far (group_of p) (styled_over paired style past)) (whole_of past p) p) [])
          ≡ cond t (reverse (piece_in paired style (styled_lane style past g) (whole_of past p) p) ++ styled_lane style past g)
          (styled_lane style past g)
      at true e =
          reverse-append (lane_bytes g (styled_over paired style past))
          (piece_in paired style (lane_so_far (group_of p) (styled_over paired style past)) (whole_of past p) p)
          ∙ ap (λ b. reverse (piece_in paired style b (whole_of past p) p) ++ styled_lane style past g)
          (same_lane (group_of p) g (styled_over paired style past) e)
      at false e = ap reverse (append-nil (lane_bytes g (styled_over paired style past)))

  -- ---- one more packet

  abbrev pub ReliedIn : Style → List ℕ → Type 0
  ReliedIn plain_style bytes = Unit {0}
  ReliedIn compact_style bytes = IsRelied paired bytes

  pub record Keeps (style : Style) (bytes : List ℕ) (past : List Packet) (g : ℕ) : Type 0 where
    pub denotes : Denotes paired bytes past g
    pub relied : ReliedIn style bytes

  compact_more : StatusesThatRunCanBeLeftOut → (bytes : List ℕ) (past : List Packet) (p : Packet) (g : ℕ) → AllByRecursion IsInRange past
      → IsInRange p → Denotes paired bytes past g → IsRelied paired bytes
      → Keeps compact_style (styled_after compact_style bytes past p g) (p ∷ past) g
  compact_more rules bytes past p g a b d k = go (is_group (group_of p) g) refl
    where
      matched : (t : Bool) → is_group (group_of p) g ≡ t
          → GroupMatches paired (meaning1 paired (cond t (reverse (compact_piece paired bytes (whole_of past p) p) ++ bytes) bytes))
          (cond t (step2 paired (meaning2 paired past g) p (whole_of past p)) (meaning2 paired past g))
          → open_in None (cond t (reverse (compact_piece paired bytes (whole_of past p) p) ++ bytes) bytes) ≡ None
          → IsRelied paired (cond t (reverse (compact_piece paired bytes (whole_of past p) p) ++ bytes) bytes)
          → Keeps compact_style (styled_after compact_style bytes past p g) (p ∷ past) g
      matched t e m h r = record {
        denotes = denotes_of paired (styled_after compact_style bytes past p g) (p ∷ past) g
            (subst (λ u. GroupMatches paired
            (meaning1 paired (cond u (reverse (compact_piece paired bytes (whole_of past p) p) ++ bytes) bytes))
            (cond u (step2 paired (meaning2 paired past g) p (whole_of past p)) (meaning2 paired past g)))
            (sym e) m)
            (subst (λ u. open_in None (cond u (reverse (compact_piece paired bytes (whole_of past p) p) ++ bytes) bytes) ≡ None) (sym e) h);
        relied = subst (λ u. IsRelied paired (cond u (reverse (compact_piece paired bytes (whole_of past p) p) ++ bytes) bytes)) (sym e) r;
      }

      go : (t : Bool) → is_group (group_of p) g ≡ t → Keeps compact_style (styled_after compact_style bytes past p g) (p ∷ past) g
      go true e =
          let both = compact_matches paired rules bytes past p g a b d k in
          matched true e both.0 both.1 (more_relied paired rules bytes (whole_of past p) p
          (plain_is_message paired (whole_of past p) p (whole_data past p a b) b) d.closed k)
      go false e = matched false e (matches_of paired bytes past g d) d.closed k

  keeps_more : StatusesThatRunCanBeLeftOut → WrittenMessagesAreReadAgain
      → (style : Style) (bytes : List ℕ) (past : List Packet) (p : Packet) (g : ℕ) → AllByRecursion IsInRange past → IsInRange p
      → Keeps style bytes past g → Keeps style (styled_after style bytes past p g) (p ∷ past) g
  keeps_more rules reads plain_style bytes past p g a b k =
      record { denotes = one_more paired reads bytes past p g a b k.denotes; relied = tt }
  keeps_more rules reads compact_style bytes past p g a b k = compact_more rules bytes past p g a b k.denotes k.relied

  keeps_start : (style : Style) (g : ℕ) → Keeps style [] [] g
  keeps_start plain_style g = record { denotes = start_denotes paired g; relied = tt }
  keeps_start compact_style g = record { denotes = start_denotes paired g; relied = start_relied paired }

  pub recording_keeps : StatusesThatRunCanBeLeftOut → WrittenMessagesAreReadAgain → (style : Style) (g : ℕ) (past : List Packet)
      → AllByRecursion IsInRange past → Keeps style (styled_lane style past g) past g
  recording_keeps rules reads style g [] a = keeps_start style g
  recording_keeps rules reads style g (p ∷ past) a =
      subst (λ bytes. Keeps style bytes (p ∷ past) g) (sym (styled_lane-more style g past p))
      (keeps_more rules reads style (styled_lane style past g) past p g a.1 a.0 (recording_keeps rules reads style g past a.1))

  -- ---- in the order in which they came

  pub styled_keeps : StatusesThatRunCanBeLeftOut → WrittenMessagesAreReadAgain → (style : Style) (packets : List Packet) (g : ℕ)
      → AllByRecursion IsInRange packets → Keeps style (reverse (lane_bytes g (styled_pairs paired style packets))) (reverse packets) g
  styled_keeps rules reads style packets g a = recording_keeps rules reads style g (reverse packets) (all_turned packets [] a tt)

  pub styled_agrees : StatusesThatRunCanBeLeftOut → WrittenMessagesAreReadAgain → (style : Style) (packets : List Packet) (g : ℕ)
      → AllByRecursion IsInRange packets
      → Agrees paired (mean1 paired (lane_bytes g (styled_pairs paired style packets))) (mean2 paired packets g)
  styled_agrees rules reads style packets g a = (styled_keeps rules reads style packets g a).denotes.agrees

  pub styled_registers : StatusesThatRunCanBeLeftOut → WrittenMessagesAreReadAgain → (style : Style) (packets : List Packet) (g : ℕ)
      → AllByRecursion IsInRange packets
      → SameRegisters (mean1 paired (lane_bytes g (styled_pairs paired style packets))) (mean2 paired packets g)
  styled_registers rules reads style packets g a = (styled_keeps rules reads style packets g a).denotes.registers

  pub styled_closed : StatusesThatRunCanBeLeftOut → WrittenMessagesAreReadAgain → (style : Style) (packets : List Packet) (g : ℕ)
      → AllByRecursion IsInRange packets → open_in None (reverse (lane_bytes g (styled_pairs paired style packets))) ≡ None
  styled_closed rules reads style packets g a = (styled_keeps rules reads style packets g a).denotes.closed

  pub compact_relied : StatusesThatRunCanBeLeftOut → WrittenMessagesAreReadAgain → (packets : List Packet) (g : ℕ)
      → AllByRecursion IsInRange packets → IsRelied paired (reverse (lane_bytes g (styled_pairs paired compact_style packets)))
  compact_relied rules reads packets g a = (styled_keeps rules reads compact_style packets g a).relied

  -- the pairs of one more packet come after those before
  pub styled_pairs-more : (style : Style) (packets : List Packet) (p : Packet)
      → styled_pairs paired style (packets ++ p ∷ [])
      ≡ styled_pairs paired style packets ++ styled_pair paired style (styled_pairs paired style packets) (reverse packets) p
  styled_pairs-more style packets p = ap (styled_over paired style) (reverse-append packets (p ∷ []))

  pub plain_over : (past : List Packet) → styled_over paired plain_style past ≡ pairs_over paired past
  plain_over [] = refl
  plain_over (p ∷ past) = ap (λ l. l ++ styled_pair paired plain_style [] past p) (plain_over past)

  -- ---- a translation

  pairs-lanes : (style : Style) (past : List Packet)
      → map (λ (pair : ℕ × List ℕ). pair.0) (styled_over paired style past) ≡ lanes_over paired past
  pairs-lanes style [] = refl
  pairs-lanes style (p ∷ past) =
      let whole = whole_of past p in
      let pairs = styled_over paired style past in
      map-append (λ (pair : ℕ × List ℕ). pair.0) pairs (styled_pair paired style pairs past p)
      ∙ ap (λ l. l ++ map (λ (pair : ℕ × List ℕ). pair.0) (styled_pair paired style pairs past p)) (pairs-lanes style past)
      ∙ ap (λ l. lanes_over paired past ++ l)
      (pair_by-lane (group_of p) (is_carried paired whole p) (piece_in paired style (lane_so_far (group_of p) pairs) whole p))

  length-pairs : (style : Style) (packets : List Packet)
      → length (styled_pairs paired style packets) ≡ length (carried_lanes paired packets)
  length-pairs style packets =
      sym (length-map (styled_pairs paired style packets) (λ (pair : ℕ × List ℕ). pair.0)) ∙ ap length (pairs-lanes style (reverse packets))

  -- the pairs of further packets, newest first as those before them
  pairs_since : Style → List Packet → List Packet → List (ℕ × List ℕ)
  pairs_since style past [] = []
  pairs_since style past (p ∷ more) =
      pairs_since style past more ++ styled_pair paired style (styled_over paired style (more ++ past)) (more ++ past) p

  behind-more : (style : Style) (more past : List Packet)
      → styled_over paired style (more ++ past) ≡ styled_over paired style past ++ pairs_since style past more
  unfolding pairs_since
  behind-more style [] past = sym (append-nil (styled_over paired style past))
  behind-more style (p ∷ more) past =
      ap (λ l. l ++ styled_pair paired style (styled_over paired style (more ++ past)) (more ++ past) p) (behind-more style more past)
      ∙ append_assoc (styled_over paired style past) (pairs_since style past more)
      (styled_pair paired style (styled_over paired style (more ++ past)) (more ++ past) p)

  pairs_of_first : (style : Style) (before after : List Packet)
      → take (length (carried_lanes paired before)) (styled_pairs paired style (before ++ after)) ≡ styled_pairs paired style before
  pairs_of_first style before after =
      ap (λ n. take n (styled_pairs paired style (before ++ after))) (sym (length-pairs style before))
      ∙ ap (take (length (styled_pairs paired style before)))
      (ap (styled_over paired style) (reverse-append before after) ∙ behind-more style (reverse after) (reverse before))
      ∙ take-append_seam (styled_pairs paired style before) (pairs_since style (reverse before) (reverse after))

  pub styled_is_translation : StatusesThatRunCanBeLeftOut → WrittenMessagesAreReadAgain → (style : Style) (packets : List Packet)
      → AllByRecursion IsInRange packets → IsTranslation paired packets (styled_pairs paired style packets)
  styled_is_translation rules reads style packets a = record {
    lanes = pairs-lanes style (reverse packets);
    agrees = λ count group.
        let before = take count packets in
        let first : take (length (carried_lanes paired before)) (styled_pairs paired style packets) ≡ styled_pairs paired style before =
        ap (λ l. take (length (carried_lanes paired before)) (styled_pairs paired style l)) (sym (take-append-drop count packets))
        ∙ pairs_of_first style before (drop count packets) in
        subst (λ pairs. Agrees paired (mean1 paired (lane_bytes group pairs)) (mean2 paired before group)) (sym first)
        (styled_agrees rules reads style before group (all_take count packets a));
  }
