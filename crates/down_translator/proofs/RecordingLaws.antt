-- What is put and listed for a recording that isn't refused.
use Rattle.std.proofs.Common.{ℕ, ◌≡◌, ◌<◌, ◌≤◌, ◌∙◌, ap, sym, refl, subst, arith, List, [], ◌∷◌, ◌++◌}
use Rattle.std.proofs.Common.{length, reverse, Option, Some, None, Bool, true, false, cond, is_some}
use Rattle.std.proofs.lemmas.Bool.{cond_both, eqb-true}
use mathlib.Core.List.{reverse_aux}
use Rattle.std.specs.Prelude.{◌↔◌, IsTrue, ◌==◌}
use Rattle.std.specs.Option.{option_to_list}
use Rattle.ump_grammar.specs.declared.packet.Packet.{Packet}
use Rattle.ump_grammar.specs.declared.packet.Packet.TheVariants as packet
use Rattle.midi1_bytes.specs.Laws.{StatusesThatRunCanBeLeftOut}
use Rattle.sysex_groups.specs.Laws.{FedPartsAreTheDefinition}
use Rattle.midi_meaning.specs.Laws.{CarriedPacketsHaveAPiece, JoinedBytesKnowNoOffsets, RoomsThatAreNotPassedDoNotMatter}
use Rattle.midi_meaning.specs.StyleLaws.{KeptLanesAreThoseOfTheRecording, StyledPairsAreATranslation}
use Rattle.midi_meaning.specs.Styles.{Style, plain_style, compact_style, lane_so_far, piece_in, styled_over, styled_pair, styled_pairs}
use Rattle.midi_meaning.specs.Parts.{Placed, group_of, parts_of, whole_of}
use Rattle.midi_meaning.specs.Packets.{IsInRange}
use Rattle.midi_meaning.specs.Listing.{is_carried, is_carried_voice, listed, line_of, lines_over}
use Rattle.midi_meaning.specs.Lanes.{pair_by}
use Rattle.midi_meaning.specs.Translation.{IsTranslation}
use Rattle.midi_meaning.specs.Refusal.{bad_step}
use Rattle.down_translator.specs.declared.carried.Carried.{Carried}
use Rattle.down_translator.specs.Carried.{lane_in, line_in}
use Rattle.down_translator.specs.Laws.{OneMoreAcceptedPacketAddsItsPairAndLine}
use Rattle.down_translator.specs.Held.{DownState, begun_at_in, paired_of, style_of, whole_in}
use Rattle.down_translator.specs.KeptLanes.{piece_by}
use Rattle.down_translator.specs.Step.{lane_before, lane_of, piece_of, IsStep}
use Rattle.down_translator.specs.Recording.{packets_of, AreInRange, state_of, AreAccepted, AreSteps, pair_put, pairs_put, lines_put}
use Rattle.down_translator.proofs.HeldLaws.{held-told}
use Rattle.down_translator.proofs.LaneLaws.{held-lane, lanes-whole, range-packets}
use Rattle.down_translator.proofs.RecordingRooms.{accepted-within, whole-without_room}
use Rattle.down_translator.proofs.StyledLaws.{looks_back, plain_is, something}

pair-from : (o : Option ℕ) (t : Bool) (bytes : List ℕ) → (t ≡ true → is_some o ≡ true) → (IsTrue t ↔ (0 < length bytes))
    → cond (length bytes == 0) [] ((lane_of o t, bytes) ∷ []) ≡ pair_by o t bytes
pair-from (Some g) true [] in_group h = absurd (omega (arith, h.0 refl))
pair-from (Some g) true (b ∷ bytes) in_group h =
    cond_both (length (b ∷ bytes) == 0) [] ((g, b ∷ bytes) ∷ []) (λ pairs. pairs ≡ (g, b ∷ bytes) ∷ [])
    (λ e. absurd (omega (arith, eqb-true (length (b ∷ bytes)) 0 e))) (λ e. refl)
pair-from (Some g) false [] in_group h = refl
pair-from (Some g) false (b ∷ bytes) in_group h = cc (h.1 (omega arith))
pair-from None true bytes in_group h = cc (in_group refl)
pair-from None false [] in_group h = refl
pair-from None false (b ∷ bytes) in_group h = cc (h.1 (omega arith))

packets-turned : (packets acc : List Placed) → packets_of (reverse_aux packets acc) ≡ reverse_aux (packets_of packets) (packets_of acc)
packets-turned [] acc = refl
packets-turned (placed ∷ packets) acc = packets-turned packets (placed ∷ acc)

range-turned : (packets acc : List Placed) → AreInRange packets → AreInRange acc → AreInRange (reverse_aux packets acc)
range-turned [] acc a b = b
range-turned (placed ∷ packets) acc a b = range-turned packets (placed ∷ acc) a.1 (a.0, b)

-- ---- one packet

carried_in_group : (paired : Bool) (whole : Option (List ℕ)) (p : Packet) → is_carried paired whole p ≡ true → is_some (group_of p) ≡ true
carried_in_group paired whole (packet.System g m) e = refl
carried_in_group paired whole (packet.Voice1 g m) e = refl
carried_in_group paired whole (packet.Exclusive g f bytes) e = refl
carried_in_group paired whole (packet.Voice2 g m) e = refl
carried_in_group paired whole (packet.Utility s v) e = cc
carried_in_group paired whole (packet.Data8 g wd) e = cc
carried_in_group paired whole (packet.Flex g wd) e = cc
carried_in_group paired whole (packet.Stream f s l wd x y) e = cc
carried_in_group paired whole (packet.Reserved wd) e = cc

-- an answer's pair, by the state
pair-held : (state : DownState) → CarriedPacketsHaveAPiece (paired_of state) → (offset : ℕ) (p : Packet) (carried : Carried)
    → IsStep state offset p carried
    → pair_put carried ≡ pair_by (group_of p) (is_carried (paired_of state) (whole_in state p) p) (piece_of state p)
pair-held state pieces offset p carried step =
    let whole = whole_in state p in
    ap (λ bytes. cond (length bytes == 0) [] ((lane_in carried, bytes) ∷ [])) step.piece
    ∙ ap (λ lane. cond (length (piece_of state p) == 0) [] ((lane, piece_of state p) ∷ [])) step.lane
    ∙ pair-from (group_of p) (is_carried (paired_of state) whole p) (piece_of state p) (carried_in_group (paired_of state) whole p)
    (something (paired_of state) pieces (style_of state) (lane_before state (group_of p)) whole p)

pub step-carried : (state : DownState) → CarriedPacketsHaveAPiece (paired_of state) → (offset : ℕ) (p : Packet) (carried : Carried)
    → IsStep state offset p carried → IsTrue (is_carried (paired_of state) (whole_in state p) p) ↔ (0 < length carried.piece.now)
step-carried state pieces offset p carried step =
    subst (λ bytes. IsTrue (is_carried (paired_of state) (whole_in state p) p) ↔ (0 < length bytes)) (sym step.piece)
    (something (paired_of state) pieces (style_of state) (lane_before state (group_of p)) (whole_in state p) p)

pub step-lane : (state : DownState) → CarriedPacketsHaveAPiece (paired_of state) → (offset : ℕ) (p : Packet) (carried : Carried)
    → IsStep state offset p carried → carried.piece.now ≡ [] → lane_in carried ≡ 0
step-lane state pieces offset p carried step e =
    step.lane
    ∙ go (group_of p) (is_carried (paired_of state) (whole_in state p) p)
    (λ h. nothing_below carried.piece.now e ((step-carried state pieces offset p carried step).0 h))
  where
    nothing_below : (xs : List ℕ) → xs ≡ [] → 0 < length xs → ⊥
    nothing_below xs e h = omega (arith, subst (λ ys. 0 < length ys) e h)

    go : (o : Option ℕ) (t : Bool) → (IsTrue t → ⊥) → lane_of o t ≡ 0
    go None t h = refl
    go (Some g) true h = absurd (h refl)
    go (Some g) false h = refl

-- ---- with paired controllers or without

module _ (paired : Bool) where
  -- by the packets and the bytes of the lane of a group before
  pair-at : FedPartsAreTheDefinition → RoomsThatAreNotPassedDoNotMatter → JoinedBytesKnowNoOffsets → KeptLanesAreThoseOfTheRecording paired
      → StatusesThatRunCanBeLeftOut → (room : ℕ) (past : List Placed) (p : Packet) (group : ℕ) (carried : Bool) → 6 ≤ room → AreInRange past
      → IsInRange p → AreAccepted room past → group < 16 →
      pair_by (Some group) carried (piece_by paired compact_style (lane_before (state_of paired compact_style room past) (Some group))
      (whole_of (packets_of past) p) p)
      ≡ pair_by (Some group) carried (piece_in paired compact_style
      (lane_so_far (Some group) (styled_over paired compact_style (packets_of past))) (whole_of (packets_of past) p) p)
  pair-at fed rooms offsets kept statuses room past p group carried least a h b below =
      ap (λ lane. pair_by (Some group) carried (piece_by paired compact_style lane (whole_of (packets_of past) p) p))
      (held-lane paired fed rooms offsets room past group least a b below)
      ∙ ap (λ piece. pair_by (Some group) carried piece)
      (looks_back paired statuses kept (packets_of past) p group (range-packets past a) h)

  pair-compact : FedPartsAreTheDefinition → RoomsThatAreNotPassedDoNotMatter → JoinedBytesKnowNoOffsets
      → KeptLanesAreThoseOfTheRecording paired → StatusesThatRunCanBeLeftOut → (room : ℕ) (past : List Placed) (p : Packet) → 6 ≤ room
      → AreInRange past → IsInRange p → AreAccepted room past →
      pair_by (group_of p) (is_carried paired (whole_of (packets_of past) p) p)
      (piece_by paired compact_style (lane_before (state_of paired compact_style room past) (group_of p)) (whole_of (packets_of past) p) p)
      ≡ styled_pair paired compact_style (styled_over paired compact_style (packets_of past)) (packets_of past) p
  pair-compact fed rooms offsets kept statuses room past (packet.System g m) least a h b =
      pair-at fed rooms offsets kept statuses room past (packet.System g m) g true least a h b h.0
  pair-compact fed rooms offsets kept statuses room past (packet.Voice1 g m) least a h b =
      pair-at fed rooms offsets kept statuses room past (packet.Voice1 g m) g true least a h b h.0
  pair-compact fed rooms offsets kept statuses room past (packet.Exclusive g f bytes) least a h b =
      pair-at fed rooms offsets kept statuses room past (packet.Exclusive g f bytes) g
      (is_some (whole_of (packets_of past) (packet.Exclusive g f bytes))) least a h b h.0
  pair-compact fed rooms offsets kept statuses room past (packet.Voice2 g m) least a h b =
      pair-at fed rooms offsets kept statuses room past (packet.Voice2 g m) g (is_carried_voice paired m) least a h b h.0
  pair-compact fed rooms offsets kept statuses room past (packet.Utility s v) least a h b = refl
  pair-compact fed rooms offsets kept statuses room past (packet.Data8 g wd) least a h b = refl
  pair-compact fed rooms offsets kept statuses room past (packet.Flex g wd) least a h b = refl
  pair-compact fed rooms offsets kept statuses room past (packet.Stream f s l wd x y) least a h b = refl
  pair-compact fed rooms offsets kept statuses room past (packet.Reserved wd) least a h b = refl

  pair-styled : FedPartsAreTheDefinition → RoomsThatAreNotPassedDoNotMatter → JoinedBytesKnowNoOffsets
      → KeptLanesAreThoseOfTheRecording paired → StatusesThatRunCanBeLeftOut → (style : Style) (room : ℕ) (past : List Placed) (p : Packet)
      → 6 ≤ room → AreInRange past → IsInRange p → AreAccepted room past →
      pair_by (group_of p) (is_carried paired (whole_of (packets_of past) p) p)
      (piece_by paired style (lane_before (state_of paired style room past) (group_of p)) (whole_of (packets_of past) p) p)
      ≡ styled_pair paired style (styled_over paired style (packets_of past)) (packets_of past) p
  pair-styled fed rooms offsets kept statuses plain_style room past p least a h b =
      ap (λ piece. pair_by (group_of p) (is_carried paired (whole_of (packets_of past) p) p) piece)
      (plain_is paired (lane_before (state_of paired plain_style room past) (group_of p)) (whole_of (packets_of past) p) p)
  pair-styled fed rooms offsets kept statuses compact_style room past p least a h b =
      pair-compact fed rooms offsets kept statuses room past p least a h b

  pub step-pair : FedPartsAreTheDefinition → RoomsThatAreNotPassedDoNotMatter → JoinedBytesKnowNoOffsets → CarriedPacketsHaveAPiece paired
      → KeptLanesAreThoseOfTheRecording paired → StatusesThatRunCanBeLeftOut
      → (style : Style) (room : ℕ) (past : List Placed) (placed : Placed) (carried : Carried) → 6 ≤ room → AreInRange (placed ∷ past)
      → AreAccepted room past → IsStep (state_of paired style room past) placed.offset placed.packet carried
      → pair_put carried ≡ styled_pair paired style (styled_over paired style (packets_of past)) (packets_of past) placed.packet
  step-pair fed rooms offsets pieces kept statuses style room past placed carried least a b step =
      let p : Packet = placed.packet in
      let state : DownState = state_of paired style room past in
      let whole : Option (List ℕ) = whole_of (packets_of past) p in
      let accepted : bad_step (Some room) (parts_of past) p ≡ None =
      sym (held-told paired fed style room past least a.1 p).refusal ∙ step.accepted in
      let ends : whole_in state p ≡ whole =
      (held-told paired fed style room past least a.1 p).whole
      ∙ whole-without_room rooms offsets room past p (accepted-within room past least a.1 b) accepted in
      let is_paired : paired_of state ≡ paired = (lanes-whole paired style room past).2 in
      pair-held state (subst CarriedPacketsHaveAPiece (sym is_paired) pieces) placed.offset p carried step
      ∙ ap (λ q. pair_by (group_of p) (is_carried q (whole_in state p) p)
      (piece_by q (style_of state) (lane_before state (group_of p)) (whole_in state p) p))
      is_paired
      ∙ ap (λ s. pair_by (group_of p) (is_carried paired (whole_in state p) p)
      (piece_by paired s (lane_before state (group_of p)) (whole_in state p) p))
      (lanes-whole paired style room past).0
      ∙ ap (λ w. pair_by (group_of p) (is_carried paired w p) (piece_by paired style (lane_before state (group_of p)) w p)) ends
      ∙ pair-styled fed rooms offsets kept statuses style room past p least a.1 a.0 b

  pub step-line : FedPartsAreTheDefinition → (style : Style) (room : ℕ) (past : List Placed) (placed : Placed) (carried : Carried)
      → 6 ≤ room → AreInRange past → IsStep (state_of paired style room past) placed.offset placed.packet carried
      → line_in carried ≡ line_of paired (Some room) (parts_of past) placed
  step-line fed style room past placed carried least a step =
      step.line
      ∙ ap (λ q. listed q (begun_at_in (state_of paired style room past) placed.packet) placed.offset placed.packet)
      (lanes-whole paired style room past).2
      ∙ ap (λ o. listed paired o placed.offset placed.packet) (held-told paired fed style room past least a placed.packet).begun

  -- ---- a recording

  pub steps-accepted : FedPartsAreTheDefinition → (style : Style) (room : ℕ) (past : List Placed) (answers : List Carried) → 6 ≤ room
      → AreInRange past → AreSteps paired style room past answers → AreAccepted room past
  steps-accepted fed style room [] answers least a steps = tt
  steps-accepted fed style room (placed ∷ past) [] least a steps = absurd steps
  steps-accepted fed style room (placed ∷ past) (carried ∷ before) least a steps = (
    sym (held-told paired fed style room past least a.1 placed.packet).refusal ∙ steps.0.accepted,
    steps-accepted fed style room past before least a.1 steps.1,
  )

  -- what is put for the answers is the pairs of the packets
  abbrev pub PairsAreStyled : Style → ℕ → Type 0
  PairsAreStyled style room =
      (past : List Placed) (answers : List Carried) → 6 ≤ room → AreInRange past → AreSteps paired style room past answers
      → pairs_put answers ≡ styled_over paired style (packets_of past)

  pub steps-pairs : FedPartsAreTheDefinition → OneMoreAcceptedPacketAddsItsPairAndLine paired → (style : Style) (room : ℕ)
      → PairsAreStyled style room
  steps-pairs fed more style room [] [] least a steps = refl
  steps-pairs fed more style room [] (carried ∷ before) least a steps = absurd steps
  steps-pairs fed more style room (placed ∷ past) [] least a steps = absurd steps
  steps-pairs fed more style room (placed ∷ past) (carried ∷ before) least a steps =
      ap (λ pairs. pairs ++ pair_put carried) (steps-pairs fed more style room past before least a.1 steps.1)
      ∙ ap (λ pair. styled_over paired style (packets_of past) ++ pair)
      (more.pair style room past placed carried least a (steps-accepted fed style room past before least a.1 steps.1) steps.0)

  pub steps-lines : OneMoreAcceptedPacketAddsItsPairAndLine paired
      → (style : Style) (room : ℕ) (past : List Placed) (answers : List Carried) → 6 ≤ room → AreInRange past
      → AreSteps paired style room past answers → lines_put answers ≡ lines_over paired (Some room) past
  steps-lines more style room [] [] least a steps = refl
  steps-lines more style room [] (carried ∷ before) least a steps = absurd steps
  steps-lines more style room (placed ∷ past) [] least a steps = absurd steps
  steps-lines more style room (placed ∷ past) (carried ∷ before) least a steps =
      ap (λ lines. lines ++ option_to_list (line_in carried)) (steps-lines more style room past before least a.1 steps.1)
      ∙ ap (λ line. lines_over paired (Some room) past ++ option_to_list line) (more.line style room past placed carried least a.1 steps.0)

  -- ---- in the order in which they came

  pub steps-styled : ((style : Style) (room : ℕ) → PairsAreStyled style room)
      → (style : Style) (room : ℕ) (packets : List Placed) (answers : List Carried) → 6 ≤ room → AreInRange packets
      → AreSteps paired style room (reverse packets) answers → pairs_put answers ≡ styled_pairs paired style (packets_of packets)
  steps-styled behind style room packets answers least a steps =
      behind style room (reverse packets) answers least (range-turned packets [] a tt) steps
      ∙ ap (styled_over paired style) (packets-turned packets [])

  pub steps-translation : StyledPairsAreATranslation paired → ((style : Style) (room : ℕ) → PairsAreStyled style room)
      → (style : Style) (room : ℕ) (packets : List Placed) (answers : List Carried) → 6 ≤ room → AreInRange packets
      → AreSteps paired style room (reverse packets) answers → IsTranslation paired (packets_of packets) (pairs_put answers)
  steps-translation means behind style room packets answers least a steps =
      subst (IsTranslation paired (packets_of packets)) (sym (steps-styled behind style room packets answers least a steps))
      (means style (packets_of packets) (range-packets packets a))
