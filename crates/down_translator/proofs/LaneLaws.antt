-- What is kept of the lanes is what the packets of their groups leave.
use Rattle.std.proofs.Common.{ℕ, ◌≡◌, ◌<◌, ◌≤◌, ◌∙◌, ap, sym, refl, subst, arith, List, [], ◌∷◌, length, reverse}
use Rattle.std.proofs.Common.{Option, Some, None, Bool, true, false, cond, get_or, set, replicate, zero, suc}
use Rattle.std.proofs.lemmas.List.{get_or-set_same, get_or-set_other, length-set}
use Rattle.std.proofs.lemmas.Bool.{eqb-true, eqb-false}
use lib.Dec.{eqb}
use Rattle.std.specs.List.{AllByRecursion}
use Rattle.ump_grammar.specs.declared.packet.Packet.{Packet}
use Rattle.ump_grammar.specs.declared.packet.Packet.TheVariants as packet
use Rattle.sysex_groups.specs.Laws.{FedPartsAreTheDefinition}
use Rattle.sysex_groups.specs.Table.{table_over}
use Rattle.midi_meaning.specs.Lanes.{lane_bytes}
use Rattle.midi_meaning.specs.LaneState.{LaneState, lane_state_after, lane_state_over, new_lane}
use Rattle.midi_meaning.specs.Laws.{JoinedBytesKnowNoOffsets, RoomsThatAreNotPassedDoNotMatter}
use Rattle.midi_meaning.specs.Packets.{IsInRange}
use Rattle.midi_meaning.specs.Parts.{Placed, group_of, is_group, parts_of, whole_of}
use Rattle.midi_meaning.specs.Relied.{IsLaneOf}
use Rattle.midi_meaning.specs.StyleLaws.{KeptLanesAreThoseOfTheRecording}
use Rattle.midi_meaning.specs.Styles.{Style, plain_style, compact_style, styled_over}
use Rattle.down_translator.specs.Held.{DownState, lanes_after_packet, refusal_in, unless_refused, whole_in}
use Rattle.down_translator.specs.KeptLanes.{KeptLanes, lane_at, lane_written, lanes_after}
use Rattle.down_translator.specs.Recording.{packets_of, AreInRange, AreAccepted, lanes_of, state_of}
use Rattle.down_translator.proofs.HeldLaws.{held-told}
use Rattle.down_translator.proofs.RecordingRooms.{accepted-within, whole-without_room}

-- ---- the style and the number of lanes stay

abbrev pub IsWhole : Bool → Style → KeptLanes → Type 0
IsWhole paired style lanes = (lanes.style ≡ style) × (length lanes.states ≡ 16) × (lanes.paired ≡ paired)

with-whole : (paired : Bool) (style : Style) (states : List LaneState) (lane : Option ℕ) (whole : Option (List ℕ)) (p : Packet)
    → length states ≡ 16 →
    IsWhole paired style (lanes_after lane whole p (record { style = style; paired = paired; states = states }))
with-whole paired style states None whole p sixteen = (refl, sixteen, refl)
with-whole paired plain_style states (Some g) whole p sixteen = (refl, sixteen, refl)
with-whole paired compact_style states (Some g) whole p sixteen =
    (refl, length-set states g (lane_state_after paired (lane_at states g) whole p) ∙ sixteen, refl)

pub lanes-whole : (paired : Bool) (style : Style) (room : ℕ) (past : List Placed) → IsWhole paired style (lanes_of paired style room past)
lanes-whole paired style room [] = (refl, refl, refl)
lanes-whole paired style room (placed ∷ past) = go (lanes_of paired style room past) (lanes-whole paired style room past)
  where
    at_style : (lanes : KeptLanes) (written : Option ℕ) (whole : Option (List ℕ)) (p : Packet) → IsWhole paired style lanes
        → IsWhole paired style (lanes_after written whole p lanes)
    at_style lanes written whole p held =
        let at : IsWhole lanes.paired lanes.style (lanes_after written whole p lanes) =
        with-whole lanes.paired lanes.style lanes.states written whole p held.1 in
        (at.0 ∙ held.0, at.1, at.2 ∙ held.2)

    go : (lanes : KeptLanes) → IsWhole paired style lanes
        → IsWhole paired style (lanes_after_packet placed.packet (record { exclusives = table_over room (parts_of past); lanes = lanes }))
    go lanes held =
        let state : DownState = record { exclusives = table_over room (parts_of past); lanes = lanes } in
        at_style lanes (unless_refused (refusal_in state placed.packet) (lane_written (whole_in state placed.packet) placed.packet))
        (whole_in state placed.packet) placed.packet held

-- ---- the lane of a group

set_read : {A : Type 0} (xs : List A) (i j : ℕ) (change : A → A) (d : A) → i < length xs
    → get_or (set xs i (change (get_or xs i d))) j d ≡ cond (eqb i j) (change (get_or xs j d)) (get_or xs j d)
set_read {A} xs i j change d below = go (eqb i j) refl
  where
    go : (t : Bool) → eqb i j ≡ t → get_or (set xs i (change (get_or xs i d))) j d ≡ cond t (change (get_or xs j d)) (get_or xs j d)
    go true e =
        let P : ℕ → Type 0 = λ k. get_or (set xs i (change (get_or xs i d))) k d ≡ change (get_or xs k d) in
        subst P (eqb-true i j e) (get_or-set_same xs i (change (get_or xs i d)) d below)
    go false e = get_or-set_other xs i j (change (get_or xs i d)) d (λ same. eqb-false i j e (sym same))

same_both : {A : Type 0} (t : Bool) (a : A) → a ≡ cond t a a
same_both true a = refl
same_both false a = refl

-- the lanes after a packet that isn't refused
written-lane : (paired : Bool) (states : List LaneState) (whole : Option (List ℕ)) (p : Packet) (group : ℕ) → length states ≡ 16
    → IsInRange p →
    lane_at (lanes_after (lane_written whole p) whole p (record { style = compact_style; paired = paired; states = states })).states group
    ≡ cond (is_group (group_of p) group) (lane_state_after paired (lane_at states group) whole p) (lane_at states group)
written-lane paired states whole (packet.System g m) group sixteen range =
    set_read states g group (λ lane. lane_state_after paired lane whole (packet.System g m)) new_lane (omega (arith, sixteen, range.0))
written-lane paired states whole (packet.Voice1 g m) group sixteen range =
    set_read states g group (λ lane. lane_state_after paired lane whole (packet.Voice1 g m)) new_lane (omega (arith, sixteen, range.0))
written-lane paired states None (packet.Exclusive g f bytes) group sixteen range = same_both (eqb g group) (lane_at states group)
written-lane paired states (Some whole) (packet.Exclusive g f bytes) group sixteen range =
    set_read states g group (λ lane. lane_state_after paired lane (Some whole) (packet.Exclusive g f bytes)) new_lane
    (omega (arith, sixteen, range.0))
written-lane paired states whole (packet.Voice2 g m) group sixteen range =
    set_read states g group (λ lane. lane_state_after paired lane whole (packet.Voice2 g m)) new_lane (omega (arith, sixteen, range.0))
written-lane paired states whole (packet.Data8 g wd) group sixteen range = same_both (eqb g group) (lane_at states group)
written-lane paired states whole (packet.Flex g wd) group sixteen range = same_both (eqb g group) (lane_at states group)
written-lane paired states whole (packet.Utility s v) group sixteen range = refl
written-lane paired states whole (packet.Stream f s l wd x y) group sixteen range = refl
written-lane paired states whole (packet.Reserved wd) group sixteen range = refl

pub held-lane : (paired : Bool) → FedPartsAreTheDefinition → RoomsThatAreNotPassedDoNotMatter → JoinedBytesKnowNoOffsets
    → (room : ℕ) (past : List Placed) (group : ℕ) → 6 ≤ room → AreInRange past → AreAccepted room past → group < 16 →
    lane_at (lanes_of paired compact_style room past).states group ≡ lane_state_over paired (packets_of past) group
held-lane paired fed rooms offsets room [] group least a b below = same_in 16 group
  where
    same_in : (n k : ℕ) → get_or (replicate n new_lane) k new_lane ≡ new_lane
    same_in zero k = refl
    same_in (suc n) zero = refl
    same_in (suc n) (suc k) = same_in n k
held-lane paired fed rooms offsets room (placed ∷ past) group least a b below =
    let p : Packet = placed.packet in
    let lanes : KeptLanes = lanes_of paired compact_style room past in
    let whole : Option (List ℕ) = whole_of (packets_of past) p in
    let accepted : refusal_in (state_of paired compact_style room past) p ≡ None =
    (held-told paired fed compact_style room past least a.1 p).refusal ∙ b.0 in
    let ends : whole_in (state_of paired compact_style room past) p ≡ whole =
    (held-told paired fed compact_style room past least a.1 p).whole
    ∙ whole-without_room rooms offsets room past p (accepted-within room past least a.1 b.1) b.0 in
    let is : LaneState → LaneState → Type 0 = λ x y. x ≡ y in
    ap (λ bad.
    lane_at (lanes_after (unless_refused bad (lane_written (whole_in (state_of paired compact_style room past) p) p))
    (whole_in (state_of paired compact_style room past) p) p lanes).states
    group)
    accepted
    ∙ ap (λ w. lane_at (lanes_after (lane_written w p) w p lanes).states group) ends
    ∙ at_style lanes (lanes-whole paired compact_style room past) whole p group a.0
    ∙ ap (λ lane. cond (is_group (group_of p) group) (lane_state_after paired lane whole p) lane)
    (held-lane paired fed rooms offsets room past group least a.1 b.1 below)
  where
    at_style : (lanes : KeptLanes) → IsWhole paired compact_style lanes → (whole : Option (List ℕ)) (p : Packet) (group : ℕ) → IsInRange p →
        lane_at (lanes_after (lane_written whole p) whole p lanes).states group
        ≡ cond (is_group (group_of p) group) (lane_state_after paired (lane_at lanes.states group) whole p) (lane_at lanes.states group)
    at_style lanes held whole p group range =
        let P : Style → Bool → Type 0 =
        λ s q. lane_at (lanes_after (lane_written whole p) whole p (record { style = s; paired = q; states = lanes.states })).states group
        ≡ cond (is_group (group_of p) group) (lane_state_after paired (lane_at lanes.states group) whole p) (lane_at lanes.states group) in
        subst (λ s. P s lanes.paired) (sym held.0)
        (subst (P compact_style) (sym held.2) (written-lane paired lanes.states whole p group held.1 range))

pub range-packets : (past : List Placed) → AreInRange past → AllByRecursion IsInRange (packets_of past)
range-packets [] a = tt
range-packets (placed ∷ past) a = (a.0, range-packets past a.1)

pub held-lane_of : (paired : Bool) → FedPartsAreTheDefinition → RoomsThatAreNotPassedDoNotMatter → JoinedBytesKnowNoOffsets
    → KeptLanesAreThoseOfTheRecording paired → (room : ℕ) (past : List Placed) (group : ℕ) → 6 ≤ room → AreInRange past
    → AreAccepted room past → group < 16 →
    IsLaneOf paired (lane_at (state_of paired compact_style room past).lanes.states group)
    (reverse (lane_bytes group (styled_over paired compact_style (packets_of past))))
held-lane_of paired fed rooms offsets kept room past group least a b below =
    let bytes : List ℕ = reverse (lane_bytes group (styled_over paired compact_style (packets_of past))) in
    subst (λ lane. IsLaneOf paired lane bytes) (sym (held-lane paired fed rooms offsets room past group least a b below))
    (kept.lane (packets_of past) group (range-packets past a))
