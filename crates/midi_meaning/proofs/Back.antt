-- There and back: the plain pieces of the raised packets mean what the bytes mean.
use Rattle.std.proofs.Common.{ℕ, ◌≡◌, ◌<◌, ◌∙◌, ap, sym, refl, subst, zero, suc, map, List, [], ◌∷◌}
use Rattle.std.proofs.Common.{◌++◌, reverse, Option, Some, None, false, cond, append_assoc, Bool}
use Rattle.std.proofs.lemmas.Bool.{cond_both, eq-eqb}
use Rattle.std.proofs.lemmas.List.{reverse-append, append-nil}
use Rattle.std.proofs.lemmas.Grind.{flat_map-append}
use Rattle.std.specs.Option.{option_to_list}
use Rattle.std.specs.List.{AllByRecursion, fold}
use mathlib.Core.List.{reverse_aux}
use lib.Dec.{eqb}
use Rattle.voice_messages.specs.declared.voice1.Voice1.{Voice1}
use Rattle.voice_messages.specs.declared.voice1.Voice1.TheVariants as voice1
use Rattle.voice_messages.specs.declared.voice2.Param.{Param}
use Rattle.voice_messages.specs.declared.voice2.Voice2.{Voice2}
use Rattle.sysex_groups.specs.Cut.{part_count}
use Rattle.ump_grammar.specs.declared.packet.Packet.{Packet}
use Rattle.ump_grammar.specs.declared.packet.Packet.TheVariants as packet
use Rattle.midi1_bytes.specs.Messages.{Message, voice, common, exclusive, real_time}
use Rattle.midi1_bytes.specs.Stream.{Room}
use Rattle.midi1_bytes.specs.Steps.{completed_by, step_of}
use Rattle.midi1_bytes.specs.Laws.{CompletedMessagesAreInRange, WrittenMessagesAreReadAgain}
use Rattle.sysex_groups.specs.Laws.{CutPayloadIsJoined}
use Rattle.midi_meaning.specs.Registers.{selected}
use Rattle.midi_meaning.specs.Controllers.{Role, data_msb, data_lsb, role_of, pairing}
use Rattle.midi_meaning.specs.State.{Channel, GroupState, same_param}
use Rattle.midi_meaning.specs.Messages.{of_bytes, as_they_come, enter_msb, enter_lsb, control, voice_at, channel_of, step1, meaning1}
use Rattle.listing_terms.specs.Parts.{group_of, is_group, whole_of}
use Rattle.midi_meaning.specs.Packets.{IsInRange}
use Rattle.midi_meaning.specs.Agreement.{ChannelAgrees}
use Rattle.midi_meaning.specs.Listing.{is_carried}
use Rattle.midi_meaning.specs.Plain.{plain_piece}
use Rattle.midi_meaning.specs.Lanes.{Denotes, lane_after, pair_of, pairs_over, plain_pairs, bytes_for, lane_bytes}
use Rattle.midi_meaning.specs.Raising.{raised_voice, first_exclusive_packets, raised_message, raised_completed, packets_at, packets_up}
use Rattle.midi_meaning.specs.Back.{pieces_of, back_at, back, SameChannel, SameState}
use Rattle.midi_meaning.proofs.Induction.{start_denotes, one_more}
use Rattle.midi_meaning.proofs.Raising.{Raises}
use Rattle.midi_meaning.proofs.Recording.{uncarried, lane_bytes-pair}
use Rattle.midi_meaning.proofs.RaisedRanges.{all_in_range, packets_at_fit, packets_up_fit}
use Rattle.midi_meaning.proofs.Up.{raises, turned, packets_up-turned, meaning1-more}

-- ---- the bytes' side never has a loose parameter

IsTight : Channel → Type 0
IsTight c = (p : Param) → c.loose p ≡ false

tight_msb : (o : Option Param) (v : ℕ) (c : Channel) → IsTight c → IsTight (enter_msb as_they_come o v c)
unfolding IsTight
tight_msb None v c h = h
tight_msb (Some p) v c h = λ q. cond_both (same_param q p) false (c.loose q) (λ l. l ≡ false) (λ e. refl) (λ e. h q)

tight_lsb : (o : Option Param) (v : ℕ) (c : Channel) → IsTight c → IsTight (enter_lsb as_they_come o v c)
unfolding IsTight
tight_lsb None v c h = h
tight_lsb (Some p) v c h = h

abbrev pub AreOf : ℕ → List Packet → Type 0
AreOf g ps = AllByRecursion (λ p. group_of p ≡ Some g) ps

of_group_append : (g : ℕ) (xs ys : List Packet) → AreOf g xs → AreOf g ys → AreOf g (xs ++ ys)
of_group_append g [] ys h k = k
of_group_append g (x ∷ xs) ys h k = (h.0, of_group_append g xs ys h.1 k)

first_of_group : (g : ℕ) (payload : List ℕ) (k : ℕ) → AreOf g (first_exclusive_packets g payload k)
first_of_group g payload zero = tt
first_of_group g payload (suc k) = of_group_append g (first_exclusive_packets g payload k) _ (first_of_group g payload k) (refl, tt)

voices_of_group : (g : ℕ) (ms : List Voice2) → AreOf g (map (packet.Voice2 g) ms)
voices_of_group g [] = tt
voices_of_group g (m ∷ ms) = (refl, voices_of_group g ms)

turned_in_range : (xs acc : List Packet) → AllByRecursion IsInRange xs → AllByRecursion IsInRange acc
    → AllByRecursion IsInRange (reverse_aux xs acc)
turned_in_range [] acc h k = k
turned_in_range (x ∷ xs) acc h k = turned_in_range xs (x ∷ acc) h.1 (h.0, k)

module _ (paired : Bool) where
  tight-control : (r : Role) (i v : ℕ) (c : Channel) → IsTight c → IsTight (control (of_bytes paired) r i v c)
  unfolding IsTight
  tight-control data_msb i v c h = tight_msb (selected c.registers) v c h
  tight-control data_lsb i v c h = tight_lsb (selected c.registers) v c h
  tight-control _ i v c h = h

  tight-voice : (m : Voice1) (c : Channel) → IsTight c → IsTight (voice_at (of_bytes paired) m c)
  unfolding IsTight
  tight-voice (voice1.Control ch i v) c h = tight-control (pairing paired (role_of i)) i v c h
  tight-voice _ c h = h

  tight-step : (m : Message) (g : GroupState) → ((j : ℕ) → IsTight (g.channels j)) → (j : ℕ) → IsTight ((step1 paired g m).channels j)
  tight-step (voice m) g h j =
      cond_both (eqb j (channel_of m)) (voice_at (of_bytes paired) m (g.channels j)) (g.channels j) IsTight
      (λ e. tight-voice m (g.channels j) (h j)) (λ e. h j)
  tight-step (common m) g h j = h j
  tight-step (exclusive bytes) g h j = h j
  tight-step (real_time m) g h j = h j

  tight-completed : (o : Option Message) (g : GroupState) → ((j : ℕ) → IsTight (g.channels j)) → (j : ℕ)
      → IsTight ((fold (step1 paired) g (option_to_list o)).channels j)
  tight-completed None g h = h
  tight-completed (Some m) g h = tight-step m g h

  never_loose : (past : List ℕ) (j : ℕ) (p : Param) → ((meaning1 paired past).channels j).loose p ≡ false
  unfolding IsTight
  never_loose [] j p = refl
  never_loose (b ∷ past) j p =
      ap (λ (s : GroupState). (s.channels j).loose p) (meaning1-more paired past b)
      ∙ tight-completed (completed_by (step_of None past b)) (meaning1 paired past) (never_loose past) j p

  -- ---- the pieces of packets of one group

  lane_after-own : (bytes : List ℕ) (past : List Packet) (p : Packet) (g : ℕ) → group_of p ≡ Some g
      → lane_after paired bytes past p g ≡ reverse (plain_piece paired (whole_of past p) p) ++ bytes
  lane_after-own bytes past p g e =
      ap (λ t. cond t (reverse (plain_piece paired (whole_of past p) p) ++ bytes) bytes) (ap (λ o. is_group o g) e ∙ eq-eqb g g refl)

  -- the bytes of a lane, newest first, after further packets
  pieces_denote : WrittenMessagesAreReadAgain → (g : ℕ) (ps : List Packet) (bytes : List ℕ) (past : List Packet) → AreOf g ps
      → AllByRecursion IsInRange ps → AllByRecursion IsInRange past → Denotes paired bytes past g
      → Denotes paired (reverse (pieces_of paired past ps) ++ bytes) (reverse ps ++ past) g
  pieces_denote reads g [] bytes past o a b d = d
  pieces_denote reads g (p ∷ ps) bytes past o a b d =
      let piece = plain_piece paired (whole_of past p) p in
      let rest = pieces_of paired (p ∷ past) ps in
      let one : Denotes paired (reverse piece ++ bytes) (p ∷ past) g =
      subst (λ l. Denotes paired l (p ∷ past) g) (lane_after-own bytes past p g o.0) (one_more paired reads bytes past p g b a.0 d) in
      let more : Denotes paired (reverse rest ++ (reverse piece ++ bytes)) (reverse ps ++ (p ∷ past)) g =
      pieces_denote reads g ps (reverse piece ++ bytes) (p ∷ past) o.1 a.1 (a.0, b) one in
      subst (λ l. Denotes paired l (reverse (p ∷ ps) ++ past) g)
      (sym (append_assoc (reverse rest) (reverse piece) bytes) ∙ ap (λ l. l ++ bytes) (sym (reverse-append piece rest)))
      (subst (λ l. Denotes paired (reverse rest ++ (reverse piece ++ bytes)) l g) (sym (turned p ps past)) more)

  -- ---- the raised packets are of the group

  message_of_group : (s : GroupState) (g : ℕ) (m : Message) → AreOf g (raised_message paired s g m)
  message_of_group s g (voice m) = voices_of_group g (raised_voice paired (s.channels (channel_of m)) m)
  message_of_group s g (common m) = (refl, tt)
  message_of_group s g (real_time m) = (refl, tt)
  message_of_group s g (exclusive bytes) = first_of_group g bytes (part_count bytes)

  pub completed_of_group : (s : GroupState) (g : ℕ) (o : Option Message) → AreOf g (raised_completed paired s g o)
  completed_of_group s g None = tt
  completed_of_group s g (Some m) = message_of_group s g m

  pub raised_of_group : (room : Room) (g : ℕ) (past : List ℕ) → AreOf g (packets_up paired room g past)
  raised_of_group room g [] = tt
  raised_of_group room g (b ∷ past) =
      of_group_append g (packets_up paired room g past) _ (raised_of_group room g past)
      (completed_of_group (meaning1 paired past) g (completed_by (step_of room past b)))

  -- ---- there and back

  back_denotes : WrittenMessagesAreReadAgain → CutPayloadIsJoined → CompletedMessagesAreInRange → (room : Room) (g : ℕ) (past : List ℕ)
      → g < 16 → Denotes paired (reverse (back paired room g past)) (reverse (packets_up paired room g past)) g
  back_denotes reads joined sound room g [] l = start_denotes paired g
  back_denotes reads joined sound room g (b ∷ past) l =
      let before : List Packet = reverse (packets_up paired room g past) in
      let ps : List Packet = packets_at paired room g past b in
      let inside : AllByRecursion IsInRange before =
      turned_in_range (packets_up paired room g past) []
      (all_in_range (packets_up paired room g past) (packets_up_fit paired joined sound room g past l)) tt in
      let more : Denotes paired (reverse (pieces_of paired before ps) ++ reverse (back paired room g past)) (reverse ps ++ before) g =
      pieces_denote reads g ps (reverse (back paired room g past)) before
      (completed_of_group (meaning1 paired past) g (completed_by (step_of room past b)))
      (all_in_range ps (packets_at_fit paired joined sound room g past b l)) inside (back_denotes reads joined sound room g past l) in
      subst (λ bytes. Denotes paired bytes (reverse (packets_up paired room g (b ∷ past))) g)
      (sym (reverse-append (back paired room g past) (back_at paired room g past b)))
      (subst (λ ps. Denotes paired
      (reverse (pieces_of paired before (packets_at paired room g past b)) ++ reverse (back paired room g past)) ps g)
      (sym (packets_up-turned paired room g past b)) more)

  same_channel : (a b c : Channel) → Raises paired a c → ChannelAgrees paired b c → ((p : Param) → a.loose p ≡ false)
      → ((p : Param) → b.loose p ≡ false) → SameChannel b a
  same_channel a b c r h s t = record {
    acts = h.acts ∙ sym r.follows.agrees.acts;
    poly = λ n. h.poly n ∙ sym (r.follows.agrees.poly n);
    controllers = λ n. h.controllers n ∙ sym (r.follows.agrees.controllers n);
    pressure = h.pressure ∙ sym r.follows.agrees.pressure;
    bend = h.bend ∙ sym r.follows.agrees.bend;
    program = h.program ∙ sym r.follows.agrees.program;
    params = λ p. h.params p (r.tight p) ∙ sym (r.follows.agrees.params p (r.tight p));
    loose = λ p. t p ∙ sym (s p);
  }

  pub back_means : WrittenMessagesAreReadAgain → CutPayloadIsJoined → CompletedMessagesAreInRange → (g : ℕ) (past : List ℕ) → g < 16
      → SameState (meaning1 paired (reverse (back paired None g past))) (meaning1 paired past)
  back_means reads joined sound g past l =
      let r = raises paired joined sound g past in
      let d = back_denotes reads joined sound None g past l in
      record {
        channels =
            λ j. same_channel _ _ _ (r.channels j) (d.agrees.channels j) (never_loose past j)
            (never_loose (reverse (back paired None g past)) j);
        commons = d.agrees.commons ∙ sym r.commons;
        real_times = d.agrees.real_times ∙ sym r.real_times;
      }

  -- ---- they are the bytes of the group's lane

  pieces-lane : (g : ℕ) (ps past : List Packet) → AreOf g ps
      → lane_bytes g (pairs_over paired (reverse ps ++ past)) ≡ lane_bytes g (pairs_over paired past) ++ pieces_of paired past ps
  pieces-lane g [] past o = sym (append-nil (lane_bytes g (pairs_over paired past)))
  pieces-lane g (p ∷ ps) past o =
      let whole = whole_of past p in
      let piece = plain_piece paired whole p in
      let own : lane_bytes g (pair_of paired past p) ≡ piece =
      lane_bytes-pair g (group_of p) (is_carried paired whole p) piece (uncarried paired whole p)
      ∙ ap (λ t. cond t piece []) (ap (λ o. is_group o g) o.0 ∙ eq-eqb g g refl) in
      ap (λ l. lane_bytes g (pairs_over paired l)) (turned p ps past)
      ∙ pieces-lane g ps (p ∷ past) o.1
      ∙ ap (λ l. l ++ pieces_of paired (p ∷ past) ps)
      (flat_map-append (bytes_for g) (pairs_over paired past) (pair_of paired past p)
      ∙ ap (λ l. lane_bytes g (pairs_over paired past) ++ l) own)
      ∙ append_assoc (lane_bytes g (pairs_over paired past)) piece (pieces_of paired (p ∷ past) ps)

  pub back-lane : (room : Room) (g : ℕ) (past : List ℕ)
      → back paired room g past ≡ lane_bytes g (plain_pairs paired (packets_up paired room g past))
  back-lane room g [] = refl
  back-lane room g (b ∷ past) =
      let before : List Packet = reverse (packets_up paired room g past) in
      ap (λ l. l ++ back_at paired room g past b) (back-lane room g past)
      ∙ sym (pieces-lane g (packets_at paired room g past b) before
      (completed_of_group (meaning1 paired past) g (completed_by (step_of room past b))))
      ∙ ap (λ l. lane_bytes g (pairs_over paired l)) (sym (packets_up-turned paired room g past b))

  -- ---- packet by packet

  pieces-append : (xs ys past : List Packet)
      → pieces_of paired past (xs ++ ys) ≡ pieces_of paired past xs ++ pieces_of paired (reverse xs ++ past) ys
  pieces-append [] ys past = refl
  pieces-append (x ∷ xs) ys past =
      let piece = plain_piece paired (whole_of past x) x in
      ap (λ l. piece ++ l)
      (pieces-append xs ys (x ∷ past) ∙ ap (λ l. pieces_of paired (x ∷ past) xs ++ pieces_of paired l ys) (sym (turned x xs past)))
      ∙ sym (append_assoc piece (pieces_of paired (x ∷ past) xs) (pieces_of paired (reverse (x ∷ xs) ++ past) ys))

  pub pieces-more : (past packets : List Packet) (p : Packet)
      → pieces_of paired past (packets ++ p ∷ [])
      ≡ pieces_of paired past packets ++ plain_piece paired (whole_of (reverse packets ++ past) p) p
  pieces-more past packets p =
      pieces-append packets (p ∷ []) past
      ∙ ap (λ l. pieces_of paired past packets ++ l) (append-nil (plain_piece paired (whole_of (reverse packets ++ past) p) p))
