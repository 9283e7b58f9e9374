-- The main induction of the way up: after each byte the packets mean what the bytes mean.
use Rattle.std.proofs.Common.{ℕ, ◌+◌, ◌≡◌, ◌<◌, ◌∙◌, ap, sym, refl, subst, zero, suc, List, [], ◌∷◌, ◌++◌, map}
use Rattle.std.proofs.Common.{reverse, Option, Some, None, Bool, true, false, cond, arith, append_assoc, ◌==◌}
use Rattle.std.specs.Option.{option_to_list, IfSome}
use Rattle.std.proofs.lemmas.Bool.{cond_both, eqb-true, eq-eqb, ne_eqb}
use Rattle.std.proofs.lemmas.List.{reverse-append}
use Rattle.std.proofs.lemmas.Grind.{fold-append}
use Rattle.std.specs.List.{fold, AllByRecursion}
use mathlib.Core.Path.{fun_ext}
use lib.Dec.{eqb}
use Rattle.voice_messages.specs.declared.voice1.Voice1.{Voice1}
use Rattle.voice_messages.specs.declared.voice1.Voice1.TheVariants as voice1
use Rattle.voice_messages.specs.declared.voice1.System.{System}
use Rattle.voice_messages.specs.declared.voice1.System.TheVariants as system
use Rattle.voice_messages.specs.declared.voice2.Voice2.{Voice2}
use Rattle.voice_messages.specs.declared.voice2.Voice2.TheVariants as voice2
use Rattle.voice_messages.specs.declared.voice2.Param.{Param}
use Rattle.bit_scaling.specs.Scaling.{up}
use Rattle.ump_grammar.specs.declared.packet.Packet.{Packet}
use Rattle.ump_grammar.specs.declared.packet.Packet.TheVariants as packet
use Rattle.sysex_groups.specs.Exclusives.{Part, Room, of_group}
use Rattle.sysex_groups.specs.Cut.{part_count, sent_part, sent}
use Rattle.midi1_bytes.specs.Messages.{Message, voice, common, exclusive, real_time, system_message, IsMessage, IsCommon, IsRealTime}
use Rattle.midi1_bytes.specs.Steps.{completed, completed_by, step_of}
use Rattle.midi1_bytes.specs.Laws.{CompletedMessagesAreInRange}
use Rattle.sysex_groups.specs.Laws.{CutPayloadIsJoined}
use Rattle.midi_meaning.specs.Registers.{selected}
use Rattle.midi_meaning.specs.Controllers.{Role, data_msb, data_lsb, reset_all, channel_mode, coarse, fine, plain, role_of, pairing}
use Rattle.midi_meaning.specs.State.{Channel, GroupState, at_channel, with_common, with_real_time}
use Rattle.midi_meaning.specs.Messages.{of_packets, of_bytes, as_they_come, channel_of, voice_at, step_at, step1, start, meaning1}
use Rattle.listing_terms.specs.Parts.{group_of, is_group, packet_parts, whole_of}
use Rattle.midi_meaning.specs.Packets.{channel2, voice2_at, with_ended, step2, meaning2}
use Rattle.midi_meaning.specs.Agreement.{Agrees}
use Rattle.midi_meaning.specs.Raising.{raised_entry, raised_control, raised_voice, exclusive_packet, first_exclusive_packets}
use Rattle.midi_meaning.specs.Raising.{exclusive_packets, raised_message, raised_completed, packets_at, packets_up}
use Rattle.midi_meaning.proofs.Packets.{at_channel-at_channel}
use Rattle.midi_meaning.proofs.Induction.{start_denotes}
use Rattle.midi_meaning.proofs.Raising.{Raises, raises-voice}

pub turned : (p : Packet) (ps past : List Packet) → reverse (p ∷ ps) ++ past ≡ reverse ps ++ (p ∷ past)
turned p ps past = let one : List Packet = p ∷ [] in ap (λ l. l ++ past) (reverse-append one ps) ∙ append_assoc (reverse ps) one past

-- the first k packets, newest first, after others
unfoldable pub behind : ℕ → List ℕ → List Packet → ℕ → List Packet
behind g payload past zero = past
behind g payload past (suc k) = exclusive_packet g payload k ∷ behind g payload past k

pub turned-first : (g : ℕ) (payload : List ℕ) (past : List Packet) (k : ℕ)
    → reverse (first_exclusive_packets g payload k) ++ past ≡ behind g payload past k
unfolding behind
turned-first g payload past zero = refl
turned-first g payload past (suc k) =
    let last : List Packet = exclusive_packet g payload k ∷ [] in
    ap (λ l. l ++ past) (reverse-append (first_exclusive_packets g payload k) last)
    ∙ ap (λ l. exclusive_packet g payload k ∷ l) (turned-first g payload past k)

behind-parts : (g : ℕ) (payload : List ℕ) (past : List Packet) (k : ℕ)
    → of_group g (packet_parts (behind g payload past k)) ≡ sent g (λ n. 0) payload (of_group g (packet_parts past)) k
unfolding behind
behind-parts g payload past zero = refl
behind-parts g payload past (suc k) =
    let part : Part = sent_part g (λ n. 0) payload k in
    let own : List Part = of_group g (packet_parts (behind g payload past k)) in
    ap (λ t. cond t (part ∷ own) own) (eq-eqb g g refl)
    ∙ ap (λ l. part ∷ l) (behind-parts g payload past k)

pub behind-whole : CutPayloadIsJoined → (g : ℕ) (payload : List ℕ) (past : List Packet) (k : ℕ) → k < part_count payload
    → whole_of (behind g payload past k) (exclusive_packet g payload k) ≡ cond (k + 1 == part_count payload) (Some payload) None
behind-whole joined g payload past k h =
    joined None payload refl g (λ n. 0) (of_group g (packet_parts past)) (packet_parts (behind g payload past k)) k h
    (behind-parts g payload past k)

abbrev pub IsOn : ℕ → Voice2 → Type 0
IsOn ch m = channel2 m ≡ ch

unchanged : (ch : ℕ) (g : GroupState) → at_channel ch (λ c. c) g ≡ g
unchanged ch g =
    λ i.
    record g {
      channels =
          fun_ext {f = λ j. cond (eqb j ch) (g.channels j) (g.channels j)} {g = g.channels}
          (λ j. cond_both (eqb j ch) (g.channels j) (g.channels j) (λ c. c ≡ g.channels j) (λ e. refl) (λ e. refl)) i;
    }

entry_on : (ch w : ℕ) (o : Option Param) → AllByRecursion (IsOn ch) (raised_entry ch o w)
entry_on ch w None = tt
entry_on ch w (Some p) = (refl, tt)

control_on : (c : Channel) (r : Role) (ch i v : ℕ) → AllByRecursion (IsOn ch) (raised_control c r ch i v)
control_on c data_msb ch i v = entry_on ch _ (selected c.registers)
control_on c data_lsb ch i v = entry_on ch _ (selected c.registers)
control_on c reset_all ch i v = (refl, tt)
control_on c channel_mode ch i v = (refl, tt)
control_on c coarse ch i v = (refl, tt)
control_on c fine ch i v = (refl, tt)
control_on c plain ch i v = (refl, tt)
control_on c _ ch i v = tt

common-is : (m : System) → IsCommon m → system_message m ≡ common m
common-is (system.Quarter n) b = refl
common-is (system.Position n) b = refl
common-is (system.Song n) b = refl
common-is system.Tune b = refl
common-is _ b = absurd b

real_time-is : (m : System) → IsRealTime m → system_message m ≡ real_time m
real_time-is (system.Quarter n) b = absurd b
real_time-is (system.Position n) b = absurd b
real_time-is (system.Song n) b = absurd b
real_time-is system.Tune b = absurd b
real_time-is system.Clock b = refl
real_time-is system.Start b = refl
real_time-is system.Continue b = refl
real_time-is system.Stop b = refl
real_time-is system.Sensing b = refl
real_time-is system.Reset b = refl

-- ---- one more packet of the group

module _ (paired : Bool) where
  pub meaning2-own : (g : ℕ) (p : Packet) (past : List Packet) → group_of p ≡ Some g
      → meaning2 paired (p ∷ past) g ≡ step2 paired (meaning2 paired past g) p (whole_of past p)
  meaning2-own g p past e =
      ap (λ t. cond t (step2 paired (meaning2 paired past g) p (whole_of past p)) (meaning2 paired past g))
      (ap (λ o. is_group o g) e ∙ eq-eqb g g refl)

  -- ---- the packets of an exclusive are joined again

  behind-mean : CutPayloadIsJoined → (g : ℕ) (payload : List ℕ) (past : List Packet) (k : ℕ) → k < part_count payload
      → meaning2 paired (behind g payload past (suc k)) g
      ≡ with_ended (cond (k + 1 == part_count payload) (Some payload) None) (meaning2 paired (behind g payload past k) g)
  unfolding behind
  behind-mean joined g payload past k h =
      meaning2-own g (exclusive_packet g payload k) (behind g payload past k) refl
      ∙ ap (λ o. with_ended o (meaning2 paired (behind g payload past k) g)) (behind-whole joined g payload past k h)

  -- all but the last are held
  held-mean : CutPayloadIsJoined → (g : ℕ) (payload : List ℕ) (past : List Packet) (k : ℕ) → k < part_count payload
      → meaning2 paired (behind g payload past k) g ≡ meaning2 paired past g
  unfolding behind
  held-mean joined g payload past zero h = refl
  held-mean joined g payload past (suc k) h =
      behind-mean joined g payload past k (omega arith)
      ∙ ap (λ t. with_ended (cond t (Some payload) None) (meaning2 paired (behind g payload past k) g))
      (ne_eqb (k + 1) (part_count payload) (λ e. omega arith))
      ∙ held-mean joined g payload past k (omega arith)

  pub exclusive-mean : CutPayloadIsJoined → (g : ℕ) (payload : List ℕ) (past : List Packet)
      → meaning2 paired (reverse (exclusive_packets g payload) ++ past) g ≡ with_common (exclusive payload) (meaning2 paired past g)
  exclusive-mean joined g payload past =
      ap (λ l. meaning2 paired l g) (turned-first g payload past (part_count payload)) ∙ go (part_count payload) refl
    where
      go : (n : ℕ) → part_count payload ≡ n
          → meaning2 paired (behind g payload past n) g ≡ with_common (exclusive payload) (meaning2 paired past g)
      go zero e = absurd (omega (arith, e))
      go (suc n) e =
          behind-mean joined g payload past n (omega (arith, e))
          ∙ ap (λ t. with_ended (cond t (Some payload) None) (meaning2 paired (behind g payload past n) g))
          (eq-eqb (n + 1) (part_count payload) (omega (arith, e)))
          ∙ ap (with_common (exclusive payload)) (held-mean joined g payload past n (omega (arith, e)))

  -- ---- the packets of a voice message

  voices-mean : (g ch : ℕ) (ms : List Voice2) (past : List Packet) → AllByRecursion (IsOn ch) ms
      → meaning2 paired (reverse (map (packet.Voice2 g) ms) ++ past) g
      ≡ at_channel ch (λ c. fold (λ c m. voice2_at paired m c) c ms) (meaning2 paired past g)
  voices-mean g ch [] past a = sym (unchanged ch (meaning2 paired past g))
  voices-mean g ch (m ∷ ms) past a =
      ap (λ l. meaning2 paired l g) (turned (packet.Voice2 g m) (map (packet.Voice2 g) ms) past)
      ∙ voices-mean g ch ms (packet.Voice2 g m ∷ past) a.1
      ∙ ap (at_channel ch (λ c. fold (λ c m. voice2_at paired m c) c ms)) (meaning2-own g (packet.Voice2 g m) past refl)
      ∙ ap (λ k. at_channel ch (λ c. fold (λ c m. voice2_at paired m c) c ms) (at_channel k (voice2_at paired m) (meaning2 paired past g)))
      a.0
      ∙ at_channel-at_channel ch (voice2_at paired m) (λ c. fold (λ c m. voice2_at paired m c) c ms) (meaning2 paired past g)

  raised_on : (c : Channel) (m : Voice1) → AllByRecursion (IsOn (channel_of m)) (raised_voice paired c m)
  raised_on c (voice1.NoteOff ch n v) = (refl, tt)
  raised_on c (voice1.NoteOn ch n v) =
      (cond_both (eqb v 0) (voice2.NoteOff ch n 0x8000 0 0) (voice2.NoteOn ch n (up v 7 16) 0 0) (IsOn ch) (λ e. refl) (λ e. refl), tt)
  raised_on c (voice1.PolyPressure ch n v) = (refl, tt)
  raised_on c (voice1.Control ch i v) = control_on c (pairing paired (role_of i)) ch i v
  raised_on c (voice1.Program ch p) = (refl, tt)
  raised_on c (voice1.Pressure ch v) = (refl, tt)
  raised_on c (voice1.Bend ch v) = (refl, tt)

  -- ---- the packets of a message

  pub record GroupRaises (g1 g2 : GroupState) : Type 0 where
    pub channels : (j : ℕ) → Raises paired (g1.channels j) (g2.channels j)
    pub commons : g1.commons ≡ g2.commons
    pub real_times : g1.real_times ≡ g2.real_times

  raises_message : CutPayloadIsJoined → (g : ℕ) (m : Message) (g1 : GroupState) (past : List Packet) → IsMessage m
      → GroupRaises g1 (meaning2 paired past g)
      → GroupRaises (step1 paired g1 m) (meaning2 paired (reverse (raised_message paired g1 g m) ++ past) g)
  raises_message joined g (voice m) g1 past b h =
      let ch = channel_of m in
      let f2 : Channel → Channel = λ c. fold (λ c m. voice2_at paired m c) c (raised_voice paired (g1.channels ch) m) in
      let at : (j : ℕ)
      → Raises paired (cond (eqb j ch) (voice_at (of_bytes paired) m (g1.channels j)) (g1.channels j))
      (cond (eqb j ch) (f2 ((meaning2 paired past g).channels j)) ((meaning2 paired past g).channels j)) =
      λ j. voice_at_j j (eqb j ch) refl in
      subst (GroupRaises (step1 paired g1 (voice m)))
      (sym (voices-mean g ch (raised_voice paired (g1.channels ch) m) past (raised_on (g1.channels ch) m)))
      (record { channels = at; commons = h.commons; real_times = h.real_times })
    where
      voice_at_j : (j : ℕ) (t : Bool) → eqb j (channel_of m) ≡ t
          → Raises paired (cond t (voice_at (of_bytes paired) m (g1.channels j)) (g1.channels j))
          (cond t (fold (λ c m. voice2_at paired m c) ((meaning2 paired past g).channels j)
          (raised_voice paired (g1.channels (channel_of m)) m))
          ((meaning2 paired past g).channels j))
      voice_at_j j true e =
          subst (λ k. Raises paired (voice_at (of_bytes paired) m (g1.channels j))
          (fold (λ c m. voice2_at paired m c) ((meaning2 paired past g).channels j) (raised_voice paired (g1.channels k) m)))
          (eqb-true j (channel_of m) e) (raises-voice paired m (g1.channels j) ((meaning2 paired past g).channels j) b (h.channels j))
      voice_at_j j false e = h.channels j
  raises_message joined g (exclusive bytes) g1 past b h =
      subst (GroupRaises (step1 paired g1 (exclusive bytes))) (sym (exclusive-mean joined g bytes past))
      (record { channels = h.channels; commons = ap (λ l. l ++ exclusive bytes ∷ []) h.commons; real_times = h.real_times })
  raises_message joined g (common m) g1 past b h =
      subst (GroupRaises (with_common (common m) g1))
      (sym (meaning2-own g (packet.System g m) past refl ∙ ap (step_at (of_packets paired) (meaning2 paired past g)) (common-is m b)))
      (record { channels = h.channels; commons = ap (λ l. l ++ common m ∷ []) h.commons; real_times = h.real_times })
  raises_message joined g (real_time m) g1 past b h =
      subst (GroupRaises (with_real_time m g1))
      (sym (meaning2-own g (packet.System g m) past refl ∙ ap (step_at (of_packets paired) (meaning2 paired past g)) (real_time-is m b)))
      (record { channels = h.channels; commons = h.commons; real_times = ap (λ l. l ++ m ∷ []) h.real_times })

  raises_completed : CutPayloadIsJoined → (g : ℕ) (o : Option Message) (g1 : GroupState) (past : List Packet) → IfSome o IsMessage
      → GroupRaises g1 (meaning2 paired past g)
      → GroupRaises (fold (step1 paired) g1 (option_to_list o)) (meaning2 paired (reverse (raised_completed paired g1 g o) ++ past) g)
  raises_completed joined g None g1 past b h = h
  raises_completed joined g (Some m) g1 past b h = raises_message joined g m g1 past b h

  -- ---- after each byte

  pub packets_up-turned : (room : Room) (g : ℕ) (past : List ℕ) (b : ℕ)
      → reverse (packets_up paired room g (b ∷ past)) ≡ reverse (packets_at paired room g past b) ++ reverse (packets_up paired room g past)
  packets_up-turned room g past b = reverse-append (packets_up paired room g past) (packets_at paired room g past b)

  pub meaning1-more : (past : List ℕ) (b : ℕ)
      → meaning1 paired (b ∷ past) ≡ fold (step1 paired) (meaning1 paired past) (option_to_list (completed_by (step_of None past b)))
  meaning1-more past b =
      fold-append (step1 paired) (start as_they_come) (completed past) (option_to_list (completed_by (step_of None past b)))

  pub raises : CutPayloadIsJoined → CompletedMessagesAreInRange → (g : ℕ) (past : List ℕ)
      → GroupRaises (meaning1 paired past) (meaning2 paired (reverse (packets_up paired None g past)) g)
  raises joined sound g [] =
      let d = start_denotes paired g in
      record {
        channels = λ j. record {
          follows = record { agrees = d.agrees.channels j; bounded = d.bounded j; controllers_bounded = d.controllers_bounded j };
          tight = λ p. refl;
          banks = λ e. refl;
        };
        commons = refl;
        real_times = refl;
      }
  raises joined sound g (b ∷ past) =
      let o = completed_by (step_of None past b) in
      let one : GroupRaises (fold (step1 paired) (meaning1 paired past) (option_to_list o))
      (meaning2 paired (reverse (packets_at paired None g past b) ++ reverse (packets_up paired None g past)) g) =
      raises_completed joined g o (meaning1 paired past) (reverse (packets_up paired None g past)) (sound None past b)
      (raises joined sound g past) in
      subst (λ s. GroupRaises s (meaning2 paired (reverse (packets_up paired None g (b ∷ past))) g)) (sym (meaning1-more past b))
      (subst (λ l. GroupRaises (fold (step1 paired) (meaning1 paired past) (option_to_list o)) (meaning2 paired l g))
      (sym (packets_up-turned None g past b)) one)

  pub raised_agrees : CutPayloadIsJoined → CompletedMessagesAreInRange → (g : ℕ) (past : List ℕ)
      → Agrees paired (meaning1 paired past) (meaning2 paired (reverse (packets_up paired None g past)) g)
  raised_agrees joined sound g past =
      let r = raises joined sound g past in
      record { channels = λ j. (r.channels j).follows.agrees; commons = r.commons; real_times = r.real_times }
