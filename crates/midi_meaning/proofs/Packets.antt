-- One more packet, with its plain messages, keeps agreement and equal registers in its group.
use Rattle.std.proofs.Common.{ℕ, ◌+◌, ◌-◌, ◌*◌, ◌/◌, ◌%◌, ◌^◌, ◌≡◌, ◌<◌, ◌∙◌, ap, sym, refl, subst, ◌&&◌}
use Rattle.std.proofs.Common.{Bool, true, false, cond, arith, List, [], ◌∷◌, ◌++◌, Option, Some, None}
use Rattle.std.proofs.lemmas.Bool.{cond_both, eq-eqb, ne_eqb}
use Rattle.std.specs.Option.{unwrap_or}
use Rattle.std.specs.List.{fold}
use mathlib.Core.Path.{fun_ext}
use lib.Dec.{eqb}
use Rattle.voice_messages.specs.declared.voice1.Voice1.{Voice1}
use Rattle.voice_messages.specs.declared.voice1.Voice1.TheVariants as voice1
use Rattle.voice_messages.specs.declared.voice1.System.{System}
use Rattle.voice_messages.specs.declared.voice1.System.TheVariants as system
use Rattle.voice_messages.specs.declared.voice2.ParamKind.{ParamKind}
use Rattle.voice_messages.specs.declared.voice2.ParamKind.TheVariants.{Registered, Assignable}
use Rattle.voice_messages.specs.declared.voice2.Param.{Param}
use Rattle.voice_messages.specs.declared.voice2.Bank.{Bank}
use Rattle.voice_messages.specs.declared.voice2.Voice2.{Voice2}
use Rattle.voice_messages.specs.declared.voice2.Voice2.TheVariants as voice2
use Rattle.voice_messages.specs.Ranges.{IsVoice2}
use Rattle.ump_grammar.specs.declared.packet.Packet.{Packet}
use Rattle.ump_grammar.specs.declared.packet.Packet.TheVariants as packet
use Rattle.bit_scaling.specs.Scaling.{down7, down14, release_down, velocity_down}
use Rattle.midi1_bytes.specs.Messages.{Message, system_message}
use Rattle.midi_meaning.specs.Registers.{is_null, bank_of, with_bank, with_selected}
use Rattle.midi_meaning.specs.Controllers.{Role, reset_all, channel_mode, coarse, plain}
use Rattle.midi_meaning.specs.Controllers.{role_of, pairing, number_msb_index, number_lsb_index}
use Rattle.midi_meaning.specs.State.{on, off, mode, Channel, with_controller, GroupState, with_registers, with_value, with_param}
use Rattle.midi_meaning.specs.State.{with_looseness, put, same_kind, same_param, at_channel, with_common, with_real_time}
use Rattle.midi_meaning.specs.Messages.{of_packets, of_bytes, as_they_come, enter_msb, enter_lsb}
use Rattle.midi_meaning.specs.Messages.{with_coarse, with_fine, voice_at, channel_of, step_at, step1}
use Rattle.midi_meaning.specs.Packets.{control2, set_param, program2, channel2, voice2_at, with_ended, step2, IsInRange}
use Rattle.midi_meaning.specs.Agreement.{controller_down, value_down}
use Rattle.midi_meaning.specs.Plain.{set_messages, control_messages, voice_messages, ended_messages, plain_messages}
use Rattle.bit_scaling.specs.ForProofs.Scaled.{down7_fits, down14_fits, velocity_down_above_zero}
use Rattle.midi_meaning.proofs.Pairs.{pair_fine}
use Rattle.midi_meaning.proofs.Changes.{follows-poly, follows-controller, follows-pressure}
use Rattle.midi_meaning.proofs.Changes.{follows-bend, follows-program, follows-param, follows-loose}
use Rattle.midi_meaning.proofs.Messages.{Matches, matches-act, matches-reset, matches-registers, matches-voice}

-- two changes of one channel are one
pub at_channel-at_channel : (ch : ℕ) (f1 f2 : Channel → Channel) (g : GroupState)
    → at_channel ch f2 (at_channel ch f1 g) ≡ at_channel ch (λ c. f2 (f1 c)) g
at_channel-at_channel ch f1 f2 g =
    λ i.
    record g {
      channels =
          fun_ext {f =
          λ j. cond (eqb j ch) (f2 (cond (eqb j ch) (f1 (g.channels j)) (g.channels j)))
          (cond (eqb j ch) (f1 (g.channels j)) (g.channels j))}
          {g = λ j. cond (eqb j ch) (f2 (f1 (g.channels j))) (g.channels j)} (λ j. both (eqb j ch) (g.channels j)) i;
    }
  where
    both : (b : Bool) (c : Channel) → cond b (f2 (cond b (f1 c) c)) (cond b (f1 c) c) ≡ cond b (f2 (f1 c)) c
    both true c = refl
    both false c = refl

same_param-refl : (p : Param) → same_param p p ≡ true
same_param-refl p =
    same_with p.kind p.kind refl (eqb p.bank p.bank) (eqb p.index p.index) (eq-eqb p.bank p.bank refl) (eq-eqb p.index p.index refl)
  where
    same_with : (k l : ParamKind) → k ≡ l → (a b : Bool) → a ≡ true → b ≡ true → same_kind k l && (a && b) ≡ true
    same_with Registered Registered e a b x y = cc (x, y)
    same_with Assignable Assignable e a b x y = cc (x, y)
    same_with Registered Assignable e a b x y = cc
    same_with Assignable Registered e a b x y = cc

lsb_over : (p : Param) (x w : ℕ) (c : Channel) → with_value p w (with_param p x c) ≡ with_param p w c
lsb_over p x w c =
    λ i.
    record (with_param p w c) {
      params =
          fun_ext {f = put same_param (put same_param c.params p x) p w} {g = put same_param c.params p w} (λ q. twice (same_param q p) _)
          i;
    }
  where
    twice : (b : Bool) (o : Option ℕ) → cond b (Some w) (cond b (Some x) o) ≡ cond b (Some w) o
    twice true o = refl
    twice false o = refl

-- the MSB and then the LSB
both_halves : (p : Param) (w : ℕ) (c : Channel)
    → enter_lsb as_they_come (Some p) (w % 128) (enter_msb as_they_come (Some p) (w / 128) c) ≡ with_param p w c
both_halves p w c =
    let value : unwrap_or (cond (same_param p p) (Some (w / 128 * 128)) (c.params p)) 0 / 128 * 128 + w % 128 ≡ w =
    rw (same_param-refl p) (omega arith) in
    ap (λ n. with_value p n (with_param p (w / 128 * 128) c)) value ∙ lsb_over p _ w c

abbrev numbered : ParamKind → ℕ → ℕ → Channel → Channel
numbered k m l c = with_registers (with_selected (record { kind = k; bank = m; index = l }) c.registers) c

-- ---- a pair, MSB and LSB

controller_over : (i x w : ℕ) (c : Channel) → with_controller i w (with_controller i x c) ≡ with_controller i w c
controller_over i x w c =
    λ k. record (with_controller i w c)
    { controllers = fun_ext {f = put eqb (put eqb c.controllers i x) i w} {g = put eqb c.controllers i w} (λ j. twice (eqb j i) _) k }
  where
    twice : (b : Bool) (o : Option ℕ) → cond b (Some w) (cond b (Some x) o) ≡ cond b (Some w) o
    twice true o = refl
    twice false o = refl

pub pair_halves : (i w : ℕ) (c : Channel)
    → with_fine as_they_come (i + 32 - 32) (w % 128) (with_coarse as_they_come i (w / 128) c) ≡ with_controller i w c
pair_halves i w c =
    let back : i + 32 - 32 ≡ i = omega arith in
    let value : unwrap_or (cond (eqb i i) (Some (w / 128 * 128)) (c.controllers i)) 0 / 128 * 128 + w % 128 ≡ w =
    rw (eq-eqb i i refl) (omega arith) in
    let d : Channel = with_controller i (w / 128 * 128) c in
    ap (λ k. with_controller k (unwrap_or (d.controllers k) 0 / 128 * 128 + w % 128) d) back
    ∙ ap (λ n. with_controller i n d) value
    ∙ controller_over i _ w c

note_on_positive : (n v : ℕ) → cond (eqb (velocity_down v) 0) (off n 64) (on n (velocity_down v)) ≡ on n (velocity_down v)
note_on_positive n v = rw (ne_eqb (velocity_down v) 0 (λ e. omega (arith, velocity_down_above_zero v)))

-- ---- one channel of a group

module _ (paired : Bool) where
  pub record GroupMatches (g1 g2 : GroupState) : Type 0 where
    pub channels : (j : ℕ) → Matches paired (g1.channels j) (g2.channels j)
    pub commons : g1.commons ≡ g2.commons
    pub real_times : g1.real_times ≡ g2.real_times

  pub matches-at_channel : (ch : ℕ) (f1 f2 : Channel → Channel) (g1 g2 : GroupState)
      → ((c1 c2 : Channel) → Matches paired c1 c2 → Matches paired (f1 c1) (f2 c2)) → GroupMatches g1 g2
      → GroupMatches (at_channel ch f1 g1) (at_channel ch f2 g2)
  matches-at_channel ch f1 f2 g1 g2 f h =
      let at : (j : ℕ)
      → Matches paired (cond (eqb j ch) (f1 (g1.channels j)) (g1.channels j)) (cond (eqb j ch) (f2 (g2.channels j)) (g2.channels j)) =
      λ j. either (eqb j ch) _ _ _ _ (f _ _ (h.channels j)) (h.channels j) in
      search (h, at)
    where
      either : (b : Bool) (x1 y1 x2 y2 : Channel) → Matches paired x1 x2 → Matches paired y1 y2
          → Matches paired (cond b x1 y1) (cond b x2 y2)
      either true x1 y1 x2 y2 p q = p
      either false x1 y1 x2 y2 p q = q

  -- ---- a parameter set

  -- the four control changes that set a parameter, on a channel
  set_with : ParamKind → ℕ → ℕ → ℕ → Channel → Channel
  set_with k m l w c =
      voice_at (of_bytes paired) (voice1.Control 0 38 (w % 128))
      (voice_at (of_bytes paired) (voice1.Control 0 6 (w / 128))
      (voice_at (of_bytes paired) (voice1.Control 0 (number_lsb_index k) l)
      (voice_at (of_bytes paired) (voice1.Control 0 (number_msb_index k) m) c)))

  set_with-is : (k : ParamKind) (m l w : ℕ) (c : Channel) → is_null (record { kind = k; bank = m; index = l }) ≡ false
      → set_with k m l w c ≡ with_param (record { kind = k; bank = m; index = l }) w (numbered k m l c)
  unfolding set_with role_of
  set_with-is Registered m l w c n = simp n (both_halves (record { kind = Registered; bank = m; index = l }) w (numbered Registered m l c))
  set_with-is Assignable m l w c n = simp n (both_halves (record { kind = Assignable; bank = m; index = l }) w (numbered Assignable m l c))

  matches-set : (k : ParamKind) (m l v : ℕ) (c1 c2 : Channel) → is_null (record { kind = k; bank = m; index = l }) ≡ false → v < 2 ^ 32
      → Matches paired c1 c2 → Matches paired (set_with k m l (down14 v) c1) (set_param (record { kind = k; bank = m; index = l }) v c2)
  matches-set k m l v c1 c2 n b h =
      let p : Param = record { kind = k; bank = m; index = l } in
      let r : Matches paired (numbered k m l c1) (numbered k m l c2) = matches-registers paired (with_selected p) c1 c2 h in
      let s : Matches paired (with_param p (down14 v) (numbered k m l c1)) (with_param p v (numbered k m l c2)) = record {
        follows = follows-param paired (numbered k m l c1) (numbered k m l c2) p (down14 v) v r.follows (down14_fits v b) refl;
        registers = r.registers;
      } in
      subst (λ c. Matches paired c (set_param p v c2)) (sym (set_with-is k m l (down14 v) c1 n)) s

  -- ---- control changes that are carried

  abbrev single : ℕ → ℕ → Channel → Channel
  single i v c = voice_at (of_bytes paired) (voice1.Control 0 i (down7 v)) c

  -- both halves of a pair, on a channel
  pair_with : ℕ → ℕ → Channel → Channel
  pair_with i w c =
      voice_at (of_bytes paired) (voice1.Control 0 (i + 32) (w % 128)) (voice_at (of_bytes paired) (voice1.Control 0 i (w / 128)) c)

  pair_with-is : (i w : ℕ) (c : Channel) → pairing paired (role_of i) ≡ coarse → pair_with i w c ≡ with_controller i w c
  unfolding pair_with
  pair_with-is i w c e = rw (e, pair_fine paired i e) (pair_halves i w c)

  matches-pair : (i v : ℕ) (c1 c2 : Channel) → pairing paired (role_of i) ≡ coarse → v < 2 ^ 32 → Matches paired c1 c2
      → Matches paired (pair_with i (down14 v) c1) (with_controller i v c2)
  matches-pair i v c1 c2 e b h =
      let lowered : down14 v ≡ controller_down paired i v = ap (λ r. value_down r v) (sym e) in
      subst (λ c. Matches paired c (with_controller i v c2)) (sym (pair_with-is i (down14 v) c1 e))
      (record { follows = follows-controller paired c1 c2 i (down14 v) v h.follows (down14_fits v b) lowered; registers = h.registers })

  -- ---- a program change with its bank

  banked : ℕ → Bank → Channel → Channel
  banked p b c =
      voice_at (of_bytes paired) (voice1.Program 0 p)
      (voice_at (of_bytes paired) (voice1.Control 0 32 b.lsb) (voice_at (of_bytes paired) (voice1.Control 0 0 b.msb) c))

  matches-program : (p : ℕ) (c1 c2 : Channel) → Matches paired c1 c2
      → Matches paired (voice_at (of_bytes paired) (voice1.Program 0 p) c1) (program2 None p c2)
  matches-program p c1 c2 h =
      record { follows = follows-program paired c1 c2 p h.follows (ap bank_of h.registers); registers = h.registers }

  matches-banked : (p : ℕ) (b : Bank) (c1 c2 : Channel) → Matches paired c1 c2 → Matches paired (banked p b c1) (program2 (Some b) p c2)
  unfolding banked role_of
  matches-banked p b c1 c2 h = matches-program p _ _ (matches-registers paired (with_bank b) c1 c2 h)

  -- ---- one packet

  same_group : (g1 g1' g2 : GroupState) → g1' ≡ g1 → GroupMatches g1 g2 → GroupMatches g1' g2
  same_group g1 g1' g2 e h = subst (λ g. GroupMatches g g2) (sym e) h

  one_voice : (ch : ℕ) (m1 : Voice1) (m2 : Voice2) (g1 g2 : GroupState)
      → ((c1 c2 : Channel) → Matches paired c1 c2 → Matches paired (voice_at (of_bytes paired) m1 c1) (voice2_at paired m2 c2))
      → GroupMatches g1 g2 → GroupMatches (at_channel ch (voice_at (of_bytes paired) m1) g1) (at_channel ch (voice2_at paired m2) g2)
  one_voice ch m1 m2 g1 g2 f h = matches-at_channel ch (voice_at (of_bytes paired) m1) (voice2_at paired m2) g1 g2 f h

  -- a change of the packets' side alone
  second_alone : (ch : ℕ) (f : Channel → Channel) (g1 g2 : GroupState)
      → ((c1 c2 : Channel) → Matches paired c1 c2 → Matches paired c1 (f c2)) → GroupMatches g1 g2 → GroupMatches g1 (at_channel ch f g2)
  second_alone ch f g1 g2 k h =
      let at : (j : ℕ) → Matches paired (g1.channels j) (cond (eqb j ch) (f (g2.channels j)) (g2.channels j)) =
      λ j. cond_both (eqb j ch) (f (g2.channels j)) (g2.channels j) (λ c. Matches paired (g1.channels j) c) (λ e. k _ _ (h.channels j))
      (λ e. h.channels j) in
      search (h, at)

  matches-loose : (p : Param) (c1 c2 : Channel) → Matches paired c1 c2 → Matches paired c1 (with_looseness true p c2)
  matches-loose p c1 c2 h = record { follows = follows-loose paired c1 c2 p h.follows; registers = h.registers }

  matches-control2 : (r : Role) (ch i v : ℕ) (g1 g2 : GroupState) → pairing paired (role_of i) ≡ r → v < 2 ^ 32 → GroupMatches g1 g2
      → GroupMatches (fold (step1 paired) g1 (control_messages r ch i v)) (at_channel ch (control2 r i v) g2)
  unfolding pair_with
  matches-control2 channel_mode ch i v g1 g2 e b h =
      matches-at_channel ch (single i v) (control2 channel_mode i v) g1 g2
      (λ c1 c2 f. rw e (matches-act paired c1 c2 (mode i (down7 v)) (mode i v) f refl)) h
  matches-control2 reset_all ch i v g1 g2 e b h =
      matches-at_channel ch (single i v) (control2 reset_all i v) g1 g2
      (λ c1 c2 f. rw e (matches-reset paired false _ _ (matches-act paired c1 c2 (mode i (down7 v)) (mode i v) f refl))) h
  matches-control2 plain ch i v g1 g2 e b h =
      let lowered : down7 v ≡ controller_down paired i v = ap (λ r. value_down r v) (sym e) in
      matches-at_channel ch (single i v) (control2 plain i v) g1 g2
      (λ c1 c2 f.
      rw e (record {
        follows = follows-controller paired c1 c2 i (down7 v) v f.follows (omega (arith, down7_fits v b)) lowered;
        registers = f.registers;
      }))
      h
  matches-control2 coarse ch i v g1 g2 e b h =
      same_group _ _ _ (simp at_channel-at_channel)
      (matches-at_channel ch (pair_with i (down14 v)) (control2 coarse i v) g1 g2 (λ c1 c2 f. matches-pair i v c1 c2 e b f) h)
  matches-control2 r ch i v g1 g2 e b h = second_alone ch (control2 r i v) g1 g2 (λ c1 c2 f. f) h

  matches-set2 : (t : Bool) (ch v : ℕ) (p : Param) (g1 g2 : GroupState) → is_null p ≡ t → v < 2 ^ 32 → GroupMatches g1 g2
      → GroupMatches (fold (step1 paired) g1 (cond t [] (set_messages ch p (down14 v))))
      (at_channel ch (λ c. cond t c (set_param p v c)) g2)
  unfolding set_with
  matches-set2 true ch v p g1 g2 e b h = second_alone ch (λ c. c) g1 g2 (λ c1 c2 f. f) h
  matches-set2 false ch v p g1 g2 e b h =
      same_group _ _ _ (simp at_channel-at_channel)
      (matches-at_channel ch (set_with p.kind p.bank p.index (down14 v)) (set_param p v) g1 g2
      (λ c1 c2 f. matches-set p.kind p.bank p.index v c1 c2 e b f) h)

  pub matches-voice2 : (m : Voice2) (g1 g2 : GroupState) → IsVoice2 m → GroupMatches g1 g2
      → GroupMatches (fold (step1 paired) g1 (voice_messages paired m)) (at_channel (channel2 m) (voice2_at paired m) g2)
  unfolding banked
  matches-voice2 (voice2.NoteOff ch n v t a) g1 g2 b h =
      one_voice ch (voice1.NoteOff ch n (release_down v)) (voice2.NoteOff ch n v t a) g1 g2
      (λ c1 c2 f. matches-act paired c1 c2 (off n (release_down v)) (off n v) f refl) h
  matches-voice2 (voice2.NoteOn ch n v t a) g1 g2 b h =
      one_voice ch (voice1.NoteOn ch n (velocity_down v)) (voice2.NoteOn ch n v t a) g1 g2
      (λ c1 c2 f. matches-act paired c1 c2 _ (on n v) f (note_on_positive n v)) h
  matches-voice2 (voice2.PolyPressure ch n v) g1 g2 b h =
      one_voice ch (voice1.PolyPressure ch n (down7 v)) (voice2.PolyPressure ch n v) g1 g2
      (λ c1 c2 f. record { follows = follows-poly paired c1 c2 n (down7 v) v f.follows refl; registers = f.registers }) h
  matches-voice2 (voice2.Pressure ch v) g1 g2 b h =
      one_voice ch (voice1.Pressure ch (down7 v)) (voice2.Pressure ch v) g1 g2
      (λ c1 c2 f. record { follows = follows-pressure paired c1 c2 (down7 v) v f.follows refl; registers = f.registers }) h
  matches-voice2 (voice2.Bend ch v) g1 g2 b h =
      one_voice ch (voice1.Bend ch (down14 v)) (voice2.Bend ch v) g1 g2
      (λ c1 c2 f. record { follows = follows-bend paired c1 c2 (down14 v) v f.follows refl; registers = f.registers }) h
  matches-voice2 (voice2.Control ch i v) g1 g2 b h = matches-control2 (pairing paired (role_of i)) ch i v g1 g2 refl b.2 h
  matches-voice2 (voice2.Set ch p v) g1 g2 b h = matches-set2 (is_null p) ch v p g1 g2 refl b.2 h
  matches-voice2 (voice2.Shift ch p v) g1 g2 b h =
      second_alone ch (voice2_at paired (voice2.Shift ch p v)) g1 g2
      (λ c1 c2 f. cond_both (is_null p) c2 (with_looseness true p c2) (λ c. Matches paired c1 c) (λ e. f) (λ e. matches-loose p c1 c2 f))
      h
  matches-voice2 (voice2.Program ch p None) g1 g2 b h =
      one_voice ch (voice1.Program ch p) (voice2.Program ch p None) g1 g2 (λ c1 c2 f. matches-program p c1 c2 f) h
  matches-voice2 (voice2.Program ch p (Some k)) g1 g2 b h =
      same_group _ _ _ (simp at_channel-at_channel)
      (matches-at_channel ch (banked p k) (program2 (Some k) p) g1 g2 (λ c1 c2 f. matches-banked p k c1 c2 f) h)
  matches-voice2 m g1 g2 b h = second_alone (channel2 m) (λ c. c) g1 g2 (λ c1 c2 f. f) h

  matches-common : (m : Message) (g1 g2 : GroupState) → GroupMatches g1 g2 → GroupMatches (with_common m g1) (with_common m g2)
  matches-common m g1 g2 h = let e : g1.commons ++ m ∷ [] ≡ g2.commons ++ m ∷ [] = ap (λ l. l ++ m ∷ []) h.commons in search (h, e)

  matches-real_time : (m : System) (g1 g2 : GroupState) → GroupMatches g1 g2 → GroupMatches (with_real_time m g1) (with_real_time m g2)
  matches-real_time m g1 g2 h =
      let e : g1.real_times ++ m ∷ [] ≡ g2.real_times ++ m ∷ [] = ap (λ l. l ++ m ∷ []) h.real_times in
      search (h, e)

  matches-system : (m : System) (g1 g2 : GroupState) → GroupMatches g1 g2
      → GroupMatches (step1 paired g1 (system_message m)) (step_at (of_packets paired) g2 (system_message m))
  matches-system (system.Quarter n) g1 g2 h = matches-common _ g1 g2 h
  matches-system (system.Position n) g1 g2 h = matches-common _ g1 g2 h
  matches-system (system.Song n) g1 g2 h = matches-common _ g1 g2 h
  matches-system system.Tune g1 g2 h = matches-common _ g1 g2 h
  matches-system system.Clock g1 g2 h = matches-real_time _ g1 g2 h
  matches-system system.Start g1 g2 h = matches-real_time _ g1 g2 h
  matches-system system.Continue g1 g2 h = matches-real_time _ g1 g2 h
  matches-system system.Stop g1 g2 h = matches-real_time _ g1 g2 h
  matches-system system.Sensing g1 g2 h = matches-real_time _ g1 g2 h
  matches-system system.Reset g1 g2 h = matches-real_time _ g1 g2 h

  matches-ended : (whole : Option (List ℕ)) (g1 g2 : GroupState) → GroupMatches g1 g2
      → GroupMatches (fold (step1 paired) g1 (ended_messages whole)) (with_ended whole g2)
  matches-ended None g1 g2 h = h
  matches-ended (Some bytes) g1 g2 h = matches-common _ g1 g2 h

  -- one more packet, with its plain messages
  pub matches-packet : (whole : Option (List ℕ)) (p : Packet) (g1 g2 : GroupState) → IsInRange p → GroupMatches g1 g2
      → GroupMatches (fold (step1 paired) g1 (plain_messages paired whole p)) (step2 paired g2 p whole)
  matches-packet whole (packet.System gr m) g1 g2 b h = matches-system m g1 g2 h
  matches-packet whole (packet.Voice1 gr v) g1 g2 b h =
      matches-at_channel (channel_of v) (voice_at (of_bytes paired) v) (voice_at (of_packets paired) v) g1 g2
      (λ c1 c2 f. matches-voice paired v c1 c2 b.1 f) h
  matches-packet whole (packet.Exclusive gr f bytes) g1 g2 b h = matches-ended whole g1 g2 h
  matches-packet whole (packet.Voice2 gr v) g1 g2 b h = matches-voice2 v g1 g2 b.1 h
  matches-packet whole _ g1 g2 b h = h
