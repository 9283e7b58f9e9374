-- What is kept of a lane for the compact style is what the lane's bytes after the last System Reset leave.
use Rattle.std.proofs.Common.{ℕ, ◌/◌, ◌%◌, ◌≡◌, ◌<◌, ◌∙◌, ap, sym, refl, subst, List, [], ◌∷◌, ◌++◌, reverse, length, zero, suc, Option}
use Rattle.std.proofs.Common.{Some, None, Bool, true, false, cond, arith, ◌⊎◌, inl, inr, replicate, slice_index_or, slice_set, ◌+◌}
use Rattle.std.proofs.lemmas.Bool.{cond_both, eqb-true, eqb-false}
use Rattle.std.proofs.lemmas.Grind.{get_or-set_at}
use Rattle.std.proofs.lemmas.List.{get_or-set_other, length-set, length-replicate}
use Rattle.std.specs.Prelude.{drop, IfSome}
use Rattle.std.specs.List.{fold, AllByRecursion}
use mathlib.Core.Path.{fun_ext}
use lib.Dec.{eqb}
use Rattle.voice_messages.specs.declared.voice1.System.{System}
use Rattle.voice_messages.specs.declared.voice1.System.TheVariants as system
use Rattle.voice_messages.specs.declared.voice1.Voice1.{Voice1}
use Rattle.voice_messages.specs.declared.voice1.Voice1.TheVariants as voice1
use Rattle.voice_messages.specs.declared.voice2.ParamKind.{ParamKind}
use Rattle.voice_messages.specs.declared.voice2.ParamKind.TheVariants.{Registered, Assignable}
use Rattle.voice_messages.specs.declared.voice2.Param.{Param}
use Rattle.voice_messages.specs.declared.voice2.Bank.{Bank}
use Rattle.voice_messages.specs.declared.voice2.Voice2.{Voice2}
use Rattle.voice_messages.specs.declared.voice2.Voice2.TheVariants as voice2
use Rattle.voice_messages.specs.Ranges.{IsVoice1, IsVoice2}
use Rattle.ump_grammar.specs.declared.packet.Packet.{Packet}
use Rattle.ump_grammar.specs.declared.packet.Packet.TheVariants as packet
use Rattle.bit_scaling.specs.Scaling.{down7, down14, release_down, velocity_down}
use Rattle.midi1_bytes.specs.Laws.{RunningStatusIsThatOfTheMessages, StatusesThatRunCanBeLeftOut, WrittenMessagesAreReadAgain}
use Rattle.midi1_bytes.specs.Messages.{voice, system_message, AreData, IsMessage}
use Rattle.midi1_bytes.specs.RunningStatus.{running_over, written_under}
use Rattle.midi1_bytes.specs.Stream.{running}
use Rattle.midi_meaning.specs.Registers.{Pair, Registers, unset_registers, is_null, with_bank, with_selected, without_selection}
use Rattle.midi_meaning.specs.Controllers.{Role, bank_msb, bank_lsb, data_msb, data_lsb, data_increment}
use Rattle.midi_meaning.specs.Controllers.{data_decrement, number_msb, number_lsb, reset_all, channel_mode, coarse}
use Rattle.midi_meaning.specs.Controllers.{fine, plain, role_of, pairing, number_msb_index, number_lsb_index}
use Rattle.listing_terms.specs.Parts.{group_of, is_group, whole_of}
use Rattle.midi_meaning.specs.Roles.{registers_after}
use Rattle.midi_meaning.specs.State.{Channel, GroupState, at_channel}
use Rattle.midi_meaning.specs.Messages.{of_bytes, voice_at, channel_of, meaning1, step1}
use Rattle.midi_meaning.specs.Packets.{IsInRange}
use Rattle.midi_meaning.specs.Plain.{control_messages, set_messages, program_messages, voice_messages, ended_messages, plain_messages}
use Rattle.midi_meaning.specs.Compact.{since_reset, registers_in, is_selected, has_bank, needed_program, needed_messages, compact_piece}
use Rattle.midi_meaning.specs.LaneState.{LaneState, new_lane, registers_at, compact_by, at_registers_of}
use Rattle.midi_meaning.specs.LaneState.{channels_after1, channels_after_control2, channels_after_program}
use Rattle.midi_meaning.specs.LaneState.{channels_after2, channels_after, kept_after, lane_state_after, lane_state_over}
use Rattle.midi_meaning.specs.Relied.{PairIsSameIn, AreSameIn, IsRelied, IsLaneOf}
use Rattle.midi_meaning.specs.Styles.{compact_style}
use Rattle.midi_meaning.proofs.Pairs.{pair_fine, registers-pairing}
use Rattle.midi_meaning.proofs.Compact.{IsReset, NotReset, after_piece, last_read, reset_or_other, reset_piece}
use Rattle.midi_meaning.proofs.Induction.{plain_is_message, meaning1-piece}
use Rattle.midi_meaning.proofs.Joined.{whole_data}
use Rattle.midi_meaning.proofs.Needed.{all_needed, needed-means}
use Rattle.midi_meaning.proofs.Packets.{at_channel-at_channel}
use Rattle.midi_meaning.proofs.SameRegisters.{control-registers}
use Rattle.midi_meaning.proofs.Styles.{recording_keeps, styled_lane, styled_lane-more}

-- ---- sixteen channels

unset_at : (count channel : ℕ) → slice_index_or (replicate count unset_registers) channel unset_registers ≡ unset_registers
unset_at zero channel = refl
unset_at (suc count) zero = refl
unset_at (suc count) (suc channel) = unset_at count channel

-- the channels have the registers of a state
abbrev HaveRegisters : List Registers → GroupState → Type 0
HaveRegisters channels g = (j : ℕ) → registers_at channels j ≡ (g.channels j).registers

-- a change of one channel
changed : (channels : List Registers) (g : GroupState) (ch : ℕ) (f : Registers → Registers) (F : Channel → Channel) → ch < length channels
    → (F (g.channels ch)).registers ≡ f (g.channels ch).registers → HaveRegisters channels g
    → HaveRegisters (at_registers_of ch f channels) (at_channel ch F g)
changed channels g ch f F within is h j =
    let new : Registers = f (registers_at channels ch) in
    let known : new ≡ (F (g.channels ch)).registers = ap f (h ch) ∙ sym is in
    cond_both (eqb j ch) (F (g.channels j)) (g.channels j) (λ c. slice_index_or (slice_set channels ch new) j unset_registers ≡ c.registers)
    (λ same. get_or-set_at channels ch j new unset_registers (eqb-true j ch same) within
    ∙ known
    ∙ ap (λ k. (F (g.channels k)).registers) (sym (eqb-true j ch same)))
    (λ apart. get_or-set_other channels ch j new unset_registers (eqb-false j ch apart) ∙ h j)

-- and one that leaves its registers
unchanged : (channels : List Registers) (g : GroupState) (ch : ℕ) (F : Channel → Channel)
    → (F (g.channels ch)).registers ≡ (g.channels ch).registers → HaveRegisters channels g → HaveRegisters channels (at_channel ch F g)
unchanged channels g ch F is h j =
    cond_both (eqb j ch) (F (g.channels j)) (g.channels j) (λ c. registers_at channels j ≡ c.registers)
    (λ same. h j ∙ sym (subst (λ k. (F (g.channels k)).registers ≡ (g.channels k).registers) (sym (eqb-true j ch same)) is))
    (λ apart. h j)

sixteen_at : (ch : ℕ) (f : Registers → Registers) (channels : List Registers) → length channels ≡ 16
    → length (at_registers_of ch f channels) ≡ 16
sixteen_at ch f channels h = length-set channels ch (f (registers_at channels ch)) ∙ h

sixteen_voice1 : (v : Voice1) (channels : List Registers) → length channels ≡ 16 → length (channels_after1 v channels) ≡ 16
sixteen_voice1 (voice1.Control ch i v) channels h = sixteen_at ch (registers_after (role_of i) v) channels h
sixteen_voice1 (voice1.NoteOff ch n v) channels h = h
sixteen_voice1 (voice1.NoteOn ch n v) channels h = h
sixteen_voice1 (voice1.PolyPressure ch n v) channels h = h
sixteen_voice1 (voice1.Program ch p) channels h = h
sixteen_voice1 (voice1.Pressure ch v) channels h = h
sixteen_voice1 (voice1.Bend ch v) channels h = h

sixteen_role : (r : Role) (ch : ℕ) (channels : List Registers) → length channels ≡ 16 → length (channels_after_control2 r ch channels) ≡ 16
sixteen_role reset_all ch channels h = sixteen_at ch without_selection channels h
sixteen_role bank_msb ch channels h = h
sixteen_role bank_lsb ch channels h = h
sixteen_role data_msb ch channels h = h
sixteen_role data_lsb ch channels h = h
sixteen_role data_increment ch channels h = h
sixteen_role data_decrement ch channels h = h
sixteen_role (number_msb k) ch channels h = h
sixteen_role (number_lsb k) ch channels h = h
sixteen_role channel_mode ch channels h = h
sixteen_role coarse ch channels h = h
sixteen_role fine ch channels h = h
sixteen_role plain ch channels h = h

after-pairing : (q : Bool) (r : Role) (ch : ℕ) (channels : List Registers)
    → channels_after_control2 (pairing q r) ch channels ≡ channels_after_control2 r ch channels
after-pairing true coarse ch channels = refl
after-pairing false coarse ch channels = refl
after-pairing true fine ch channels = refl
after-pairing false fine ch channels = refl
after-pairing q _ ch channels = refl

sixteen_program : (ch : ℕ) (o : Option Bank) (channels : List Registers) → length channels ≡ 16
    → length (channels_after_program ch o channels) ≡ 16
sixteen_program ch None channels h = h
sixteen_program ch (Some b) channels h = sixteen_at ch (with_bank b) channels h

sixteen_voice2 : (v : Voice2) (channels : List Registers) → length channels ≡ 16 → length (channels_after2 v channels) ≡ 16
sixteen_voice2 (voice2.Control ch i v) channels h = sixteen_role (role_of i) ch channels h
sixteen_voice2 (voice2.Set ch p v) channels h =
    cond_both (is_null p) channels (at_registers_of ch (with_selected p) channels) (λ l. length l ≡ 16) (λ e. h)
    (λ e. sixteen_at ch (with_selected p) channels h)
sixteen_voice2 (voice2.Program ch p o) channels h = sixteen_program ch o channels h
sixteen_voice2 (voice2.NoteOff ch n v t a) channels h = h
sixteen_voice2 (voice2.NoteOn ch n v t a) channels h = h
sixteen_voice2 (voice2.PolyPressure ch n v) channels h = h
sixteen_voice2 (voice2.Pressure ch v) channels h = h
sixteen_voice2 (voice2.Bend ch v) channels h = h
sixteen_voice2 (voice2.Shift ch p v) channels h = h
sixteen_voice2 (voice2.NoteController ch k n i v) channels h = h
sixteen_voice2 (voice2.NoteBend ch n v) channels h = h
sixteen_voice2 (voice2.NoteManagement ch n f) channels h = h

sixteen_after : (p : Packet) (channels : List Registers) → length channels ≡ 16 → length (channels_after p channels) ≡ 16
sixteen_after (packet.Voice1 gr v) channels h = sixteen_voice1 v channels h
sixteen_after (packet.Voice2 gr v) channels h = sixteen_voice2 v channels h
sixteen_after _ channels h = h

running_set : (t u : Bool) (ch w : ℕ) (p : Param) (in_force : Option ℕ)
    → running_over (cond t [] (cond u (drop 2 (set_messages ch p w)) (set_messages ch p w))) in_force
    ≡ running_over (cond t [] (set_messages ch p w)) in_force
running_set true u ch w p in_force = refl
running_set false true ch w p in_force = refl
running_set false false ch w p in_force = refl

running_program : (r : Registers) (ch p : ℕ) (o : Option Bank) (in_force : Option ℕ)
    → running_over (needed_program r ch p o) in_force ≡ running_over (program_messages ch p o) in_force
running_program r ch p None in_force = refl
running_program r ch p (Some b) in_force =
    cond_both (has_bank r b) (drop 2 (program_messages ch p (Some b))) (program_messages ch p (Some b))
    (λ ms. running_over ms in_force ≡ running_over (program_messages ch p (Some b)) in_force) (λ e. refl) (λ e. refl)

same_registers : (r : Registers) → AreSameIn r r
same_registers r = record { bank = same_pair; registered = same_pair; assignable = same_pair; touched = λ x e. e }
  where
    same_pair : {p : Pair} → PairIsSameIn p p
    same_pair = record { msb = λ x e. e; lsb = λ x e. e }

module _ (paired : Bool) where
  pub new_lane-is : IsLaneOf paired new_lane []
  new_lane-is = record { running = refl; registers = unset_at 16; sixteen = length-replicate {A = Registers} 16 unset_registers }

  reset_lane-is : (all : List ℕ) → IsLaneOf paired new_lane (0xff ∷ all)
  reset_lane-is all = record { running = refl; registers = unset_at 16; sixteen = length-replicate {A = Registers} 16 unset_registers }

  -- ---- the registers after the messages of a packet

  after_voice1 : (v : Voice1) (channels : List Registers) (g : GroupState) → length channels ≡ 16 → IsVoice1 v → HaveRegisters channels g
      → HaveRegisters (channels_after1 v channels) (at_channel (channel_of v) (voice_at (of_bytes paired) v) g)
  after_voice1 (voice1.Control ch i v) channels g sixteen b h =
      changed channels g ch (registers_after (role_of i) v) (voice_at (of_bytes paired) (voice1.Control ch i v))
      (omega (arith, sixteen, b.0)) (control-registers paired (pairing paired (role_of i)) i v (g.channels ch)
      ∙ registers-pairing paired (role_of i) v (g.channels ch).registers)
      h
  after_voice1 (voice1.NoteOff ch n v) channels g sixteen b h =
      unchanged channels g ch (voice_at (of_bytes paired) (voice1.NoteOff ch n v)) refl h
  after_voice1 (voice1.NoteOn ch n v) channels g sixteen b h =
      unchanged channels g ch (voice_at (of_bytes paired) (voice1.NoteOn ch n v)) refl h
  after_voice1 (voice1.PolyPressure ch n v) channels g sixteen b h =
      unchanged channels g ch (voice_at (of_bytes paired) (voice1.PolyPressure ch n v)) refl h
  after_voice1 (voice1.Program ch p) channels g sixteen b h =
      unchanged channels g ch (voice_at (of_bytes paired) (voice1.Program ch p)) refl h
  after_voice1 (voice1.Pressure ch v) channels g sixteen b h =
      unchanged channels g ch (voice_at (of_bytes paired) (voice1.Pressure ch v)) refl h
  after_voice1 (voice1.Bend ch v) channels g sixteen b h = unchanged channels g ch (voice_at (of_bytes paired) (voice1.Bend ch v)) refl h

  -- one that leaves the registers
  leaves : (r : Role) (ch i v : ℕ) (channels : List Registers) (g : GroupState) → pairing paired (role_of i) ≡ r
      → registers_after r v (g.channels ch).registers ≡ (g.channels ch).registers → HaveRegisters channels g
      → HaveRegisters channels (step1 paired g (voice (voice1.Control ch i v)))
  leaves r ch i v channels g e k h =
      unchanged channels g ch (voice_at (of_bytes paired) (voice1.Control ch i v))
      (control-registers paired (pairing paired (role_of i)) i v (g.channels ch)
      ∙ ap (λ r. registers_after r v (g.channels ch).registers) e
      ∙ k)
      h

  after_role : (r : Role) (ch i v : ℕ) (channels : List Registers) (g : GroupState) → pairing paired (role_of i) ≡ r → length channels ≡ 16
      → ch < 16 → HaveRegisters channels g
      → HaveRegisters (channels_after_control2 r ch channels) (fold (step1 paired) g (control_messages r ch i v))
  after_role reset_all ch i v channels g e sixteen b h =
      changed channels g ch without_selection (voice_at (of_bytes paired) (voice1.Control ch i (down7 v))) (omega (arith, sixteen, b))
      (control-registers paired (pairing paired (role_of i)) i (down7 v) (g.channels ch)
      ∙ ap (λ r. registers_after r (down7 v) (g.channels ch).registers) e)
      h
  after_role channel_mode ch i v channels g e sixteen b h = leaves channel_mode ch i (down7 v) channels g e refl h
  after_role plain ch i v channels g e sixteen b h = leaves plain ch i (down7 v) channels g e refl h
  after_role coarse ch i v channels g e sixteen b h =
      let w = down14 v in
      leaves fine ch (i + 32) (w % 128) channels (step1 paired g (voice (voice1.Control ch i (w / 128)))) (pair_fine paired i e) refl
      (leaves coarse ch i (w / 128) channels g e refl h)
  after_role bank_msb ch i v channels g e sixteen b h = h
  after_role bank_lsb ch i v channels g e sixteen b h = h
  after_role data_msb ch i v channels g e sixteen b h = h
  after_role data_lsb ch i v channels g e sixteen b h = h
  after_role data_increment ch i v channels g e sixteen b h = h
  after_role data_decrement ch i v channels g e sixteen b h = h
  after_role (number_msb k) ch i v channels g e sixteen b h = h
  after_role (number_lsb k) ch i v channels g e sixteen b h = h
  after_role fine ch i v channels g e sixteen b h = h

  -- the four control changes that set a parameter, on a channel
  set_steps : ParamKind → ℕ → ℕ → ℕ → Channel → Channel
  set_steps k m l w c =
      voice_at (of_bytes paired) (voice1.Control 0 38 (w % 128))
      (voice_at (of_bytes paired) (voice1.Control 0 6 (w / 128))
      (voice_at (of_bytes paired) (voice1.Control 0 (number_lsb_index k) l)
      (voice_at (of_bytes paired) (voice1.Control 0 (number_msb_index k) m) c)))

  set_steps-registers : (k : ParamKind) (m l w : ℕ) (c : Channel)
      → (set_steps k m l w c).registers ≡ with_selected (record { kind = k; bank = m; index = l }) c.registers
  unfolding set_steps role_of
  set_steps-registers Registered m l w c =
      let c2 : Channel = voice_at (of_bytes paired) (voice1.Control 0 100 l) (voice_at (of_bytes paired) (voice1.Control 0 101 m) c) in
      let c3 : Channel = voice_at (of_bytes paired) (voice1.Control 0 6 (w / 128)) c2 in
      control-registers paired data_lsb 38 (w % 128) c3 ∙ control-registers paired data_msb 6 (w / 128) c2
  set_steps-registers Assignable m l w c =
      let c2 : Channel = voice_at (of_bytes paired) (voice1.Control 0 98 l) (voice_at (of_bytes paired) (voice1.Control 0 99 m) c) in
      let c3 : Channel = voice_at (of_bytes paired) (voice1.Control 0 6 (w / 128)) c2 in
      control-registers paired data_lsb 38 (w % 128) c3 ∙ control-registers paired data_msb 6 (w / 128) c2

  folded_set : (ch w : ℕ) (p : Param) (g : GroupState)
      → fold (step1 paired) g (set_messages ch p w) ≡ at_channel ch (set_steps p.kind p.bank p.index w) g
  unfolding set_steps
  folded_set ch w p g = simp at_channel-at_channel

  after_set : (t : Bool) (ch w : ℕ) (p : Param) (channels : List Registers) (g : GroupState) → length channels ≡ 16 → ch < 16
      → HaveRegisters channels g
      → HaveRegisters (cond t channels (at_registers_of ch (with_selected p) channels))
      (fold (step1 paired) g (cond t [] (set_messages ch p w)))
  after_set true ch w p channels g sixteen b h = h
  after_set false ch w p channels g sixteen b h =
      subst (HaveRegisters (at_registers_of ch (with_selected p) channels)) (sym (folded_set ch w p g))
      (changed channels g ch (with_selected p) (set_steps p.kind p.bank p.index w) (omega (arith, sixteen, b))
      (set_steps-registers p.kind p.bank p.index w (g.channels ch)) h)

  program_steps : ℕ → Bank → Channel → Channel
  program_steps p b c =
      voice_at (of_bytes paired) (voice1.Program 0 p)
      (voice_at (of_bytes paired) (voice1.Control 0 32 b.lsb) (voice_at (of_bytes paired) (voice1.Control 0 0 b.msb) c))

  program_steps-registers : (p : ℕ) (b : Bank) (c : Channel) → (program_steps p b c).registers ≡ with_bank b c.registers
  unfolding program_steps role_of
  program_steps-registers p b c = refl

  folded_program : (ch p : ℕ) (b : Bank) (g : GroupState)
      → fold (step1 paired) g (program_messages ch p (Some b)) ≡ at_channel ch (program_steps p b) g
  unfolding program_steps
  folded_program ch p b g = simp at_channel-at_channel

  after_program : (ch p : ℕ) (o : Option Bank) (channels : List Registers) (g : GroupState) → length channels ≡ 16 → ch < 16
      → HaveRegisters channels g → HaveRegisters (channels_after_program ch o channels) (fold (step1 paired) g (program_messages ch p o))
  after_program ch p None channels g sixteen b h = unchanged channels g ch (voice_at (of_bytes paired) (voice1.Program ch p)) refl h
  after_program ch p (Some k) channels g sixteen b h =
      subst (HaveRegisters (at_registers_of ch (with_bank k) channels)) (sym (folded_program ch p k g))
      (changed channels g ch (with_bank k) (program_steps p k) (omega (arith, sixteen, b)) (program_steps-registers p k (g.channels ch)) h)

  after_voice2 : (v : Voice2) (channels : List Registers) (g : GroupState) → length channels ≡ 16 → IsVoice2 v → HaveRegisters channels g
      → HaveRegisters (channels_after2 v channels) (fold (step1 paired) g (voice_messages paired v))
  after_voice2 (voice2.Control ch i v) channels g sixteen b h =
      subst (λ l. HaveRegisters l (fold (step1 paired) g (control_messages (pairing paired (role_of i)) ch i v)))
      (after-pairing paired (role_of i) ch channels) (after_role (pairing paired (role_of i)) ch i v channels g refl sixteen b.0 h)
  after_voice2 (voice2.Set ch p v) channels g sixteen b h = after_set (is_null p) ch (down14 v) p channels g sixteen b.0 h
  after_voice2 (voice2.Program ch p o) channels g sixteen b h = after_program ch p o channels g sixteen b.0 h
  after_voice2 (voice2.NoteOff ch n v t a) channels g sixteen b h =
      unchanged channels g ch (voice_at (of_bytes paired) (voice1.NoteOff ch n (release_down v))) refl h
  after_voice2 (voice2.NoteOn ch n v t a) channels g sixteen b h =
      unchanged channels g ch (voice_at (of_bytes paired) (voice1.NoteOn ch n (velocity_down v))) refl h
  after_voice2 (voice2.PolyPressure ch n v) channels g sixteen b h =
      unchanged channels g ch (voice_at (of_bytes paired) (voice1.PolyPressure ch n (down7 v))) refl h
  after_voice2 (voice2.Pressure ch v) channels g sixteen b h =
      unchanged channels g ch (voice_at (of_bytes paired) (voice1.Pressure ch (down7 v))) refl h
  after_voice2 (voice2.Bend ch v) channels g sixteen b h =
      unchanged channels g ch (voice_at (of_bytes paired) (voice1.Bend ch (down14 v))) refl h
  after_voice2 (voice2.Shift ch p v) channels g sixteen b h = h
  after_voice2 (voice2.NoteController ch k n i v) channels g sixteen b h = h
  after_voice2 (voice2.NoteBend ch n v) channels g sixteen b h = h
  after_voice2 (voice2.NoteManagement ch n f) channels g sixteen b h = h

  after_system : (m : System) (channels : List Registers) (g : GroupState) → HaveRegisters channels g
      → HaveRegisters channels (step1 paired g (system_message m))
  after_system (system.Quarter n) channels g h = h
  after_system (system.Position n) channels g h = h
  after_system (system.Song n) channels g h = h
  after_system system.Tune channels g h = h
  after_system system.Clock channels g h = h
  after_system system.Start channels g h = h
  after_system system.Continue channels g h = h
  after_system system.Stop channels g h = h
  after_system system.Sensing channels g h = h
  after_system system.Reset channels g h = h

  after_ended : (whole : Option (List ℕ)) (channels : List Registers) (g : GroupState) → HaveRegisters channels g
      → HaveRegisters channels (fold (step1 paired) g (ended_messages whole))
  after_ended None channels g h = h
  after_ended (Some bytes) channels g h = h

  after_messages : (whole : Option (List ℕ)) (p : Packet) (channels : List Registers) (g : GroupState) → length channels ≡ 16 → IsInRange p
      → HaveRegisters channels g → HaveRegisters (channels_after p channels) (fold (step1 paired) g (plain_messages paired whole p))
  after_messages whole (packet.System gr m) channels g sixteen b h = after_system m channels g h
  after_messages whole (packet.Voice1 gr v) channels g sixteen b h = after_voice1 v channels g sixteen b.1 h
  after_messages whole (packet.Exclusive gr f bytes) channels g sixteen b h = after_ended whole channels g h
  after_messages whole (packet.Voice2 gr v) channels g sixteen b h = after_voice2 v channels g sixteen b.1 h
  after_messages whole _ channels g sixteen b h = h

  -- ---- the running status doesn't depend on what is left out

  running_needed : (r : ℕ → Registers) (whole : Option (List ℕ)) (p : Packet) (in_force : Option ℕ)
      → running_over (needed_messages paired r whole p) in_force ≡ running_over (plain_messages paired whole p) in_force
  running_needed r whole (packet.Voice2 gr (voice2.Set ch p v)) in_force =
      running_set (is_null p) (is_selected (r ch) p) ch (down14 v) p in_force
  running_needed r whole (packet.Voice2 gr (voice2.Program ch p o)) in_force = running_program (r ch) ch p o in_force
  running_needed r whole _ in_force = refl

  -- ---- the piece, and what is kept after it

  -- the registers as a function
  registers-same : (lane : LaneState) (past : List ℕ) → IsLaneOf paired lane past
      → registers_at lane.channels ≡ registers_in paired (since_reset past)
  registers-same lane past h = fun_ext {f = registers_at lane.channels} {g = registers_in paired (since_reset past)} h.registers

  pub piece_by_lane : RunningStatusIsThatOfTheMessages → (lane : LaneState) (past : List ℕ) (whole : Option (List ℕ)) (p : Packet)
      → IsInRange p → IfSome whole AreData → IsLaneOf paired lane past → compact_by paired lane whole p ≡ compact_piece paired past whole p
  piece_by_lane status lane past whole p b bytes_are h =
      let before = since_reset past in
      let ms = needed_messages paired (registers_in paired before) whole p in
      ap (λ r. written_under lane.running (needed_messages paired r whole p)) (registers-same lane past h)
      ∙ ap (λ in_force. written_under in_force ms) h.running
      ∙ sym (status.written ms before
      (all_needed paired IsMessage (registers_in paired before) whole p (plain_is_message paired whole p bytes_are b)))

  kept_other : (lane : LaneState) (whole : Option (List ℕ)) (p : Packet) → AllByRecursion NotReset (plain_messages paired whole p)
      → lane_state_after paired lane whole p ≡ kept_after paired lane whole p
  kept_other lane whole (packet.System gr system.Reset) n = absurd n.0
  kept_other lane whole (packet.System gr (system.Quarter v)) n = refl
  kept_other lane whole (packet.System gr (system.Position v)) n = refl
  kept_other lane whole (packet.System gr (system.Song v)) n = refl
  kept_other lane whole (packet.System gr system.Tune) n = refl
  kept_other lane whole (packet.System gr system.Clock) n = refl
  kept_other lane whole (packet.System gr system.Start) n = refl
  kept_other lane whole (packet.System gr system.Continue) n = refl
  kept_other lane whole (packet.System gr system.Stop) n = refl
  kept_other lane whole (packet.System gr system.Sensing) n = refl
  kept_other lane whole _ n = refl

  other_lane : RunningStatusIsThatOfTheMessages → StatusesThatRunCanBeLeftOut
      → (lane : LaneState) (past : List ℕ) (whole : Option (List ℕ)) (p : Packet) → IsInRange p → IfSome whole AreData
      → IsRelied paired past → IsLaneOf paired lane past → AllByRecursion NotReset (plain_messages paired whole p)
      → IsLaneOf paired (kept_after paired lane whole p) (reverse (compact_piece paired past whole p) ++ past)
  other_lane status rules lane past whole p b bytes_are k h n =
      let before = since_reset past in
      let r = registers_in paired before in
      let ms = needed_messages paired r whole p in
      let piece = compact_piece paired past whole p in
      let plain_all : AllByRecursion IsMessage (plain_messages paired whole p) = plain_is_message paired whole p bytes_are b in
      let grown : since_reset (reverse piece ++ past) ≡ reverse piece ++ before = after_piece paired past whole p plain_all n in
      let means : meaning1 paired (reverse piece ++ before) ≡ fold (step1 paired) (meaning1 paired before) (plain_messages paired whole p) =
      meaning1-piece paired before piece ms (last_read paired rules past whole p plain_all k)
      ∙ needed-means paired r whole p (meaning1 paired before) (λ ch. same_registers (r ch)) in
      record {
        running = ap (running_over (plain_messages paired whole p)) h.running ∙ sym (running_needed r whole p (running before))
            ∙ sym (status.after ms before (all_needed paired IsMessage r whole p plain_all)) ∙ ap running (sym grown);
        registers = λ j. after_messages whole p lane.channels (meaning1 paired before) h.sixteen b h.registers j
            ∙ ap (λ (g : GroupState). (g.channels j).registers) (sym means) ∙ ap (λ l. registers_in paired l j) (sym grown);
        sixteen = sixteen_after p lane.channels h.sixteen;
      }

  pub lane_after_packet : RunningStatusIsThatOfTheMessages → StatusesThatRunCanBeLeftOut
      → (lane : LaneState) (past : List ℕ) (whole : Option (List ℕ)) (p : Packet) → IsInRange p → IfSome whole AreData
      → IsRelied paired past → IsLaneOf paired lane past
      → IsLaneOf paired (lane_state_after paired lane whole p) (reverse (compact_piece paired past whole p) ++ past)
  lane_after_packet status rules lane past whole p b bytes_are k h = either (reset_or_other paired whole p)
    where
      either : IsReset p ⊎ AllByRecursion NotReset (plain_messages paired whole p)
          → IsLaneOf paired (lane_state_after paired lane whole p) (reverse (compact_piece paired past whole p) ++ past)
      either (inl e) =
          subst (λ q. IsLaneOf paired (lane_state_after paired lane whole q) (reverse (compact_piece paired past whole q) ++ past))
          (sym e.1) (subst (IsLaneOf paired new_lane) (sym (reset_piece paired rules past whole e.0)) (reset_lane-is past))
      either (inr n) =
          subst (λ s. IsLaneOf paired s (reverse (compact_piece paired past whole p) ++ past)) (sym (kept_other lane whole p n))
          (other_lane status rules lane past whole p b bytes_are k h n)

  -- ---- a recording

  recording_more : RunningStatusIsThatOfTheMessages → StatusesThatRunCanBeLeftOut → (past : List Packet) (p : Packet) (g : ℕ)
      → AllByRecursion IsInRange past → IsInRange p → IsRelied paired (styled_lane paired compact_style past g)
      → IsLaneOf paired (lane_state_over paired past g) (styled_lane paired compact_style past g) → (t : Bool)
      → IsLaneOf paired
      (cond t (lane_state_after paired (lane_state_over paired past g) (whole_of past p) p) (lane_state_over paired past g))
      (cond t (reverse (compact_piece paired (styled_lane paired compact_style past g) (whole_of past p) p)
      ++ styled_lane paired compact_style past g)
      (styled_lane paired compact_style past g))
  recording_more status rules past p g a b k h true =
      lane_after_packet status rules (lane_state_over paired past g) (styled_lane paired compact_style past g) (whole_of past p) p b
      (whole_data past p a b) k h
  recording_more status rules past p g a b k h false = h

  pub lane_of_recording : RunningStatusIsThatOfTheMessages → StatusesThatRunCanBeLeftOut → WrittenMessagesAreReadAgain
      → (past : List Packet) (g : ℕ) → AllByRecursion IsInRange past
      → IsLaneOf paired (lane_state_over paired past g) (styled_lane paired compact_style past g)
  lane_of_recording status rules reads [] g a = new_lane-is
  lane_of_recording status rules reads (p ∷ past) g a =
      subst (IsLaneOf paired (lane_state_over paired (p ∷ past) g)) (sym (styled_lane-more paired compact_style g past p))
      (recording_more status rules past p g a.1 a.0 (recording_keeps paired rules reads compact_style g past a.1).relied
      (lane_of_recording status rules reads past g a.1) (is_group (group_of p) g))

  pub piece_of_recording : RunningStatusIsThatOfTheMessages → StatusesThatRunCanBeLeftOut → WrittenMessagesAreReadAgain
      → (past : List Packet) (p : Packet) (g : ℕ) → AllByRecursion IsInRange past → IsInRange p
      → compact_by paired (lane_state_over paired past g) (whole_of past p) p
      ≡ compact_piece paired (styled_lane paired compact_style past g) (whole_of past p) p
  piece_of_recording status rules reads past p g a b =
      piece_by_lane status (lane_state_over paired past g) (styled_lane paired compact_style past g) (whole_of past p) p b
      (whole_data past p a b) (lane_of_recording status rules reads past g a)
