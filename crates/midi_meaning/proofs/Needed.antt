-- The messages that the compact style leaves out change nothing.
use Rattle.std.proofs.Common.{ℕ, ◌≡◌, ◌∙◌, ap, sym, refl, List, [], ◌∷◌, Option, Some, None, Bool, true, false, cond}
use Rattle.std.proofs.lemmas.Bool.{cond_both}
use Rattle.std.specs.Prelude.{drop, not}
use Rattle.std.specs.List.{fold, AllByRecursion}
use Rattle.voice_messages.specs.declared.voice1.Voice1.TheVariants as voice1
use Rattle.voice_messages.specs.declared.voice2.ParamKind.{ParamKind}
use Rattle.voice_messages.specs.declared.voice2.ParamKind.TheVariants.{Registered, Assignable}
use Rattle.voice_messages.specs.declared.voice2.Param.{Param}
use Rattle.voice_messages.specs.declared.voice2.Bank.{Bank}
use Rattle.voice_messages.specs.declared.voice2.Voice2.{Voice2}
use Rattle.voice_messages.specs.declared.voice2.Voice2.TheVariants as voice2
use Rattle.ump_grammar.specs.declared.packet.Packet.{Packet}
use Rattle.ump_grammar.specs.declared.packet.Packet.TheVariants as packet
use Rattle.bit_scaling.specs.Scaling.{down14}
use Rattle.midi1_bytes.specs.Messages.{Message, voice}
use Rattle.midi_meaning.specs.Registers.{Registers, selected, is_null, with_number_msb, with_number_lsb}
use Rattle.midi_meaning.specs.Controllers.{Role, channel_mode, reset_all, coarse, plain}
use Rattle.midi_meaning.specs.Controllers.{role_of, pairing, number_msb_index, number_lsb_index}
use Rattle.midi_meaning.specs.State.{Channel, GroupState, with_registers}
use Rattle.midi_meaning.specs.Messages.{of_bytes, voice_at, step1}
use Rattle.midi_meaning.specs.Listing.{is_carried, is_carried_voice, is_carried_role}
use Rattle.midi_meaning.specs.Plain.{set_messages, control_messages, program_messages, plain_messages}
use Rattle.midi_meaning.specs.Compact.{is_param, is_selected, has_bank, needed_set, needed_program, needed_voice, needed_messages}
use Rattle.midi_meaning.specs.Relied.{AreSameIn}
use Rattle.midi_meaning.proofs.Recording.{uncarried_control}
use Rattle.midi_meaning.proofs.SameParam.{same_param-true}
use Rattle.midi_meaning.proofs.Packets.{at_channel-at_channel}
use Rattle.midi_meaning.proofs.SameRegisters.{Selects, selects, selects-same, selecting_again, HasBank}
use Rattle.midi_meaning.proofs.SameRegisters.{bank_is_had, has_bank-same, bank_again, at_channel_same}

is_param-true : (o : Option Param) (p : Param) → is_param o p ≡ true → o ≡ Some p
is_param-true None p h = cc
is_param-true (Some q) p h = ap Some (same_param-true q p h)

all_drop_two : (P : Message → Type 0) (ms : List Message) → AllByRecursion P ms → AllByRecursion P (drop 2 ms)
all_drop_two P [] h = h
all_drop_two P (a ∷ []) h = h.1
all_drop_two P (a ∷ b ∷ ms) h = h.1.1

all_needed_set : (P : Message → Type 0) (t u : Bool) (ms : List Message) → AllByRecursion P (cond t [] ms)
    → AllByRecursion P (cond t [] (cond u (drop 2 ms) ms))
all_needed_set P true u ms h = tt
all_needed_set P false true ms h = all_drop_two P ms h
all_needed_set P false false ms h = h

all_needed_program : (P : Message → Type 0) (r : Registers) (ch p : ℕ) (o : Option Bank) → AllByRecursion P (program_messages ch p o)
    → AllByRecursion P (needed_program r ch p o)
all_needed_program P r ch p None h = h
all_needed_program P r ch p (Some b) h =
    cond_both (has_bank r b) _ _ (AllByRecursion P) (λ e. all_drop_two P (program_messages ch p (Some b)) h) (λ e. h)

abbrev pub IsSome : List Message → Type 0
IsSome [] = ⊥
IsSome (m ∷ ms) = Unit {0}

needed_set-some : (t u : Bool) (ch w : ℕ) (p : Param) → not t ≡ true
    → IsSome (cond t [] (cond u (drop 2 (set_messages ch p w)) (set_messages ch p w)))
needed_set-some true u ch w p e = cc
needed_set-some false true ch w p e = tt
needed_set-some false false ch w p e = tt

needed_program-some : (r : Registers) (ch p : ℕ) (o : Option Bank) → IsSome (needed_program r ch p o)
needed_program-some r ch p None = tt
needed_program-some r ch p (Some b) = cond_both (has_bank r b) _ _ IsSome (λ e. tt) (λ e. tt)

carried_control : (r : Role) (ch i v : ℕ) → is_carried_role r ≡ true → IsSome (control_messages r ch i v)
carried_control channel_mode ch i v e = tt
carried_control reset_all ch i v e = tt
carried_control coarse ch i v e = tt
carried_control plain ch i v e = tt
carried_control _ ch i v e = cc

uncarried_set : (t : Bool) (ms : List Message) → not t ≡ false → cond t [] ms ≡ []
uncarried_set true ms e = refl
uncarried_set false ms e = cc

-- ---- selecting again

module _ (paired : Bool) where
  select_steps : ParamKind → ℕ → ℕ → Channel → Channel
  select_steps k m l c =
      voice_at (of_bytes paired) (voice1.Control 0 (number_lsb_index k) l)
      (voice_at (of_bytes paired) (voice1.Control 0 (number_msb_index k) m) c)

  select_steps-is : (k : ParamKind) (m l : ℕ) (c : Channel)
      → select_steps k m l c ≡ with_registers (with_number_lsb k l (with_number_msb k m c.registers)) c
  unfolding select_steps role_of
  select_steps-is Registered m l c = refl
  select_steps-is Assignable m l c = refl

  selected_again : (ch : ℕ) (p : Param) (g : GroupState) → Selects (g.channels ch).registers p
      → step1 paired (step1 paired g (voice (voice1.Control ch (number_msb_index p.kind) p.bank)))
      (voice (voice1.Control ch (number_lsb_index p.kind) p.index))
      ≡ g
  unfolding select_steps
  selected_again ch p g s =
      simp at_channel-at_channel (at_channel_same ch (select_steps p.kind p.bank p.index) g
      (select_steps-is p.kind p.bank p.index (g.channels ch)
      ∙ ap (λ r. with_registers r (g.channels ch)) (selecting_again (g.channels ch).registers p.kind p.bank p.index s)))

  bank_steps : ℕ → ℕ → Channel → Channel
  bank_steps m l c = voice_at (of_bytes paired) (voice1.Control 0 32 l) (voice_at (of_bytes paired) (voice1.Control 0 0 m) c)

  banked_again : (ch : ℕ) (b : Bank) (g : GroupState) → HasBank (g.channels ch).registers b
      → step1 paired (step1 paired g (voice (voice1.Control ch 0 b.msb))) (voice (voice1.Control ch 32 b.lsb)) ≡ g
  unfolding bank_steps role_of
  banked_again ch b g s =
      simp at_channel-at_channel (at_channel_same ch (bank_steps b.msb b.lsb) g
      (ap (λ r. with_registers r (g.channels ch)) (bank_again (g.channels ch).registers b s)))

  -- ---- what is needed by some last bytes means what all the messages mean to a receiver of all bytes

  needed_set-means : (t : Bool) (r : Registers) (ch w : ℕ) (p : Param) (g : GroupState) → AreSameIn r (g.channels ch).registers
      → fold (step1 paired) g (cond t [] (needed_set r ch p w)) ≡ fold (step1 paired) g (cond t [] (set_messages ch p w))
  needed_set-means true r ch w p g h = refl
  needed_set-means false r ch w p g h =
      cond_both (is_selected r p) (drop 2 (set_messages ch p w)) (set_messages ch p w)
      (λ ms. fold (step1 paired) g ms ≡ fold (step1 paired) g (set_messages ch p w))
      (λ e. ap (λ g. fold (step1 paired) g (drop 2 (set_messages ch p w)))
      (sym (selected_again ch p g (selects-same r (g.channels ch).registers p h (selects r p (is_param-true (selected r) p e))))))
      (λ e. refl)

  needed_program-means : (r : Registers) (ch p : ℕ) (o : Option Bank) (g : GroupState) → AreSameIn r (g.channels ch).registers
      → fold (step1 paired) g (needed_program r ch p o) ≡ fold (step1 paired) g (program_messages ch p o)
  needed_program-means r ch p None g h = refl
  needed_program-means r ch p (Some b) g h =
      cond_both (has_bank r b) (drop 2 (program_messages ch p (Some b))) (program_messages ch p (Some b))
      (λ ms. fold (step1 paired) g ms ≡ fold (step1 paired) g (program_messages ch p (Some b)))
      (λ e. ap (λ g. fold (step1 paired) g (drop 2 (program_messages ch p (Some b))))
      (sym (banked_again ch b g (has_bank-same r (g.channels ch).registers b h (bank_is_had r b e)))))
      (λ e. refl)

  pub needed-means : (r : ℕ → Registers) (whole : Option (List ℕ)) (p : Packet) (g : GroupState)
      → ((ch : ℕ) → AreSameIn (r ch) (g.channels ch).registers)
      → fold (step1 paired) g (needed_messages paired r whole p) ≡ fold (step1 paired) g (plain_messages paired whole p)
  needed-means r whole (packet.Voice2 gr (voice2.Set ch p v)) g h = needed_set-means (is_null p) (r ch) ch (down14 v) p g (h ch)
  needed-means r whole (packet.Voice2 gr (voice2.Program ch p o)) g h = needed_program-means (r ch) ch p o g (h ch)
  needed-means r whole _ g h = refl

  -- ---- what stays of a fact on all messages

  pub all_needed : (P : Message → Type 0) (r : ℕ → Registers) (whole : Option (List ℕ)) (p : Packet)
      → AllByRecursion P (plain_messages paired whole p) → AllByRecursion P (needed_messages paired r whole p)
  all_needed P r whole (packet.Voice2 gr (voice2.Set ch p v)) h =
      all_needed_set P (is_null p) (is_selected (r ch) p) (set_messages ch p (down14 v)) h
  all_needed P r whole (packet.Voice2 gr (voice2.Program ch p o)) h = all_needed_program P (r ch) ch p o h
  all_needed P r whole _ h = h

  -- ---- a packet that is carried has a message, and another one has none

  carried_voice : (r : ℕ → Registers) (m : Voice2) → is_carried_voice paired m ≡ true → IsSome (needed_voice paired r m)
  carried_voice r (voice2.NoteOff ch n v t a) e = tt
  carried_voice r (voice2.NoteOn ch n v t a) e = tt
  carried_voice r (voice2.PolyPressure ch n v) e = tt
  carried_voice r (voice2.Control ch i v) e = carried_control (pairing paired (role_of i)) ch i v e
  carried_voice r (voice2.Set ch p v) e = needed_set-some (is_null p) (is_selected (r ch) p) ch (down14 v) p e
  carried_voice r (voice2.Program ch p o) e = needed_program-some (r ch) ch p o
  carried_voice r (voice2.Pressure ch v) e = tt
  carried_voice r (voice2.Bend ch v) e = tt
  carried_voice r _ e = cc

  pub carried-needs : (r : ℕ → Registers) (whole : Option (List ℕ)) (p : Packet) → is_carried paired whole p ≡ true
      → IsSome (needed_messages paired r whole p)
  carried-needs r whole (packet.System g m) e = tt
  carried-needs r whole (packet.Voice1 g m) e = tt
  carried-needs r None (packet.Exclusive g f bytes) e = cc
  carried-needs r (Some js) (packet.Exclusive g f bytes) e = tt
  carried-needs r whole (packet.Voice2 g m) e = carried_voice r m e
  carried-needs r whole _ e = cc

  uncarried_voice : (r : ℕ → Registers) (m : Voice2) → is_carried_voice paired m ≡ false → needed_voice paired r m ≡ []
  uncarried_voice r (voice2.Control ch i v) e = uncarried_control (pairing paired (role_of i)) ch i v e
  uncarried_voice r (voice2.Set ch p v) e = uncarried_set (is_null p) _ e
  uncarried_voice r (voice2.Shift ch p v) e = refl
  uncarried_voice r (voice2.NoteController ch k n i v) e = refl
  uncarried_voice r (voice2.NoteBend ch n v) e = refl
  uncarried_voice r (voice2.NoteManagement ch n f) e = refl
  uncarried_voice r _ e = cc

  pub uncarried-needs : (r : ℕ → Registers) (whole : Option (List ℕ)) (p : Packet) → is_carried paired whole p ≡ false
      → needed_messages paired r whole p ≡ []
  uncarried-needs r whole (packet.System g m) e = cc
  uncarried-needs r whole (packet.Voice1 g m) e = cc
  uncarried-needs r None (packet.Exclusive g f bytes) e = refl
  uncarried-needs r (Some js) (packet.Exclusive g f bytes) e = cc
  uncarried-needs r whole (packet.Voice2 g m) e = uncarried_voice r m e
  uncarried-needs r whole _ e = refl
