-- Registers that are the same wherever the others are set, and selecting again what is selected.
use Rattle.std.proofs.Common.{ℕ, ◌≡◌, ◌∙◌, ap, sym, refl, subst, List, [], ◌∷◌, Option, Some, None, Bool, true, false, cond}
use Rattle.std.proofs.lemmas.Bool.{cond_both, eqb-true, and_parts}
use Rattle.std.proofs.lemmas.Option.{same_Some}
use Rattle.std.specs.Prelude.{◌&&◌}
use Rattle.std.specs.List.{fold}
use mathlib.Core.Path.{fun_ext}
use lib.Dec.{eqb}
use Rattle.voice_messages.specs.declared.voice1.Voice1.{Voice1}
use Rattle.voice_messages.specs.declared.voice1.Voice1.TheVariants as voice1
use Rattle.voice_messages.specs.declared.voice2.ParamKind.{ParamKind}
use Rattle.voice_messages.specs.declared.voice2.ParamKind.TheVariants.{Registered, Assignable}
use Rattle.voice_messages.specs.declared.voice2.Param.{Param}
use Rattle.voice_messages.specs.declared.voice2.Bank.{Bank}
use Rattle.midi1_bytes.specs.Messages.{Message, voice, common, exclusive, real_time}
use Rattle.midi_meaning.specs.Registers.{Registers, number_of, selected, selected_of, selected_by, with_number_msb, with_number_lsb}
use Rattle.midi_meaning.specs.Controllers.{Role, bank_msb, bank_lsb, data_msb, data_lsb, data_increment, data_decrement}
use Rattle.midi_meaning.specs.Controllers.{number_msb, number_lsb, reset_all, channel_mode, coarse, fine, plain, role_of, pairing}
use Rattle.midi_meaning.specs.Roles.{registers_after}
use Rattle.midi_meaning.specs.State.{Channel, GroupState, at_channel}
use Rattle.midi_meaning.specs.Messages.{of_bytes, as_they_come, enter_msb, enter_lsb, control, voice_at, channel_of, step1}
use Rattle.midi_meaning.specs.Compact.{is_half, has_bank}
use Rattle.midi_meaning.specs.Relied.{AreSameIn}

-- ---- a control change and the registers alone

entered_msb-registers : (o : Option Param) (v : ℕ) (c : Channel) → (enter_msb as_they_come o v c).registers ≡ c.registers
entered_msb-registers None v c = refl
entered_msb-registers (Some p) v c = refl

entered_lsb-registers : (o : Option Param) (v : ℕ) (c : Channel) → (enter_lsb as_they_come o v c).registers ≡ c.registers
entered_lsb-registers None v c = refl
entered_lsb-registers (Some p) v c = refl

same-control : (r : Role) (v : ℕ) (a b : Registers) → AreSameIn a b → AreSameIn (registers_after r v a) (registers_after r v b)
same-control bank_msb v a b h =
    record { bank = record { msb = λ x e. e; lsb = h.bank.lsb }; registered = h.registered; assignable = h.assignable; touched = h.touched }
same-control bank_lsb v a b h =
    record { bank = record { msb = h.bank.msb; lsb = λ x e. e }; registered = h.registered; assignable = h.assignable; touched = h.touched }
same-control (number_msb Registered) v a b h =
    record { bank = h.bank; registered = record { msb = λ x e. e; lsb = h.registered.lsb }; assignable = h.assignable; touched = λ x e. e }
same-control (number_msb Assignable) v a b h =
    record { bank = h.bank; registered = h.registered; assignable = record { msb = λ x e. e; lsb = h.assignable.lsb }; touched = λ x e. e }
same-control (number_lsb Registered) v a b h =
    record { bank = h.bank; registered = record { msb = h.registered.msb; lsb = λ x e. e }; assignable = h.assignable; touched = λ x e. e }
same-control (number_lsb Assignable) v a b h =
    record { bank = h.bank; registered = h.registered; assignable = record { msb = h.assignable.msb; lsb = λ x e. e }; touched = λ x e. e }
same-control reset_all v a b h = record {
  bank = h.bank;
  registered = record { msb = λ x e. e; lsb = λ x e. e };
  assignable = record { msb = λ x e. e; lsb = λ x e. e };
  touched = h.touched;
}
same-control data_msb v a b h = h
same-control data_lsb v a b h = h
same-control data_increment v a b h = h
same-control data_decrement v a b h = h
same-control channel_mode v a b h = h
same-control coarse v a b h = h
same-control fine v a b h = h
same-control plain v a b h = h

abbrev ChannelIsSameIn : Channel → Channel → Type 0
ChannelIsSameIn c1 c2 = AreSameIn c1.registers c2.registers

-- of all channels
abbrev pub GroupIsSameIn : GroupState → GroupState → Type 0
GroupIsSameIn g1 g2 = (j : ℕ) → ChannelIsSameIn (g1.channels j) (g2.channels j)

selected_by-parts : (k : ParamKind) (a b : Option ℕ) (p : Param) → selected_by k a b ≡ Some p
    → (a ≡ Some p.bank) × (b ≡ Some p.index) × (k ≡ p.kind)
selected_by-parts k None b p h = cc
selected_by-parts k (Some m) None p h = cc
selected_by-parts k (Some m) (Some l) p h = go (eqb m 127 && eqb l 127) h
  where
    go : (t : Bool) → cond t None (Some (record { kind = k; bank = m; index = l })) ≡ Some p
        → (Some m ≡ Some p.bank) × (Some l ≡ Some p.index) × (k ≡ p.kind)
    go true e = cc
    go false e =
        let q = same_Some _ _ e in
        (ap (λ (p : Param). Some p.bank) q, ap (λ (p : Param). Some p.index) q, ap (λ (p : Param). p.kind) q)

-- the parameter is selected
pub record Selects (r : Registers) (p : Param) : Type 0 where
  pub touched : r.touched ≡ Some p.kind
  pub msb : (number_of p.kind r).msb ≡ Some p.bank
  pub lsb : (number_of p.kind r).lsb ≡ Some p.index

pub selects : (r : Registers) (p : Param) → selected r ≡ Some p → Selects r p
selects r p h = go r.touched refl h
  where
    go : (t : Option ParamKind) → r.touched ≡ t → selected_of t r ≡ Some p → Selects r p
    go None e k = cc
    go (Some t) e k =
        let q = selected_by-parts t (number_of t r).msb (number_of t r).lsb p k in
        record {
          touched = e ∙ ap Some q.2;
          msb = ap (λ t. (number_of t r).msb) (sym q.2) ∙ q.0;
          lsb = ap (λ t. (number_of t r).lsb) (sym q.2) ∙ q.1;
        }

pub selects-same : (a b : Registers) (p : Param) → AreSameIn a b → Selects a p → Selects b p
selects-same a b p h s = record { touched = h.touched p.kind s.touched; msb = msb_in p.kind s.msb; lsb = lsb_in p.kind s.lsb }
  where
    msb_in : (k : ParamKind) → (number_of k a).msb ≡ Some p.bank → (number_of k b).msb ≡ Some p.bank
    msb_in Registered e = h.registered.msb p.bank e
    msb_in Assignable e = h.assignable.msb p.bank e

    lsb_in : (k : ParamKind) → (number_of k a).lsb ≡ Some p.index → (number_of k b).lsb ≡ Some p.index
    lsb_in Registered e = h.registered.lsb p.index e
    lsb_in Assignable e = h.assignable.lsb p.index e

-- selecting it again changes nothing
pub selecting_again : (r : Registers) (k : ParamKind) (m l : ℕ) → Selects r (record { kind = k; bank = m; index = l })
    → with_number_lsb k l (with_number_msb k m r) ≡ r
selecting_again r Registered m l s =
    λ i. record r { registered = record { msb = sym s.msb i; lsb = sym s.lsb i }; touched = sym s.touched i }
selecting_again r Assignable m l s =
    λ i. record r { assignable = record { msb = sym s.msb i; lsb = sym s.lsb i }; touched = sym s.touched i }

pub record HasBank (r : Registers) (b : Bank) : Type 0 where
  pub msb : r.bank.msb ≡ Some b.msb
  pub lsb : r.bank.lsb ≡ Some b.lsb

is_half-true : (o : Option ℕ) (n : ℕ) → is_half o n ≡ true → o ≡ Some n
is_half-true None n h = cc
is_half-true (Some m) n h = ap Some (eqb-true m n h)

pub bank_is_had : (r : Registers) (b : Bank) → has_bank r b ≡ true → HasBank r b
bank_is_had r b h =
    let q = and_parts (is_half r.bank.msb b.msb) (is_half r.bank.lsb b.lsb) h in
    record { msb = is_half-true _ _ q.0; lsb = is_half-true _ _ q.1 }

pub has_bank-same : (a b : Registers) (k : Bank) → AreSameIn a b → HasBank a k → HasBank b k
has_bank-same a b k h s = record { msb = h.bank.msb k.msb s.msb; lsb = h.bank.lsb k.lsb s.lsb }

pub bank_again : (r : Registers) (b : Bank) → HasBank r b → record r { bank = record { msb = Some b.msb; lsb = Some b.lsb } } ≡ r
bank_again r b s = λ i. record r { bank = record { msb = sym s.msb i; lsb = sym s.lsb i } }

-- a change that changes nothing of its channel
pub at_channel_same : (ch : ℕ) (f : Channel → Channel) (g : GroupState) → f (g.channels ch) ≡ g.channels ch → at_channel ch f g ≡ g
at_channel_same ch f g h =
    λ i.
    record g {
      channels =
          fun_ext {f = λ j. cond (eqb j ch) (f (g.channels j)) (g.channels j)} {g = g.channels}
          (λ j. cond_both (eqb j ch) (f (g.channels j)) (g.channels j) (λ c. c ≡ g.channels j)
          (λ e. let same = eqb-true j ch e in subst (λ k. f (g.channels k) ≡ g.channels k) (sym same) h) (λ e. refl))
          i;
    }

module _ (paired : Bool) where
  pub control-registers : (r : Role) (i v : ℕ) (c : Channel)
      → (control (of_bytes paired) r i v c).registers ≡ registers_after r v c.registers
  control-registers data_msb i v c = entered_msb-registers (selected c.registers) v c
  control-registers data_lsb i v c = entered_lsb-registers (selected c.registers) v c
  control-registers bank_msb i v c = refl
  control-registers bank_lsb i v c = refl
  control-registers (number_msb k) i v c = refl
  control-registers (number_lsb k) i v c = refl
  control-registers data_increment i v c = refl
  control-registers data_decrement i v c = refl
  control-registers reset_all i v c = refl
  control-registers channel_mode i v c = refl
  control-registers coarse i v c = refl
  control-registers fine i v c = refl
  control-registers plain i v c = refl

  -- ---- messages

  same-voice : (m : Voice1) (c1 c2 : Channel) → ChannelIsSameIn c1 c2
      → ChannelIsSameIn (voice_at (of_bytes paired) m c1) (voice_at (of_bytes paired) m c2)
  same-voice (voice1.Control ch i v) c1 c2 h =
      simp (control-registers) (same-control (pairing paired (role_of i)) v c1.registers c2.registers h)
  same-voice (voice1.NoteOff ch n v) c1 c2 h = h
  same-voice (voice1.NoteOn ch n v) c1 c2 h = h
  same-voice (voice1.PolyPressure ch n v) c1 c2 h = h
  same-voice (voice1.Program ch p) c1 c2 h = h
  same-voice (voice1.Pressure ch v) c1 c2 h = h
  same-voice (voice1.Bend ch v) c1 c2 h = h

  same-step : (m : Message) (g1 g2 : GroupState) → GroupIsSameIn g1 g2 → GroupIsSameIn (step1 paired g1 m) (step1 paired g2 m)
  same-step (voice v) g1 g2 h j = either (eqb j (channel_of v)) _ _ _ _ (same-voice v _ _ (h j)) (h j)
    where
      either : (b : Bool) (x1 y1 x2 y2 : Channel) → ChannelIsSameIn x1 x2 → ChannelIsSameIn y1 y2
          → ChannelIsSameIn (cond b x1 y1) (cond b x2 y2)
      either true x1 y1 x2 y2 p q = p
      either false x1 y1 x2 y2 p q = q
  same-step (common m) g1 g2 h j = h j
  same-step (exclusive bytes) g1 g2 h j = h j
  same-step (real_time m) g1 g2 h j = h j

  pub same-fold : (ms : List Message) (g1 g2 : GroupState) → GroupIsSameIn g1 g2
      → GroupIsSameIn (fold (step1 paired) g1 ms) (fold (step1 paired) g2 ms)
  same-fold [] g1 g2 h = h
  same-fold (m ∷ ms) g1 g2 h = same-fold ms (step1 paired g1 m) (step1 paired g2 m) (same-step m g1 g2 h)
