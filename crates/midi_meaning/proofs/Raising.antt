-- The packets of a voice message do to the packets' side what the message does to the bytes' side.
use Rattle.std.proofs.Common.{ℕ, ◌+◌, ◌-◌, ◌*◌, ◌/◌, ◌≡◌, ◌<◌, ◌∙◌, ap, sym, refl, Option, Some, None, Bool, true, false, cond, arith}
use Rattle.std.proofs.lemmas.Bool.{cond_both, eqb-false}
use Rattle.std.proofs.lemmas.Option.{same_Some}
use Rattle.std.specs.Prelude.{◌&&◌}
use Rattle.std.specs.Option.{unwrap_or, option_and_then}
use Rattle.std.specs.List.{fold}
use lib.Dec.{eqb}
use Rattle.voice_messages.specs.declared.voice1.Voice1.{Voice1}
use Rattle.voice_messages.specs.declared.voice1.Voice1.TheVariants as voice1
use Rattle.voice_messages.specs.declared.voice2.Voice2.TheVariants as voice2
use Rattle.voice_messages.specs.declared.voice2.ParamKind.{ParamKind}
use Rattle.voice_messages.specs.declared.voice2.ParamKind.TheVariants.{Registered, Assignable}
use Rattle.voice_messages.specs.declared.voice2.Param.{Param}
use Rattle.voice_messages.specs.declared.voice2.Bank.{Bank}
use Rattle.voice_messages.specs.Ranges.{IsVoice1}
use Rattle.bit_scaling.specs.Scaling.{up, release_down}
use Rattle.bit_scaling.specs.ForProofs.Scaled.{down7_up, down14_up, release_down_up, velocity_down_up}
use Rattle.midi_meaning.specs.Registers.{Registers, bank_of, bank_by, number_of, selected, selected_by, selected_of, is_null}
use Rattle.midi_meaning.specs.Controllers.{Role, bank_msb, bank_lsb, data_msb, data_lsb, data_increment, data_decrement}
use Rattle.midi_meaning.specs.Controllers.{number_msb, number_lsb, reset_all, channel_mode, coarse, fine, plain, role_of, pairing}
use Rattle.midi_meaning.specs.State.{Channel, on, off, mode, with_act, with_param, same_param}
use Rattle.midi_meaning.specs.Messages.{of_bytes, as_they_come, enter_msb, enter_lsb, with_fine, control, voice_at}
use Rattle.midi_meaning.specs.Packets.{voice2_at, set_param, program2}
use Rattle.midi_meaning.specs.Raising.{raised_entry, raised_control, raised_voice}
use Rattle.midi_meaning.specs.Agreement.{value_down}
use Rattle.midi_meaning.proofs.Pairs.{pair_coarse, pair_value}
use Rattle.midi_meaning.proofs.Changes.{Follows, follows-act, follows-poly, follows-controller, follows-pressure}
use Rattle.midi_meaning.proofs.Changes.{follows-bend, follows-program, follows-registers, follows-param, follows-reset}

-- a half of the bank that is set
msb_is_set : (b : Option ℕ) (v : ℕ) → bank_by (Some v) b ≡ None → ⊥
msb_is_set None v e = cc
msb_is_set (Some w) v e = cc

lsb_is_set : (a : Option ℕ) (v : ℕ) → bank_by a (Some v) ≡ None → ⊥
lsb_is_set None v e = cc
lsb_is_set (Some w) v e = cc

-- the null parameter is never selected
selected_by-is : (k : ParamKind) (a b : Option ℕ) (p : Param) → selected_by k a b ≡ Some p → is_null p ≡ false
selected_by-is k None b p h = cc
selected_by-is k (Some m) None p h = cc
selected_by-is k (Some m) (Some l) p h = go (eqb m 127 && eqb l 127) refl h
  where
    go : (t : Bool) → (eqb m 127 && eqb l 127) ≡ t → cond t None (Some (record { kind = k; bank = m; index = l })) ≡ Some p
        → is_null p ≡ false
    go true q e = cc
    go false q e = ap is_null (sym (same_Some _ _ e)) ∙ q

pub selected-is : (r : Registers) (p : Param) → selected r ≡ Some p → is_null p ≡ false
selected-is r p h = go r.touched h
  where
    go : (t : Option ParamKind) → selected_of t r ≡ Some p → is_null p ≡ false
    go None e = cc
    go (Some k) e = selected_by-is k (number_of k r).msb (number_of k r).lsb p e

still_tight : (p : Param) (v : ℕ) (c : Channel) → ((q : Param) → c.loose q ≡ false) → (q : Param) → (with_param p v c).loose q ≡ false
still_tight p v c t q = cond_both (same_param q p) false (c.loose q) (λ l. l ≡ false) (λ e. refl) (λ e. t q)

module _ (paired : Bool) where
  -- The packets' side follows, no parameter of it is loose, and if the bytes have set no half of the bank,
  -- the packets haven't either.
  pub record Raises (c1 c2 : Channel) : Type 0 where
    pub follows : Follows paired c1 c2
    pub tight : (p : Param) → c2.loose p ≡ false
    pub banks : bank_of c1.registers ≡ None → bank_of c2.registers ≡ None

  -- ---- data entry

  -- a Set of the selected parameter
  raises_set : (ch w : ℕ) (p : Param) (d1 c1 c2 : Channel) → Raises c1 c2 → is_null p ≡ false
      → Follows paired d1 (with_param p (up w 14 32) c2) → d1.registers ≡ c1.registers
      → Raises d1 (voice2_at paired (voice2.Set ch p (up w 14 32)) c2)
  raises_set ch w p d1 c1 c2 h n f r =
      rw n (record {
        follows = follows-registers paired d1 (with_param p (up w 14 32) c2) d1.registers _ f;
        tight = still_tight p (up w 14 32) c2 h.tight;
        banks = set_banks p.kind;
      })
    where
      set_banks : (k : ParamKind) → bank_of d1.registers ≡ None
          → bank_of (set_param (record { kind = k; bank = p.bank; index = p.index }) (up w 14 32) c2).registers ≡ None
      set_banks Registered e = h.banks (ap bank_of (sym r) ∙ e)
      set_banks Assignable e = h.banks (ap bank_of (sym r) ∙ e)

  raises_msb : (o : Option Param) (ch v : ℕ) (c1 c2 : Channel) → selected c1.registers ≡ o → v < 128 → Raises c1 c2
      → Raises (enter_msb as_they_come o v c1) (fold (λ c m. voice2_at paired m c) c2 (raised_entry ch o (v * 128)))
  raises_msb None ch v c1 c2 e b h = h
  raises_msb (Some p) ch v c1 c2 e b h =
      raises_set ch (v * 128) p _ c1 c2 h (selected-is c1.registers p e)
      (follows-param paired c1 c2 p (v * 128) _ h.follows (omega arith) (sym (down14_up (v * 128) (omega arith)))) refl

  raises_lsb : (o : Option Param) (ch v : ℕ) (c1 c2 : Channel) → selected c1.registers ≡ o → v < 128 → Raises c1 c2
      → Raises (enter_lsb as_they_come o v c1)
      (fold (λ c m. voice2_at paired m c) c2 (raised_entry ch o (unwrap_or (option_and_then c1.params o) 0 / 128 * 128 + v)))
  raises_lsb None ch v c1 c2 e b h = h
  raises_lsb (Some p) ch v c1 c2 e b h =
      let small : unwrap_or (c1.params p) 0 < 16384 = h.follows.bounded p in
      let w : ℕ = unwrap_or (c1.params p) 0 / 128 * 128 + v in
      let fits : w < 16384 = omega arith in
      let f = follows-param paired c1 c2 p w (up w 14 32) h.follows fits (sym (down14_up w fits)) in
      raises_set ch w p _ c1 c2 h (selected-is c1.registers p e)
      (record {
        agrees = record {
          acts = f.agrees.acts;
          poly = f.agrees.poly;
          controllers = f.agrees.controllers;
          pressure = f.agrees.pressure;
          bend = f.agrees.bend;
          program = f.agrees.program;
          params = f.agrees.params;
        };
        bounded = f.bounded;
        controllers_bounded = f.controllers_bounded;
      })
      refl

  -- ---- control changes

  -- the LSB of a pair, at the index of its MSB
  raises_fine : (ch i v : ℕ) (c1 c2 : Channel) → pairing paired (role_of i) ≡ coarse → v < 128 → Raises c1 c2
      → Raises (with_fine (of_bytes paired) i v c1)
      (voice2_at paired (voice2.Control ch i (up (unwrap_or (c1.controllers i) 0 / 128 * 128 + v) 14 32)) c2)
  raises_fine ch i v c1 c2 e b h =
      let small : unwrap_or (c1.controllers i) 0 < 16384 = h.follows.controllers_bounded i in
      let w : ℕ = unwrap_or (c1.controllers i) 0 / 128 * 128 + v in
      let fits : w < 16384 = omega arith in
      simp e (record {
        follows = follows-controller paired c1 c2 i w (up w 14 32) h.follows fits (pair_value paired i w e fits);
        tight = h.tight;
        banks = h.banks;
      })

  raises-control : (r : Role) (ch i v : ℕ) (c1 c2 : Channel) → pairing paired (role_of i) ≡ r → v < 128 → Raises c1 c2
      → Raises (control (of_bytes paired) r i v c1) (fold (λ c m. voice2_at paired m c) c2 (raised_control c1 r ch i v))
  raises-control bank_msb ch i v c1 c2 e b h = record {
    follows = follows-registers paired c1 c2 _ c2.registers h.follows;
    tight = h.tight;
    banks = λ q. absurd (msb_is_set c1.registers.bank.lsb v q);
  }
  raises-control bank_lsb ch i v c1 c2 e b h = record {
    follows = follows-registers paired c1 c2 _ c2.registers h.follows;
    tight = h.tight;
    banks = λ q. absurd (lsb_is_set c1.registers.bank.msb v q);
  }
  raises-control (number_msb Registered) ch i v c1 c2 e b h =
      record { follows = follows-registers paired c1 c2 _ c2.registers h.follows; tight = h.tight; banks = h.banks }
  raises-control (number_msb Assignable) ch i v c1 c2 e b h =
      record { follows = follows-registers paired c1 c2 _ c2.registers h.follows; tight = h.tight; banks = h.banks }
  raises-control (number_lsb Registered) ch i v c1 c2 e b h =
      record { follows = follows-registers paired c1 c2 _ c2.registers h.follows; tight = h.tight; banks = h.banks }
  raises-control (number_lsb Assignable) ch i v c1 c2 e b h =
      record { follows = follows-registers paired c1 c2 _ c2.registers h.follows; tight = h.tight; banks = h.banks }
  raises-control data_increment ch i v c1 c2 e b h = h
  raises-control data_decrement ch i v c1 c2 e b h = h
  raises-control data_msb ch i v c1 c2 e b h = raises_msb (selected c1.registers) ch v c1 c2 refl b h
  raises-control data_lsb ch i v c1 c2 e b h = raises_lsb (selected c1.registers) ch v c1 c2 refl b h
  raises-control reset_all ch i v c1 c2 e b h =
      simp e (record {
        follows =
            follows-reset paired false _ _
            (follows-act paired c1 c2 (mode i v) (mode i (up v 7 32)) h.follows (ap (mode i) (sym (down7_up v b))));
        tight = h.tight;
        banks = h.banks;
      })
  raises-control channel_mode ch i v c1 c2 e b h =
      simp e (record {
        follows = follows-act paired c1 c2 (mode i v) (mode i (up v 7 32)) h.follows (ap (mode i) (sym (down7_up v b)));
        tight = h.tight;
        banks = h.banks;
      })
  raises-control coarse ch i v c1 c2 e b h =
      simp e (record {
        follows =
            follows-controller paired c1 c2 i (v * 128) (up (v * 128) 14 32) h.follows (omega arith)
            (pair_value paired i (v * 128) e (omega arith));
        tight = h.tight;
        banks = h.banks;
      })
  raises-control fine ch i v c1 c2 e b h = raises_fine ch (i - 32) v c1 c2 (pair_coarse paired i e) b h
  raises-control plain ch i v c1 c2 e b h =
      simp e (record {
        follows =
            follows-controller paired c1 c2 i v (up v 7 32) h.follows (omega (arith, b))
            (sym (down7_up v b) ∙ ap (λ r. value_down r (up v 7 32)) (sym e));
        tight = h.tight;
        banks = h.banks;
      })

  -- ---- program changes

  raises_program : (o : Option Bank) (ch p : ℕ) (c1 c2 : Channel) → bank_of c1.registers ≡ o → Raises c1 c2
      → Raises (voice_at (of_bytes paired) (voice1.Program ch p) c1) (program2 o p c2)
  raises_program None ch p c1 c2 e h =
      record { follows = follows-program paired c1 c2 p h.follows (e ∙ sym (h.banks e)); tight = h.tight; banks = h.banks }
  raises_program (Some b) ch p c1 c2 e h =
      let chosen : Channel = record c2 { registers = record c2.registers { bank = record { msb = Some b.msb; lsb = Some b.lsb } } } in
      record {
        follows = follows-program paired c1 chosen p (follows-registers paired c1 c2 c1.registers chosen.registers h.follows) e;
        tight = h.tight;
        banks = λ q. cc (e, q);
      }

  -- ---- voice messages

  raises_on : (t : Bool) (ch n v : ℕ) (c1 c2 : Channel) → eqb v 0 ≡ t → v < 128 → Raises c1 c2
      → Raises (with_act (cond t (off n 64) (on n v)) c1)
      (voice2_at paired (cond t (voice2.NoteOff ch n 0x8000 0 0) (voice2.NoteOn ch n (up v 7 16) 0 0)) c2)
  unfolding release_down
  raises_on true ch n v c1 c2 e b h =
      record { follows = follows-act paired c1 c2 (off n 64) (off n 0x8000) h.follows refl; tight = h.tight; banks = h.banks }
  raises_on false ch n v c1 c2 e b h = record {
    follows =
        follows-act paired c1 c2 (on n v) (on n (up v 7 16)) h.follows
        (ap (on n) (sym (velocity_down_up v (grind (arith, eqb-false v 0 e)) b)));
    tight = h.tight;
    banks = h.banks;
  }

  pub raises-voice : (m : Voice1) (c1 c2 : Channel) → IsVoice1 m → Raises c1 c2
      → Raises (voice_at (of_bytes paired) m c1) (fold (λ c m. voice2_at paired m c) c2 (raised_voice paired c1 m))
  raises-voice (voice1.NoteOff ch n v) c1 c2 b h = record {
    follows = follows-act paired c1 c2 (off n v) (off n (up v 7 16)) h.follows (ap (off n) (sym (release_down_up v b.2)));
    tight = h.tight;
    banks = h.banks;
  }
  raises-voice (voice1.NoteOn ch n v) c1 c2 b h = raises_on (eqb v 0) ch n v c1 c2 refl b.2 h
  raises-voice (voice1.PolyPressure ch n v) c1 c2 b h =
      record { follows = follows-poly paired c1 c2 n v (up v 7 32) h.follows (sym (down7_up v b.2)); tight = h.tight; banks = h.banks }
  raises-voice (voice1.Control ch i v) c1 c2 b h = raises-control (pairing paired (role_of i)) ch i v c1 c2 refl b.2 h
  raises-voice (voice1.Program ch p) c1 c2 b h = raises_program (bank_of c1.registers) ch p c1 c2 refl h
  raises-voice (voice1.Pressure ch v) c1 c2 b h =
      record { follows = follows-pressure paired c1 c2 v (up v 7 32) h.follows (sym (down7_up v b.1)); tight = h.tight; banks = h.banks }
  raises-voice (voice1.Bend ch v) c1 c2 b h =
      record { follows = follows-bend paired c1 c2 v (up v 14 32) h.follows (sym (down14_up v b.1)); tight = h.tight; banks = h.banks }
