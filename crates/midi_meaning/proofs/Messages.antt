-- A MIDI 1.0 message, as it comes and raised, keeps agreement and equal registers.
use Rattle.std.proofs.Common.{ℕ, ◌+◌, ◌-◌, ◌*◌, ◌/◌, ◌≡◌, ◌<◌, ◌∙◌, ap, sym, refl}
use Rattle.std.proofs.Common.{subst, Bool, true, false, cond, arith, Option, Some, None}
use Rattle.std.proofs.lemmas.Bool.{eqb-false}
use Rattle.std.specs.Option.{option_map, unwrap_or}
use lib.Dec.{eqb}
use Rattle.voice_messages.specs.declared.voice1.Voice1.{Voice1}
use Rattle.voice_messages.specs.declared.voice1.Voice1.TheVariants as voice1
use Rattle.voice_messages.specs.declared.voice2.Param.{Param}
use Rattle.voice_messages.specs.Ranges.{IsVoice1}
use Rattle.bit_scaling.specs.Scaling.{up, down14}
use Rattle.midi_meaning.specs.Registers.{Registers, selected, bank_of, with_bank_msb, with_bank_lsb}
use Rattle.midi_meaning.specs.Registers.{with_number_msb, with_number_lsb, without_selection}
use Rattle.midi_meaning.specs.Controllers.{Role, bank_msb, bank_lsb, data_msb, data_lsb, data_increment, data_decrement}
use Rattle.midi_meaning.specs.Controllers.{number_msb, number_lsb, reset_all, channel_mode, coarse, fine, plain, role_of, pairing}
use Rattle.midi_meaning.specs.State.{Act, on, off, mode, Channel, with_act, with_registers}
use Rattle.midi_meaning.specs.Messages.{of_packets, of_bytes, as_they_come, raised, reset}
use Rattle.midi_meaning.specs.Messages.{enter_msb, enter_lsb, with_fine, control, voice_at}
use Rattle.midi_meaning.specs.Agreement.{controller_down, lowered, value_down}
use Rattle.bit_scaling.specs.ForProofs.Scaled.{down7_up, down14_up, release_down_up, velocity_down_up}
use Rattle.midi_meaning.proofs.Pairs.{pair_coarse, pair_value}
use Rattle.midi_meaning.proofs.Changes.{Follows, follows-act, follows-poly, follows-controller, follows-pressure, follows-bend}
use Rattle.midi_meaning.proofs.Changes.{follows-program, follows-registers, follows-param, follows-value, follows-reset}

narrowed : (o1 o2 : Option ℕ) → o1 ≡ option_map down14 o2 → unwrap_or o1 0 ≡ down14 (unwrap_or o2 0)
unfolding down14
narrowed o1 None e = ap (λ o. unwrap_or o 0) e
narrowed o1 (Some x) e = ap (λ o. unwrap_or o 0) e

note_on-same : (n v : ℕ) → v < 128 → cond (eqb v 0) (off n 64) (on n v) ≡ lowered (cond (eqb v 0) (off n (up 64 7 16)) (on n (up v 7 16)))
note_on-same n v b = at_velocity (eqb v 0) refl
  where
    at_velocity : (t : Bool) → eqb v 0 ≡ t → cond t (off n 64) (on n v) ≡ lowered (cond t (off n (up 64 7 16)) (on n (up v 7 16)))
    at_velocity true e = ap (off n) (sym (release_down_up 64 (omega arith)))
    at_velocity false e = ap (on n) (sym (velocity_down_up v (grind (arith, eqb-false v 0 e)) b))

module _ (paired : Bool) where
  pub record Matches (c1 c2 : Channel) : Type 0 where
    pub follows : Follows paired c1 c2
    pub registers : c1.registers ≡ c2.registers

  pub matches-act : (c1 c2 : Channel) (a1 a2 : Act) → Matches c1 c2 → a1 ≡ lowered a2 → Matches (with_act a1 c1) (with_act a2 c2)
  matches-act c1 c2 a1 a2 h e = record { follows = follows-act paired c1 c2 a1 a2 h.follows e; registers = h.registers }

  pub matches-reset : (q : Bool) (c1 c2 : Channel) → Matches c1 c2 → Matches (reset (of_bytes paired) c1) (reset (of_packets q) c2)
  matches-reset q c1 c2 h = record { follows = follows-reset paired q c1 c2 h.follows; registers = ap without_selection h.registers }

  pub matches-registers : (f : Registers → Registers) (c1 c2 : Channel) → Matches c1 c2
      → Matches (with_registers (f c1.registers) c1) (with_registers (f c2.registers) c2)
  matches-registers f c1 c2 h = record { follows = follows-registers paired c1 c2 _ _ h.follows; registers = ap f h.registers }

  -- ---- data entry

  entered_msb : (o : Option Param) (v : ℕ) (c1 c2 : Channel) → v < 128 → Matches c1 c2
      → Matches (enter_msb as_they_come o v c1) (enter_msb raised o v c2)
  entered_msb None v c1 c2 b h = h
  entered_msb (Some p) v c1 c2 b h = record {
    follows = follows-param paired c1 c2 p (v * 128) (up (v * 128) 14 32) h.follows (omega arith) (sym (down14_up (v * 128) (omega arith)));
    registers = h.registers;
  }

  entered_lsb : (o : Option Param) (v : ℕ) (c1 c2 : Channel) → v < 128 → Matches c1 c2
      → Matches (enter_lsb as_they_come o v c1) (enter_lsb raised o v c2)
  entered_lsb None v c1 c2 b h = h
  entered_lsb (Some p) v c1 c2 b h =
      let old = unwrap_or (c1.params p) 0 in
      let small : old < 16384 = h.follows.bounded p in
      let new : old / 128 * 128 + v < 16384 = omega arith in
      record {
        follows = follows-value paired c1 c2 p (old / 128 * 128 + v) _ h.follows new (λ l.
            sym (down14_up (old / 128 * 128 + v) new)
            ∙ ap (λ n. down14 (up (n / 128 * 128 + v) 14 32)) (narrowed (c1.params p) (c2.params p) (h.follows.agrees.params p l)));
        registers = h.registers;
      }

  -- ---- control changes

  -- the LSB of a pair, at the index of its MSB
  matches-fine : (i v : ℕ) (c1 c2 : Channel) → pairing paired (role_of i) ≡ coarse → v < 128 → Matches c1 c2
      → Matches (with_fine (of_bytes paired) i v c1) (with_fine (of_packets paired) i v c2)
  matches-fine i v c1 c2 e b h =
      let old = unwrap_or (c1.controllers i) 0 in
      let small : old < 16384 = h.follows.controllers_bounded i in
      let new : old / 128 * 128 + v < 16384 = omega arith in
      let same : c1.controllers i ≡ option_map down14 (c2.controllers i) =
      h.follows.agrees.controllers i ∙ ap (λ r. option_map (value_down r) (c2.controllers i)) e in
      record {
        follows = follows-controller paired c1 c2 i (old / 128 * 128 + v) _ h.follows new
            (pair_value paired i (old / 128 * 128 + v) e new
            ∙ ap (λ n. controller_down paired i (up (n / 128 * 128 + v) 14 32)) (narrowed (c1.controllers i) (c2.controllers i) same));
        registers = h.registers;
      }

  pub matches-control : (r : Role) (i v : ℕ) (c1 c2 : Channel) → pairing paired (role_of i) ≡ r → v < 128 → Matches c1 c2
      → Matches (control (of_bytes paired) r i v c1) (control (of_packets paired) r i v c2)
  matches-control bank_msb i v c1 c2 e b h = matches-registers (with_bank_msb v) c1 c2 h
  matches-control bank_lsb i v c1 c2 e b h = matches-registers (with_bank_lsb v) c1 c2 h
  matches-control data_msb i v c1 c2 e b h =
      subst (λ r. Matches (enter_msb as_they_come (selected r) v c1) (enter_msb raised (selected c2.registers) v c2)) (sym h.registers)
      (entered_msb (selected c2.registers) v c1 c2 b h)
  matches-control data_lsb i v c1 c2 e b h =
      subst (λ r. Matches (enter_lsb as_they_come (selected r) v c1) (enter_lsb raised (selected c2.registers) v c2)) (sym h.registers)
      (entered_lsb (selected c2.registers) v c1 c2 b h)
  matches-control data_increment i v c1 c2 e b h = h
  matches-control data_decrement i v c1 c2 e b h = h
  matches-control (number_msb k) i v c1 c2 e b h = matches-registers (with_number_msb k v) c1 c2 h
  matches-control (number_lsb k) i v c1 c2 e b h = matches-registers (with_number_lsb k v) c1 c2 h
  matches-control reset_all i v c1 c2 e b h = matches-reset paired _ _ (matches-act c1 c2 _ _ h (ap (mode i) (sym (down7_up v b))))
  matches-control channel_mode i v c1 c2 e b h = matches-act c1 c2 _ _ h (ap (mode i) (sym (down7_up v b)))
  matches-control coarse i v c1 c2 e b h = record {
    follows =
        follows-controller paired c1 c2 i (v * 128) (up (v * 128) 14 32) h.follows (omega arith)
        (pair_value paired i (v * 128) e (omega arith));
    registers = h.registers;
  }
  matches-control fine i v c1 c2 e b h = matches-fine (i - 32) v c1 c2 (pair_coarse paired i e) b h
  matches-control plain i v c1 c2 e b h = record {
    follows =
        follows-controller paired c1 c2 i _ _ h.follows (omega (arith, b))
        (sym (down7_up v b) ∙ ap (λ r. value_down r (up v 7 32)) (sym e));
    registers = h.registers;
  }

  -- ---- voice messages

  pub matches-voice : (m : Voice1) (c1 c2 : Channel) → IsVoice1 m → Matches c1 c2
      → Matches (voice_at (of_bytes paired) m c1) (voice_at (of_packets paired) m c2)
  matches-voice (voice1.NoteOff ch n v) c1 c2 b h = matches-act c1 c2 _ _ h (ap (off n) (sym (release_down_up v b.2)))
  matches-voice (voice1.NoteOn ch n v) c1 c2 b h = matches-act c1 c2 _ _ h (note_on-same n v b.2)
  matches-voice (voice1.PolyPressure ch n v) c1 c2 b h =
      record { follows = follows-poly paired c1 c2 n _ _ h.follows (sym (down7_up v b.2)); registers = h.registers }
  matches-voice (voice1.Control ch i v) c1 c2 b h = matches-control (pairing paired (role_of i)) i v c1 c2 refl b.2 h
  matches-voice (voice1.Program ch p) c1 c2 b h =
      record { follows = follows-program paired c1 c2 p h.follows (ap bank_of h.registers); registers = h.registers }
  matches-voice (voice1.Pressure ch v) c1 c2 b h =
      record { follows = follows-pressure paired c1 c2 _ _ h.follows (sym (down7_up v b.1)); registers = h.registers }
  matches-voice (voice1.Bend ch v) c1 c2 b h =
      record { follows = follows-bend paired c1 c2 _ _ h.follows (sym (down14_up v b.1)); registers = h.registers }
