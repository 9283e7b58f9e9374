-- Each change of a channel keeps agreement, and values of parameters below 2 ^ 14. Registers stand apart.
use Rattle.std.proofs.Common.{ℕ, ◌≡◌, ◌<◌, ◌∙◌, ap, sym, refl, subst, Bool, true, false, cond, arith, Option, Some}
use Rattle.std.proofs.lemmas.List.{map-append}
use Rattle.std.proofs.lemmas.Bool.{cond_both, eqb-true}
use Rattle.std.specs.Prelude.{◌&&◌}
use Rattle.std.specs.Option.{option_map, unwrap_or}
use lib.Dec.{leb, eqb}
use Rattle.voice_messages.specs.declared.voice2.Param.{Param}
use Rattle.bit_scaling.specs.Scaling.{up, down7, down14}
use Rattle.midi_meaning.specs.Registers.{Registers, bank_of}
use Rattle.midi_meaning.specs.State.{Act, Channel, with_act, with_poly, with_controller, with_pressure, with_bend}
use Rattle.midi_meaning.specs.State.{with_program, with_registers, with_value, with_param, with_looseness, put, same_param}
use Rattle.midi_meaning.specs.Messages.{of_packets, of_bytes, greatest, reset_controllers, reset}
use Rattle.midi_meaning.specs.Controllers.{Role, coarse, pairing, role_of}
use Rattle.midi_meaning.specs.Agreement.{ChannelAgrees, controller_down, lowered, value_down}
use Rattle.midi_meaning.proofs.SameParam.{same_param-true}

-- a value that is set in both maps
put_lowered : {K : Type 0} (same : K → K → Bool) (f : ℕ → ℕ) (m1 m2 : K → Option ℕ) (k : K) (v1 v2 : ℕ)
    → ((j : K) → m1 j ≡ option_map f (m2 j)) → v1 ≡ f v2 → (j : K) → put same m1 k v1 j ≡ option_map f (put same m2 k v2 j)
put_lowered same f m1 m2 k v1 v2 h e j = grind (arith, h j)

put_bounded : (c1 : Channel) (p : Param) (v1 : ℕ) → ((q : Param) → unwrap_or (c1.params q) 0 < 16384) → v1 < 16384 → (q : Param)
    → unwrap_or (cond (same_param q p) (Some v1) (c1.params q)) 0 < 16384
put_bounded c1 p v1 h b q = cond_both (same_param q p) (Some v1) (c1.params q) (λ o. unwrap_or o 0 < 16384) (λ e. b) (λ e. h q)

-- zero is lowered to zero, whatever it is the value of
zero_down : (r : Role) → value_down r (up 0 7 32) ≡ 0
unfolding up down7 down14
zero_down coarse = refl
zero_down _ = refl

greatest_down : (t u : Bool) → greatest (of_bytes t) 11 ≡ value_down (pairing t (role_of 11)) (greatest (of_packets u) 11)
unfolding up down7 down14 role_of
greatest_down true true = refl
greatest_down true false = refl
greatest_down false true = refl
greatest_down false false = refl

module _ (paired : Bool) where
  pub record Follows (c1 c2 : Channel) : Type 0 where
    pub agrees : ChannelAgrees paired c1 c2
    pub bounded : (p : Param) → unwrap_or (c1.params p) 0 < 16384
    pub controllers_bounded : (i : ℕ) → unwrap_or (c1.controllers i) 0 < 16384

  pub follows-act : (c1 c2 : Channel) (a1 a2 : Act) → Follows c1 c2 → a1 ≡ lowered a2 → Follows (with_act a1 c1) (with_act a2 c2)
  follows-act c1 c2 a1 a2 h e = record {
    agrees = record {
      acts = simp map-append (cc (h.agrees.acts, e));
      poly = h.agrees.poly;
      controllers = h.agrees.controllers;
      pressure = h.agrees.pressure;
      bend = h.agrees.bend;
      program = h.agrees.program;
      params = h.agrees.params;
    };
    bounded = h.bounded;
    controllers_bounded = h.controllers_bounded;
  }

  pub follows-poly : (c1 c2 : Channel) (n v1 v2 : ℕ) → Follows c1 c2 → v1 ≡ down7 v2 → Follows (with_poly n v1 c1) (with_poly n v2 c2)
  follows-poly c1 c2 n v1 v2 h e = search (h, put_lowered eqb down7 c1.poly c2.poly n v1 v2 h.agrees.poly e)

  pub follows-controller : (c1 c2 : Channel) (n v1 v2 : ℕ) → Follows c1 c2 → v1 < 16384 → v1 ≡ controller_down paired n v2
      → Follows (with_controller n v1 c1) (with_controller n v2 c2)
  follows-controller c1 c2 n v1 v2 h b e =
      let at : (j : ℕ)
      → cond (eqb j n) (Some v1) (c1.controllers j) ≡ option_map (controller_down paired j) (cond (eqb j n) (Some v2) (c2.controllers j)) =
      λ j. put_at j (eqb j n) refl in
      let within : (j : ℕ) → unwrap_or (cond (eqb j n) (Some v1) (c1.controllers j)) 0 < 16384 =
      λ j. cond_both (eqb j n) (Some v1) (c1.controllers j) (λ o. unwrap_or o 0 < 16384) (λ e. b) (λ e. h.controllers_bounded j) in
      search (h, at, within)
    where
      put_at : (j : ℕ) (t : Bool) → eqb j n ≡ t
          → cond t (Some v1) (c1.controllers j) ≡ option_map (controller_down paired j) (cond t (Some v2) (c2.controllers j))
      put_at j true same = ap Some (e ∙ ap (λ k. controller_down paired k v2) (sym (eqb-true j n same)))
      put_at j false same = h.agrees.controllers j

  pub follows-pressure : (c1 c2 : Channel) (v1 v2 : ℕ) → Follows c1 c2 → v1 ≡ down7 v2 → Follows (with_pressure v1 c1) (with_pressure v2 c2)
  follows-pressure c1 c2 v1 v2 h e = search (h, e)

  pub follows-bend : (c1 c2 : Channel) (v1 v2 : ℕ) → Follows c1 c2 → v1 ≡ down14 v2 → Follows (with_bend v1 c1) (with_bend v2 c2)
  follows-bend c1 c2 v1 v2 h e = search (h, e)

  pub follows-program : (c1 c2 : Channel) (p : ℕ) → Follows c1 c2 → bank_of c1.registers ≡ bank_of c2.registers
      → Follows (with_program p c1) (with_program p c2)
  follows-program c1 c2 p h e = record {
    agrees = record {
      acts = h.agrees.acts;
      poly = h.agrees.poly;
      controllers = h.agrees.controllers;
      pressure = h.agrees.pressure;
      bend = h.agrees.bend;
      program = ap (λ b. Some (record { program = p; bank = b })) e;
      params = h.agrees.params;
    };
    bounded = h.bounded;
    controllers_bounded = h.controllers_bounded;
  }

  pub follows-registers : (c1 c2 : Channel) (r1 r2 : Registers) → Follows c1 c2 → Follows (with_registers r1 c1) (with_registers r2 c2)
  follows-registers c1 c2 r1 r2 h = search h

  -- ---- parameters

  -- a parameter is set, and isn't loose
  pub follows-param : (c1 c2 : Channel) (p : Param) (v1 v2 : ℕ) → Follows c1 c2 → v1 < 16384 → v1 ≡ down14 v2
      → Follows (with_param p v1 c1) (with_param p v2 c2)
  follows-param c1 c2 p v1 v2 h b e =
      let within : (q : Param) → unwrap_or (cond (same_param q p) (Some v1) (c1.params q)) 0 < 16384 = put_bounded c1 p v1 h.bounded b in
      let at : (q : Param) → cond (same_param q p) false (c2.loose q) ≡ false
      → cond (same_param q p) (Some v1) (c1.params q) ≡ option_map down14 (cond (same_param q p) (Some v2) (c2.params q)) =
      λ q l. set_at (same_param q p) (c2.loose q) _ _ l (h.agrees.params q) in
      search (h, at, within)
    where
      set_at : (b l : Bool) (o1 o2 : Option ℕ) → cond b false l ≡ false → (l ≡ false → o1 ≡ option_map down14 o2)
          → cond b (Some v1) o1 ≡ option_map down14 (cond b (Some v2) o2)
      set_at true l o1 o2 n f = ap Some e
      set_at false l o1 o2 n f = f n

  -- it is set, and is as loose as before
  pub follows-value : (c1 c2 : Channel) (p : Param) (v1 v2 : ℕ) → Follows c1 c2 → v1 < 16384 → (c2.loose p ≡ false → v1 ≡ down14 v2)
      → Follows (with_value p v1 c1) (with_value p v2 c2)
  follows-value c1 c2 p v1 v2 h b e =
      let within : (q : Param) → unwrap_or (cond (same_param q p) (Some v1) (c1.params q)) 0 < 16384 = put_bounded c1 p v1 h.bounded b in
      let at : (q : Param) → c2.loose q ≡ false
      → cond (same_param q p) (Some v1) (c1.params q) ≡ option_map down14 (cond (same_param q p) (Some v2) (c2.params q)) =
      λ q l. set_at (same_param q p) _ _ (λ s. e (ap c2.loose (sym (same_param-true q p s)) ∙ l)) (h.agrees.params q l) in
      search (h, at, within)
    where
      set_at : (b : Bool) (o1 o2 : Option ℕ) → (b ≡ true → v1 ≡ down14 v2) → o1 ≡ option_map down14 o2
          → cond b (Some v1) o1 ≡ option_map down14 (cond b (Some v2) o2)
      set_at true o1 o2 f n = ap Some (f refl)
      set_at false o1 o2 f n = n

  -- it is loose from now on, on the packets' side
  pub follows-loose : (c1 c2 : Channel) (p : Param) → Follows c1 c2 → Follows c1 (with_looseness true p c2)
  follows-loose c1 c2 p h =
      let at : (q : Param) → cond (same_param q p) true (c2.loose q) ≡ false → c1.params q ≡ option_map down14 (c2.params q) =
      λ q l. h.agrees.params q (still (same_param q p) (c2.loose q) l) in
      search (h, at)
    where
      still : (b l : Bool) → cond b true l ≡ false → l ≡ false
      still true l n = cc
      still false l n = n

  -- ---- reset all controllers

  -- the packets' side may be reset with pairs or without
  reset_at : (q : Bool) (m1 m2 : ℕ → Option ℕ) → ((i : ℕ) → m1 i ≡ option_map (controller_down paired i) (m2 i)) → (i : ℕ)
      → reset_controllers (of_bytes paired) m1 i ≡ option_map (controller_down paired i) (reset_controllers (of_packets q) m2 i)
  reset_at q m1 m2 h i = reset_with (eqb i 11) refl (eqb i 1) (leb 64 i && leb i 67)
    where
      none : Some 0 ≡ option_map (controller_down paired i) (Some (up 0 7 32))
      none = ap Some (sym (zero_down (pairing paired (role_of i))))

      most : i ≡ 11 → Some (greatest (of_bytes paired) i) ≡ option_map (controller_down paired i) (Some (greatest (of_packets q) i))
      most e =
          subst (λ j. Some (greatest (of_bytes paired) j) ≡ option_map (controller_down paired j) (Some (greatest (of_packets q) j)))
          (sym e) (ap Some (greatest_down paired q))

      reset_with : (a : Bool) → eqb i 11 ≡ a → (b c : Bool) →
          cond a (Some (greatest (of_bytes paired) i)) (cond b (Some 0) (cond c (Some 0) (m1 i)))
          ≡ option_map (controller_down paired i)
          (cond a (Some (greatest (of_packets q) i)) (cond b (Some (up 0 7 32)) (cond c (Some (up 0 7 32)) (m2 i))))
      reset_with true e b c = most (eqb-true i 11 e)
      reset_with false e true c = none
      reset_with false e false true = none
      reset_with false e false false = h i

  reset_bounded : (c : Channel) → ((i : ℕ) → unwrap_or (c.controllers i) 0 < 16384) → (i : ℕ)
      → unwrap_or (reset_controllers (of_bytes paired) c.controllers i) 0 < 16384
  reset_bounded c h i =
      cond_both (eqb i 11) (Some (greatest (of_bytes paired) i)) _ (λ o. unwrap_or o 0 < 16384)
      (λ e. cond_both paired 16383 127 (λ v. v < 16384) (λ e. omega arith) (λ e. omega arith))
      (λ e. cond_both (eqb i 1) (Some 0) _ (λ o. unwrap_or o 0 < 16384) (λ e. omega arith)
      (λ e. cond_both (leb 64 i && leb i 67) (Some 0) (c.controllers i) (λ o. unwrap_or o 0 < 16384) (λ e. omega arith) (λ e. h i)))

  pub follows-reset : (q : Bool) (c1 c2 : Channel) → Follows c1 c2 → Follows (reset (of_bytes paired) c1) (reset (of_packets q) c2)
  unfolding up down7 down14
  follows-reset q c1 c2 h = record {
    agrees = record {
      acts = h.agrees.acts;
      poly = λ n. refl;
      controllers = reset_at q c1.controllers c2.controllers h.agrees.controllers;
      pressure = refl;
      bend = refl;
      program = h.agrees.program;
      params = h.agrees.params;
    };
    bounded = h.bounded;
    controllers_bounded = reset_bounded c1 h.controllers_bounded;
  }
