-- What a control change leaves is kept after the step of the meaning, and its answer is the meaning's.
use Rattle.std.proofs.Common.{ℕ, ◌+◌, ◌-◌, ◌*◌, ◌/◌, ⊎_elim, ◌≡◌, ◌<◌, ◌≤◌, ◌∙◌, ap, sym, subst, refl, Bool, true}
use Rattle.std.proofs.Common.{false, cond, arith, Option, Some, None, List, Vec, vec_len, length, get_or, set, replicate}
use Rattle.std.proofs.lemmas.Bool.{cases_lt, eqb-true, eqb-false, eq-eqb}
use Rattle.std.proofs.lemmas.Bool.Decides.{nat_tests}
use Rattle.std.proofs.lemmas.List.{ext_get_or, get_or-set_same, get_or-set_other, get_or_past, length-set, get_or-replicate, length-replicate}
use Rattle.std.proofs.lemmas.List.{with_items_is}
use Rattle.std.specs.Vec.{with_items}
use Rattle.std.specs.Prelude.{nat_le, ◌&&◌, IfSome}
use Rattle.std.specs.Option.{unwrap_or}
use lib.Dec.{eqb}
use Rattle.voice_messages.specs.declared.voice2.ParamKind.{ParamKind}
use Rattle.voice_messages.specs.declared.voice2.ParamKind.TheVariants.{Registered, Assignable}
use Rattle.voice_messages.specs.declared.voice2.Param.{Param}
use Rattle.voice_messages.specs.Ranges.{IsParam}
use Rattle.midi_meaning.specs.Registers.{Registers, unset_registers, selected, with_bank_msb, with_bank_lsb}
use Rattle.midi_meaning.specs.Registers.{with_number_msb, with_number_lsb, without_selection}
use Rattle.midi_meaning.specs.Controllers.{Role, bank_msb, bank_lsb, data_msb, data_lsb, data_increment, data_decrement}
use Rattle.midi_meaning.specs.Controllers.{number_msb, number_lsb, reset_all, channel_mode, coarse, fine, plain, role_of, pairing}
use Rattle.midi_meaning.specs.Roles.{registers_after}
use Rattle.midi_meaning.specs.State.{Channel, GroupState, same_kind, same_param, at_channel}
use Rattle.midi_meaning.specs.Messages.{as_they_come, of_bytes, control, enter_msb, enter_lsb, start}
use Rattle.midi_meaning.proofs.Pairs.{only_paired, pair_coarse, pair_index, unpaired_coarse}
use Rattle.midi_meaning.proofs.SameParam.{same_param-true, same_param-refl}
use Rattle.param_collector.specs.declared.collected.Collected.{Collected}
use Rattle.param_collector.specs.declared.collected.Collected.TheVariants as collected
use Rattle.param_collector.specs.Holding.{Holding, IsHolding, fresh, pair_count, registers_at, msb_at, pair_at}
use Rattle.param_collector.specs.Msbs.{kind_number, place_of, pair_place, zeros}
use Rattle.param_collector.specs.Control.{AreInRange, EntryInRange, answer_by, answer_of, entered, value_after, holding_after, with_entry}
use Rattle.param_collector.specs.Keeps.{Keeps, IsMeant, control_step, controller_of, value_of}

-- ---- a channel

lsb_kept : (old lsb : ℕ) → lsb < 128 → old / 128 ≡ (old / 128 * 128 + lsb) / 128
lsb_kept old lsb below = omega arith

-- the registers after a control change
registers_meant : (paired : Bool) (role : Role) (index value : ℕ) (channel : Channel)
    → registers_after role value channel.registers ≡ (control (of_bytes paired) role index value channel).registers
registers_meant paired bank_msb index value channel = refl
registers_meant paired bank_lsb index value channel = refl
registers_meant paired data_msb index value channel = entry (selected channel.registers)
  where
    entry : (o : Option Param) → channel.registers ≡ (enter_msb as_they_come o value channel).registers
    entry None = refl
    entry (Some param) = refl
registers_meant paired data_lsb index value channel = entry (selected channel.registers)
  where
    entry : (o : Option Param) → channel.registers ≡ (enter_lsb as_they_come o value channel).registers
    entry None = refl
    entry (Some param) = refl
registers_meant paired data_increment index value channel = refl
registers_meant paired data_decrement index value channel = refl
registers_meant paired (number_msb kind) index value channel = refl
registers_meant paired (number_lsb kind) index value channel = refl
registers_meant paired reset_all index value channel = refl
registers_meant paired channel_mode index value channel = refl
registers_meant paired coarse index value channel = refl
registers_meant paired fine index value channel = refl
registers_meant paired plain index value channel = refl

abbrev IsEntry : Role → Type 0
IsEntry data_msb = Unit {0}
IsEntry data_lsb = Unit {0}
IsEntry _ = ⊥

-- the MSB of a parameter of the channel after a control change
abbrev msb_after : Role → Option Param → ℕ → Param → ℕ → ℕ
msb_after data_msb (Some entry) value param msb = cond (same_param param entry) value msb
msb_after _ _ value param msb = msb

-- the MSB after a control change
msb_meant : (paired : Bool) (role : Role) (number index value : ℕ) (channel : Channel) (param : Param)
    → EntryInRange role number (selected channel.registers) value →
    msb_after role (selected channel.registers) value param (value_of channel param / 128)
    ≡ value_of (control (of_bytes paired) role index value channel) param / 128
msb_meant paired bank_msb number index value channel param range = refl
msb_meant paired bank_lsb number index value channel param range = refl
msb_meant paired data_msb number index value channel param range = entry (selected channel.registers)
  where
    entry : (o : Option Param)
        → msb_after data_msb o value param (value_of channel param / 128) ≡ value_of (enter_msb as_they_come o value channel) param / 128
    entry None = refl
    entry (Some q) = go (same_param param q)
      where
        go : (t : Bool)
            → cond t value (value_of channel param / 128) ≡ unwrap_or (cond t (Some (value * 128)) (channel.params param)) 0 / 128
        go true = omega arith
        go false = refl
msb_meant paired data_lsb number index value channel param range = entry (selected channel.registers)
  where
    entry : (o : Option Param) → value_of channel param / 128 ≡ value_of (enter_lsb as_they_come o value channel) param / 128
    entry None = refl
    entry (Some q) = go (same_param param q) refl
      where
        go : (t : Bool) → same_param param q ≡ t
            → value_of channel param / 128
            ≡ unwrap_or (cond t (Some (value_of channel q / 128 * 128 + value)) (channel.params param)) 0 / 128
        go true e = ap (λ p. value_of channel p / 128) (same_param-true param q e) ∙ lsb_kept (value_of channel q) value range.1
        go false e = refl
msb_meant paired data_increment number index value channel param range = refl
msb_meant paired data_decrement number index value channel param range = refl
msb_meant paired (number_msb kind) number index value channel param range = refl
msb_meant paired (number_lsb kind) number index value channel param range = refl
msb_meant paired reset_all number index value channel param range = refl
msb_meant paired channel_mode number index value channel param range = refl
msb_meant paired coarse number index value channel param range = refl
msb_meant paired fine number index value channel param range = refl
msb_meant paired plain number index value channel param range = refl

-- ---- pairs

-- the MSB of a pair of the channel after a control change
abbrev pair_after : Role → ℕ → ℕ → ℕ → ℕ → ℕ
pair_after coarse index value pair msb = cond (eqb pair index) value msb
pair_after reset_all index value pair msb = cond (eqb pair 1) 0 (cond (eqb pair 11) 127 msb)
pair_after _ index value pair msb = msb

-- other controllers than pairs are none of them
apart_from : (paired : Bool) (pair index : ℕ) → pairing paired (role_of pair) ≡ coarse → pairing paired (role_of index) ≡ plain
    → eqb pair index ≡ false
apart_from paired pair index is plain_is = go (eqb pair index) refl
  where
    go : (t : Bool) → eqb pair index ≡ t → t ≡ false
    go true e = absurd (differ (pairing paired (role_of pair)) is (ap (λ i. pairing paired (role_of i)) (eqb-true pair index e) ∙ plain_is))
      where
        differ : (r : Role) → r ≡ coarse → r ≡ plain → ⊥
        differ coarse x y = cc
        differ _ x y = cc
    go false e = refl

pair_meant : (paired : Bool) (role : Role) (number index value : ℕ) (channel : Channel) (param : Option Param) (pair : ℕ)
    → role ≡ pairing paired (role_of index) → EntryInRange role number param value → pairing paired (role_of pair) ≡ coarse →
    pair_after role index value pair (controller_of channel pair / 128)
    ≡ controller_of (control (of_bytes paired) role index value channel) pair / 128
pair_meant paired bank_msb number index value channel param pair e range is = refl
pair_meant paired bank_lsb number index value channel param pair e range is = refl
pair_meant paired data_msb number index value channel param pair e range is = entry (selected channel.registers)
  where
    entry : (o : Option Param) → controller_of channel pair / 128 ≡ controller_of (enter_msb as_they_come o value channel) pair / 128
    entry None = refl
    entry (Some q) = refl
pair_meant paired data_lsb number index value channel param pair e range is = entry (selected channel.registers)
  where
    entry : (o : Option Param) → controller_of channel pair / 128 ≡ controller_of (enter_lsb as_they_come o value channel) pair / 128
    entry None = refl
    entry (Some q) = refl
pair_meant paired data_increment number index value channel param pair e range is = refl
pair_meant paired data_decrement number index value channel param pair e range is = refl
pair_meant paired (number_msb kind) number index value channel param pair e range is = refl
pair_meant paired (number_lsb kind) number index value channel param pair e range is = refl
pair_meant true reset_all number index value channel param pair e range is = go (eqb pair 11) refl (eqb pair 1) refl
  where
    below : pair < 32
    below = pair_index true pair is

    high : (nat_le 64 pair && nat_le pair 67) ≡ false
    high = grind (arith, nat_tests, below)

    go : (a : Bool) → eqb pair 11 ≡ a → (b : Bool) → eqb pair 1 ≡ b →
        cond b 0 (cond a 127 (controller_of channel pair / 128))
        ≡ unwrap_or (cond a (Some 16383) (cond b (Some 0) (cond (nat_le 64 pair && nat_le pair 67) (Some 0) (channel.controllers pair)))) 0
        / 128
    go true e true f = absurd (omega (arith, eqb-true pair 11 e, eqb-true pair 1 f))
    go true e false f = omega arith
    go false e true f = omega arith
    go false e false f = ap (λ t. unwrap_or (cond t (Some 0) (channel.controllers pair)) 0 / 128) (sym high)
pair_meant false reset_all number index value channel param pair e range is = absurd (unpaired_coarse (role_of pair) is)
pair_meant paired channel_mode number index value channel param pair e range is = refl
pair_meant paired coarse number index value channel param pair e range is = go (eqb pair index)
  where
    go : (t : Bool)
        → cond t value (controller_of channel pair / 128) ≡ unwrap_or (cond t (Some (value * 128)) (channel.controllers pair)) 0 / 128
    go true = omega arith
    go false = refl
pair_meant paired fine number index value channel param pair e range is = go (eqb pair (index - 32)) refl
  where
    go : (t : Bool) → eqb pair (index - 32) ≡ t
        → controller_of channel pair / 128
        ≡ unwrap_or (cond t (Some (controller_of channel (index - 32) / 128 * 128 + value)) (channel.controllers pair)) 0 / 128
    go true f =
        ap (λ i. controller_of channel i / 128) (eqb-true pair (index - 32) f) ∙ lsb_kept (controller_of channel (index - 32)) value range.1
    go false f = refl
pair_meant paired plain number index value channel param pair e range is =
    ap (λ t. unwrap_or (cond t (Some value) (channel.controllers pair)) 0 / 128) (sym (apart_from paired pair index is (sym e)))

-- ---- the answer

-- what is known of the MSBs that an answer asks for
record Knows (paired : Bool) (role : Role) (index : ℕ) (channel : Channel) (msbs : Param → ℕ) (pairs : ℕ → ℕ) : Type 0 where
  entries : IsEntry role → (param : Param) → selected channel.registers ≡ Some param → msbs param ≡ value_of channel param / 128
  pairs_are : role ≡ fine → pairs (index - 32) ≡ controller_of channel (index - 32) / 128

answer_meant : (paired : Bool) (role : Role) (index value : ℕ) (channel : Channel) (msbs : Param → ℕ) (pairs : ℕ → ℕ)
    → Knows paired role index channel msbs pairs →
    answer_by role index (selected channel.registers) (λ param. value_after role value (msbs param))
    (λ pair. value_after role value (pairs pair))
    ≡ answer_by role index (selected channel.registers) (value_of (control (of_bytes paired) role index value channel))
    (controller_of (control (of_bytes paired) role index value channel))
answer_meant paired bank_msb index value channel msbs pairs known = refl
answer_meant paired bank_lsb index value channel msbs pairs known = refl
answer_meant paired data_msb index value channel msbs pairs known = entry (selected channel.registers)
  where
    entry : (o : Option Param)
        → entered o (λ param. value * 128) ≡ entered o (λ param. value_of (enter_msb as_they_come o value channel) param)
    entry None = refl
    entry (Some q) = λ i. collected.Set q (unwrap_or (cond (sym (same_param-refl q) i) (Some (value * 128)) (channel.params q)) 0)
answer_meant paired data_lsb index value channel msbs pairs known = entry (selected channel.registers) (known.entries tt)
  where
    entry : (o : Option Param) → ((param : Param) → o ≡ Some param → msbs param ≡ value_of channel param / 128)
        → entered o (λ param. msbs param * 128 + value) ≡ entered o (λ param. value_of (enter_lsb as_they_come o value channel) param)
    entry None k = refl
    entry (Some q) k =
        ap (λ msb. collected.Set q (msb * 128 + value)) (k q refl)
        ∙ (λ i. collected.Set q
        (unwrap_or (cond (sym (same_param-refl q) i) (Some (value_of channel q / 128 * 128 + value)) (channel.params q)) 0))
answer_meant paired data_increment index value channel msbs pairs known = refl
answer_meant paired data_decrement index value channel msbs pairs known = refl
answer_meant paired (number_msb kind) index value channel msbs pairs known = refl
answer_meant paired (number_lsb kind) index value channel msbs pairs known = refl
answer_meant paired reset_all index value channel msbs pairs known = refl
answer_meant paired channel_mode index value channel msbs pairs known = refl
answer_meant paired coarse index value channel msbs pairs known =
    λ i. collected.Pair index (unwrap_or (cond (sym (eq-eqb index index refl) i) (Some (value * 128)) (channel.controllers index)) 0)
answer_meant paired fine index value channel msbs pairs known =
    let at : ℕ = index - 32 in
    ap (λ msb. collected.Pair at (msb * 128 + value)) (known.pairs_are refl)
    ∙ (λ i. collected.Pair at
    (unwrap_or (cond (sym (eq-eqb at at refl) i) (Some (controller_of channel at / 128 * 128 + value)) (channel.controllers at)) 0))
answer_meant paired plain index value channel msbs pairs known = refl

-- ---- places

kind_below : (k : ParamKind) → kind_number k < 2
kind_below Registered = omega arith
kind_below Assignable = omega arith

kind_number-same : (k l : ParamKind) → kind_number k ≡ kind_number l → same_kind k l ≡ true
kind_number-same Registered Registered e = refl
kind_number-same Assignable Assignable e = refl
kind_number-same Registered Assignable e = absurd (omega arith)
kind_number-same Assignable Registered e = absurd (omega arith)

parts_same : (c d k l b e i j : ℕ) → k < 2 → l < 2 → b < 128 → e < 128 → i < 128 → j < 128
    → ((c * 2 + k) * 128 + b) * 128 + i ≡ ((d * 2 + l) * 128 + e) * 128 + j → (c ≡ d) × (k ≡ l) × (b ≡ e) × (i ≡ j)
parts_same c d k l b e i j kb lb bb eb ib jb same = (omega arith, omega arith, omega arith, omega arith)

place_below : (c : ℕ) (p : Param) → c < 16 → IsParam p → place_of c p < 524288
place_below c p below known = go (kind_number p.kind) p.bank p.index (kind_below p.kind) known.0 known.1
  where
    go : (k b i : ℕ) → k < 2 → b < 128 → i < 128 → ((c * 2 + k) * 128 + b) * 128 + i < 524288
    go k b i kb bb ib = omega arith

place_same : (c d : ℕ) (p q : Param) → IsParam p → IsParam q → place_of c p ≡ place_of d q → (c ≡ d) × (same_param p q ≡ true)
place_same c d p q pk qk same =
    let parts =
    parts_same c d (kind_number p.kind) (kind_number q.kind) p.bank q.bank p.index q.index (kind_below p.kind) (kind_below q.kind) pk.0 qk.0
    pk.1 qk.1 same in (
      parts.0,
      λ i. kind_number-same p.kind q.kind parts.1 i && (eq-eqb p.bank q.bank parts.2 i && eq-eqb p.index q.index parts.3 i),
    )

pair_place_below : (channel index : ℕ) → channel < 16 → index < 32 → pair_place channel index < 512
pair_place_below channel index c i = omega arith

pair_place_same : (c d i j : ℕ) → i < 32 → j < 32 → pair_place c i ≡ pair_place d j → (c ≡ d) × (i ≡ j)
pair_place_same c d i j ib jb same = (omega arith, omega arith)

-- ---- the state after a control change

kept_anywhere : {A : Type 0} (test : Bool) (x : A) → x ≡ cond test x x
kept_anywhere true x = refl
kept_anywhere false x = refl

set_read : {A : Type 0} (xs : List A) (i j : ℕ) (change : A → A) (d : A) → j < length xs
    → get_or (set xs i (change (get_or xs i d))) j d ≡ cond (eqb j i) (change (get_or xs j d)) (get_or xs j d)
set_read {A} xs i j change d below = go (eqb j i) refl
  where
    go : (t : Bool) → eqb j i ≡ t → get_or (set xs i (change (get_or xs i d))) j d ≡ cond t (change (get_or xs j d)) (get_or xs j d)
    go true e =
        let P : ℕ → Type 0 = λ k. get_or (set xs k (change (get_or xs k d))) j d ≡ change (get_or xs j d) in
        subst P (eqb-true j i e) (get_or-set_same xs j (change (get_or xs j d)) d below)
    go false e = get_or-set_other xs i j (change (get_or xs i d)) d (eqb-false j i e)

registers_follow : (role : Role) (holding : Holding) (channel index value other : ℕ) → other < length holding.registers →
    registers_at (holding_after role holding channel index value) other
    ≡ cond (eqb other channel) (registers_after role value (registers_at holding other)) (registers_at holding other)
registers_follow bank_msb holding channel index value other below =
    set_read holding.registers channel other (with_bank_msb value) unset_registers below
registers_follow bank_lsb holding channel index value other below =
    set_read holding.registers channel other (with_bank_lsb value) unset_registers below
registers_follow data_msb holding channel index value other below = entry (selected (registers_at holding channel))
  where
    entry : (o : Option Param)
        → registers_at (with_entry o channel value holding) other
        ≡ cond (eqb other channel) (registers_at holding other) (registers_at holding other)
    entry None = kept_anywhere (eqb other channel) (registers_at holding other)
    entry (Some q) = kept_anywhere (eqb other channel) (registers_at holding other)
registers_follow data_lsb holding channel index value other below = kept_anywhere (eqb other channel) (registers_at holding other)
registers_follow data_increment holding channel index value other below = kept_anywhere (eqb other channel) (registers_at holding other)
registers_follow data_decrement holding channel index value other below = kept_anywhere (eqb other channel) (registers_at holding other)
registers_follow (number_msb kind) holding channel index value other below =
    set_read holding.registers channel other (with_number_msb kind value) unset_registers below
registers_follow (number_lsb kind) holding channel index value other below =
    set_read holding.registers channel other (with_number_lsb kind value) unset_registers below
registers_follow reset_all holding channel index value other below =
    set_read holding.registers channel other without_selection unset_registers below
registers_follow channel_mode holding channel index value other below = kept_anywhere (eqb other channel) (registers_at holding other)
registers_follow coarse holding channel index value other below = kept_anywhere (eqb other channel) (registers_at holding other)
registers_follow fine holding channel index value other below = kept_anywhere (eqb other channel) (registers_at holding other)
registers_follow plain holding channel index value other below = kept_anywhere (eqb other channel) (registers_at holding other)

apart : (b : Bool) → b ≡ true → b ≡ false → ⊥
apart true e f = cc
apart false e f = cc

-- the MSB of one parameter, after that of another is set
msb_set : (msbs : List ℕ) (channel other value : ℕ) (q param : Param) → length msbs ≡ 524288 → other < 16 → IsParam param → IsParam q →
    get_or (set msbs (place_of channel q) value) (place_of other param) 0
    ≡ cond (eqb other channel) (cond (same_param param q) value (get_or msbs (place_of other param) 0))
    (get_or msbs (place_of other param) 0)
msb_set msbs channel other value q param size within known q_known = go (eqb other channel) refl (same_param param q) refl
  where
    go : (t : Bool) → eqb other channel ≡ t → (u : Bool) → same_param param q ≡ u →
        get_or (set msbs (place_of channel q) value) (place_of other param) 0
        ≡ cond t (cond u value (get_or msbs (place_of other param) 0)) (get_or msbs (place_of other param) 0)
    go true e true f =
        let P : ℕ → Type 0 = λ place. get_or (set msbs place value) (place_of other param) 0 ≡ value in
        subst P (λ i. place_of (eqb-true other channel e i) (same_param-true param q f i))
        (get_or-set_same msbs (place_of other param) value 0 (rw size (place_below other param within known)))
    go true e false f =
        get_or-set_other msbs (place_of channel q) (place_of other param) value 0
        (λ same. apart (same_param param q) (place_same other channel param q known q_known same).1 f)
    go false e u f =
        get_or-set_other msbs (place_of channel q) (place_of other param) value 0
        (λ same. eqb-false other channel e (place_same other channel param q known q_known same).0)

msbs_follow : (role : Role) (holding : Holding) (channel index value other : ℕ) (param : Param) → IsHolding holding → other < 16
    → IsParam param → EntryInRange role channel (selected (registers_at holding channel)) value →
    msb_at (holding_after role holding channel index value) other param
    ≡ cond (eqb other channel) (msb_after role (selected (registers_at holding channel)) value param (msb_at holding other param))
    (msb_at holding other param)
msbs_follow bank_msb holding channel index value other param held within known range =
    kept_anywhere (eqb other channel) (msb_at holding other param)
msbs_follow bank_lsb holding channel index value other param held within known range =
    kept_anywhere (eqb other channel) (msb_at holding other param)
msbs_follow data_msb holding channel index value other param held within known range =
    entry (selected (registers_at holding channel)) range.2
  where
    entry : (o : Option Param) → IfSome o IsParam
        → msb_at (with_entry o channel value holding) other param
        ≡ cond (eqb other channel) (msb_after data_msb o value param (msb_at holding other param)) (msb_at holding other param)
    entry None r = kept_anywhere (eqb other channel) (msb_at holding other param)
    entry (Some q) r = msb_set holding.msbs channel other value q param held.1 within known r
msbs_follow data_lsb holding channel index value other param held within known range =
    kept_anywhere (eqb other channel) (msb_at holding other param)
msbs_follow data_increment holding channel index value other param held within known range =
    kept_anywhere (eqb other channel) (msb_at holding other param)
msbs_follow data_decrement holding channel index value other param held within known range =
    kept_anywhere (eqb other channel) (msb_at holding other param)
msbs_follow (number_msb kind) holding channel index value other param held within known range =
    kept_anywhere (eqb other channel) (msb_at holding other param)
msbs_follow (number_lsb kind) holding channel index value other param held within known range =
    kept_anywhere (eqb other channel) (msb_at holding other param)
msbs_follow reset_all holding channel index value other param held within known range =
    kept_anywhere (eqb other channel) (msb_at holding other param)
msbs_follow channel_mode holding channel index value other param held within known range =
    kept_anywhere (eqb other channel) (msb_at holding other param)
msbs_follow coarse holding channel index value other param held within known range =
    kept_anywhere (eqb other channel) (msb_at holding other param)
msbs_follow fine holding channel index value other param held within known range =
    kept_anywhere (eqb other channel) (msb_at holding other param)
msbs_follow plain holding channel index value other param held within known range =
    kept_anywhere (eqb other channel) (msb_at holding other param)

-- the MSB of one pair, after that of another is set
pair_set : (pairs : List ℕ) (channel other index pair msb : ℕ) → length pairs ≡ 512 → other < 16 → index < 32 → pair < 32 →
    get_or (set pairs (pair_place channel index) msb) (pair_place other pair) 0
    ≡ cond (eqb other channel) (cond (eqb pair index) msb (get_or pairs (pair_place other pair) 0)) (get_or pairs (pair_place other pair) 0)
pair_set pairs channel other index pair msb size within index_below pair_below = go (eqb other channel) refl (eqb pair index) refl
  where
    go : (t : Bool) → eqb other channel ≡ t → (u : Bool) → eqb pair index ≡ u →
        get_or (set pairs (pair_place channel index) msb) (pair_place other pair) 0
        ≡ cond t (cond u msb (get_or pairs (pair_place other pair) 0)) (get_or pairs (pair_place other pair) 0)
    go true e true f =
        let P : ℕ → Type 0 = λ place. get_or (set pairs place msb) (pair_place other pair) 0 ≡ msb in
        subst P (λ i. pair_place (eqb-true other channel e i) (eqb-true pair index f i))
        (get_or-set_same pairs (pair_place other pair) msb 0 (rw size (pair_place_below other pair within pair_below)))
    go true e false f =
        get_or-set_other pairs (pair_place channel index) (pair_place other pair) msb 0
        (λ same. eqb-false pair index f (pair_place_same other channel pair index pair_below index_below same).1)
    go false e u f =
        get_or-set_other pairs (pair_place channel index) (pair_place other pair) msb 0
        (λ same. eqb-false other channel e (pair_place_same other channel pair index pair_below index_below same).0)

pairs_follow : (role : Role) (holding : Holding) (channel index value other pair : ℕ) → role ≡ pairing holding.paired (role_of index)
    → IsHolding holding → other < 16 → pairing holding.paired (role_of pair) ≡ coarse →
    pair_at (holding_after role holding channel index value) other pair
    ≡ cond (eqb other channel) (pair_after role index value pair (pair_at holding other pair)) (pair_at holding other pair)
pairs_follow bank_msb holding channel index value other pair e held within is =
    kept_anywhere (eqb other channel) (pair_at holding other pair)
pairs_follow bank_lsb holding channel index value other pair e held within is =
    kept_anywhere (eqb other channel) (pair_at holding other pair)
pairs_follow data_msb holding channel index value other pair e held within is = entry (selected (registers_at holding channel))
  where
    entry : (o : Option Param)
        → pair_at (with_entry o channel value holding) other pair
        ≡ cond (eqb other channel) (pair_at holding other pair) (pair_at holding other pair)
    entry None = kept_anywhere (eqb other channel) (pair_at holding other pair)
    entry (Some q) = kept_anywhere (eqb other channel) (pair_at holding other pair)
pairs_follow data_lsb holding channel index value other pair e held within is =
    kept_anywhere (eqb other channel) (pair_at holding other pair)
pairs_follow data_increment holding channel index value other pair e held within is =
    kept_anywhere (eqb other channel) (pair_at holding other pair)
pairs_follow data_decrement holding channel index value other pair e held within is =
    kept_anywhere (eqb other channel) (pair_at holding other pair)
pairs_follow (number_msb kind) holding channel index value other pair e held within is =
    kept_anywhere (eqb other channel) (pair_at holding other pair)
pairs_follow (number_lsb kind) holding channel index value other pair e held within is =
    kept_anywhere (eqb other channel) (pair_at holding other pair)
pairs_follow reset_all holding channel index value other pair e held within is =
    let size : length holding.pairs ≡ 512 = held.2 (only_paired holding.paired (role_of pair) is) in
    let once : List ℕ = set holding.pairs (pair_place channel 11) 127 in
    let below : pair < 32 = pair_index holding.paired pair is in
    pair_set once channel other 1 pair 0 (length-set holding.pairs (pair_place channel 11) 127 ∙ size) within (omega arith) below
    ∙ ap (λ msb. cond (eqb other channel) (cond (eqb pair 1) 0 msb) msb)
    (pair_set holding.pairs channel other 11 pair 127 size within (omega arith) below)
    ∙ twice (eqb other channel) (eqb pair 1) (eqb pair 11) (pair_at holding other pair)
  where
    twice : (t u v : Bool) (msb : ℕ)
        → cond t (cond u 0 (cond t (cond v 127 msb) msb)) (cond t (cond v 127 msb) msb) ≡ cond t (cond u 0 (cond v 127 msb)) msb
    twice true u v msb = refl
    twice false u v msb = refl
pairs_follow channel_mode holding channel index value other pair e held within is =
    kept_anywhere (eqb other channel) (pair_at holding other pair)
pairs_follow coarse holding channel index value other pair e held within is =
    pair_set holding.pairs channel other index pair value (held.2 (only_paired holding.paired (role_of pair) is)) within
    (pair_index holding.paired index (sym e)) (pair_index holding.paired pair is)
pairs_follow fine holding channel index value other pair e held within is = kept_anywhere (eqb other channel) (pair_at holding other pair)
pairs_follow plain holding channel index value other pair e held within is = kept_anywhere (eqb other channel) (pair_at holding other pair)

-- sizes stay
pub held_after : (role : Role) (holding : Holding) (channel index value : ℕ) → IsHolding holding
    → IsHolding (holding_after role holding channel index value)
held_after bank_msb holding channel index value held = (length-set holding.registers channel _ ∙ held.0, held.1, held.2)
held_after bank_lsb holding channel index value held = (length-set holding.registers channel _ ∙ held.0, held.1, held.2)
held_after data_msb holding channel index value held = entry (selected (registers_at holding channel))
  where
    entry : (o : Option Param) → IsHolding (with_entry o channel value holding)
    entry None = held
    entry (Some q) = (held.0, length-set holding.msbs (place_of channel q) value ∙ held.1, held.2)
held_after data_lsb holding channel index value held = held
held_after data_increment holding channel index value held = held
held_after data_decrement holding channel index value held = held
held_after (number_msb kind) holding channel index value held = (length-set holding.registers channel _ ∙ held.0, held.1, held.2)
held_after (number_lsb kind) holding channel index value held = (length-set holding.registers channel _ ∙ held.0, held.1, held.2)
held_after reset_all holding channel index value held = (
  length-set holding.registers channel _ ∙ held.0,
  held.1,
  λ paired. length-set (set holding.pairs (pair_place channel 11) 127) (pair_place channel 1) 0
      ∙ length-set holding.pairs (pair_place channel 11) 127
      ∙ held.2 paired,
)
held_after channel_mode holding channel index value held = held
held_after coarse holding channel index value held =
    (held.0, held.1, λ paired. length-set holding.pairs (pair_place channel index) value ∙ held.2 paired)
held_after fine holding channel index value held = held
held_after plain holding channel index value held = held

-- and so does whether controllers are paired
pub paired_stays : (role : Role) (holding : Holding) (channel index value : ℕ)
    → (holding_after role holding channel index value).paired ≡ holding.paired
paired_stays data_msb holding channel index value = entry (selected (registers_at holding channel))
  where
    entry : (o : Option Param) → (with_entry o channel value holding).paired ≡ holding.paired
    entry None = refl
    entry (Some q) = refl
paired_stays _ holding channel index value = refl

-- ---- a group

keeps_after : (role : Role) (holding : Holding) (group : GroupState) (channel index value : ℕ)
    → role ≡ pairing holding.paired (role_of index) → IsHolding holding
    → EntryInRange role channel (selected (registers_at holding channel)) value → Keeps holding group →
    Keeps (holding_after role holding channel index value) (at_channel channel (control (of_bytes holding.paired) role index value) group)
keeps_after role holding group channel index value e held range keeps = record {
  registers = λ other within.
      registers_follow role holding channel index value other (rw held.0 within)
      ∙ registers_test (eqb other channel) (registers_at holding other) (group.channels other) (keeps.registers other within);
  msbs = λ other param within known.
      msbs_follow role holding channel index value other param held within known range
      ∙ msb_test other param within known (eqb other channel) refl;
  pairs = λ other pair within is.
      let same : pairing holding.paired (role_of pair) ≡ coarse =
      subst (λ p. pairing p (role_of pair) ≡ coarse) (paired_stays role holding channel index value) is in
      pairs_follow role holding channel index value other pair e held within same
      ∙ pair_test other pair within same (eqb other channel);
}
  where
    registers_test : (t : Bool) (r : Registers) (ch : Channel) → r ≡ ch.registers
        → cond t (registers_after role value r) r ≡ (cond t (control (of_bytes holding.paired) role index value ch) ch).registers
    registers_test true r ch e = ap (registers_after role value) e ∙ registers_meant holding.paired role index value ch
    registers_test false r ch e = e

    here : (other : ℕ) (param : Param) → other ≡ channel → other < 16 → IsParam param →
        msb_after role (selected (registers_at holding channel)) value param (msb_at holding other param)
        ≡ value_of (control (of_bytes holding.paired) role index value (group.channels other)) param / 128
    here other param same within known =
        let at : registers_at holding channel ≡ (group.channels other).registers =
        ap (registers_at holding) (sym same) ∙ keeps.registers other within in
        let P : Registers → Type 0 = λ r. EntryInRange role channel (selected r) value in
        (λ i. msb_after role (selected (at i)) value param (keeps.msbs other param within known i))
        ∙ msb_meant holding.paired role channel index value (group.channels other) param (subst P at range)

    msb_test : (other : ℕ) (param : Param) → other < 16 → IsParam param → (t : Bool) → eqb other channel ≡ t →
        cond t (msb_after role (selected (registers_at holding channel)) value param (msb_at holding other param))
        (msb_at holding other param)
        ≡ value_of (cond t (control (of_bytes holding.paired) role index value (group.channels other)) (group.channels other)) param / 128
    msb_test other param within known true e = here other param (eqb-true other channel e) within known
    msb_test other param within known false e = keeps.msbs other param within known

    pair_test : (other pair : ℕ) → other < 16 → pairing holding.paired (role_of pair) ≡ coarse → (t : Bool) →
        cond t (pair_after role index value pair (pair_at holding other pair)) (pair_at holding other pair)
        ≡ controller_of (cond t (control (of_bytes holding.paired) role index value (group.channels other)) (group.channels other)) pair
        / 128
    pair_test other pair within is true =
        ap (pair_after role index value pair) (keeps.pairs other pair within is)
        ∙ pair_meant holding.paired role channel index value (group.channels other) (selected (registers_at holding channel)) pair e range
        is
    pair_test other pair within is false = keeps.pairs other pair within is

-- the channel of an entry or a half of a pair is one of sixteen
abbrev IsNumber : Role → Type 0
IsNumber data_msb = Unit {0}
IsNumber data_lsb = Unit {0}
IsNumber coarse = Unit {0}
IsNumber fine = Unit {0}
IsNumber _ = ⊥

channel_range : (role : Role) (channel : ℕ) (param : Option Param) (value : ℕ) → IsNumber role → EntryInRange role channel param value
    → channel < 16
channel_range data_msb channel param value entry range = range.0
channel_range data_lsb channel param value entry range = range.0
channel_range coarse channel param value entry range = range.0
channel_range fine channel param value entry range = range.0
channel_range _ channel param value entry range = absurd entry

param_range : (role : Role) (channel : ℕ) (param : Option Param) (value : ℕ) → IsEntry role → EntryInRange role channel param value
    → IfSome param IsParam
param_range data_msb channel param value entry range = range.2
param_range data_lsb channel param value entry range = range.2
param_range _ channel param value entry range = absurd entry

number_of_entry : (role : Role) → IsEntry role → IsNumber role
number_of_entry data_msb entry = tt
number_of_entry data_lsb entry = tt
number_of_entry _ entry = absurd entry

number_of_fine : (role : Role) → role ≡ fine → IsNumber role
number_of_fine fine e = tt
number_of_fine _ e = cc

-- what is known of the MSBs of the channel
knows : (role : Role) (holding : Holding) (group : GroupState) (channel index value : ℕ) → role ≡ pairing holding.paired (role_of index)
    → EntryInRange role channel (selected (registers_at holding channel)) value → Keeps holding group →
    Knows holding.paired role index (group.channels channel) (msb_at holding channel) (pair_at holding channel)
knows role holding group channel index value e range keeps = record {
  entries = λ entry param is.
      let within : channel < 16 =
      channel_range role channel (selected (registers_at holding channel)) value (number_of_entry role entry) range in
      let at : registers_at holding channel ≡ (group.channels channel).registers = keeps.registers channel within in
      keeps.msbs channel param within (subst (λ o. IfSome o IsParam) (ap selected at ∙ is)
      (param_range role channel (selected (registers_at holding channel)) value entry range));
  pairs_are = λ is_fine.
      keeps.pairs channel (index - 32)
      (channel_range role channel (selected (registers_at holding channel)) value (number_of_fine role is_fine) range)
      (pair_coarse holding.paired index (sym e ∙ is_fine));
}

number_kept : (role : Role) (holding : Holding) (group : GroupState) (channel index value : ℕ) → IsNumber role
    → role ≡ pairing holding.paired (role_of index) → EntryInRange role channel (selected (registers_at holding channel)) value
    → Keeps holding group →
    answer_of role holding channel index value
    ≡ answer_by role index (selected (group.channels channel).registers)
    (value_of (control (of_bytes holding.paired) role index value (group.channels channel)))
    (controller_of (control (of_bytes holding.paired) role index value (group.channels channel)))
number_kept role holding group channel index value number e range keeps =
    let at : registers_at holding channel ≡ (group.channels channel).registers =
    keeps.registers channel (channel_range role channel (selected (registers_at holding channel)) value number range) in
    ap (λ r. answer_by role index (selected r) (λ param. value_after role value (msb_at holding channel param))
    (λ pair. value_after role value (pair_at holding channel pair)))
    at
    ∙ answer_meant holding.paired role index value (group.channels channel) (msb_at holding channel) (pair_at holding channel)
    (knows role holding group channel index value e range keeps)

answer_kept : (role : Role) (holding : Holding) (group : GroupState) (channel index value : ℕ)
    → role ≡ pairing holding.paired (role_of index) → EntryInRange role channel (selected (registers_at holding channel)) value
    → Keeps holding group →
    answer_of role holding channel index value
    ≡ answer_by role index (selected (group.channels channel).registers)
    (value_of (control (of_bytes holding.paired) role index value (group.channels channel)))
    (controller_of (control (of_bytes holding.paired) role index value (group.channels channel)))
answer_kept data_msb holding group channel index value e range keeps =
    number_kept data_msb holding group channel index value tt e range keeps
answer_kept data_lsb holding group channel index value e range keeps =
    number_kept data_lsb holding group channel index value tt e range keeps
answer_kept coarse holding group channel index value e range keeps = number_kept coarse holding group channel index value tt e range keeps
answer_kept fine holding group channel index value e range keeps = number_kept fine holding group channel index value tt e range keeps
answer_kept _ holding group channel index value e range keeps = refl

-- a control change is what it means
pub step_meant : (role : Role) (old new : Holding) (channel index value : ℕ) (answer : Collected)
    → role ≡ pairing old.paired (role_of index) → IsHolding old → EntryInRange role channel (selected (registers_at old channel)) value →
    answer ≡ answer_of role old channel index value → new ≡ holding_after role old channel index value
    → IsMeant old new channel index value answer
step_meant role old new channel index value answer role_is held range answer_is behind group keeps =
    let ch : Channel = group.channels channel in
    let scale = of_bytes old.paired in
    let P : Role → Type 0 = λ r. Keeps new (at_channel channel (control scale r index value) group) in
    let Q : Holding → Type 0 = λ h. Keeps h (at_channel channel (control scale role index value) group) in
    let after : Channel = (control_step old.paired group channel index value).channels channel in
    let here : control scale role index value ch ≡ after =
    (λ i. cond (sym (eq-eqb channel channel refl) i) (control scale role index value ch) ch)
    ∙ ap (λ r. cond (eqb channel channel) (control scale r index value ch) ch) role_is in (
      subst P role_is (subst Q (sym behind) (keeps_after role old group channel index value role_is held range keeps)),
      answer_is
          ∙ answer_kept role old group channel index value role_is range keeps
          ∙ ap (λ c. answer_by role index (selected ch.registers) (value_of c) (controller_of c)) here
          ∙ ap (λ r. answer_by r index (selected ch.registers) (value_of after) (controller_of after)) role_is,
    )

entry_in_range : (role : Role) (channel : ℕ) (param : Option Param) (value : ℕ) → AreInRange channel param value
    → EntryInRange role channel param value
entry_in_range data_msb channel param value range = range
entry_in_range data_lsb channel param value range = range
entry_in_range coarse channel param value range = (range.0, range.1)
entry_in_range fine channel param value range = (range.0, range.1)
entry_in_range reset_all channel param value range = range.0
entry_in_range _ channel param value range = tt

pub control_meant : (holding : Holding) (channel index value : ℕ) → IsHolding holding
    → AreInRange channel (selected (registers_at holding channel)) value →
    IsMeant holding (holding_after (pairing holding.paired (role_of index)) holding channel index value) channel index value
    (answer_of (pairing holding.paired (role_of index)) holding channel index value)
control_meant holding channel index value held range =
    let role : Role = pairing holding.paired (role_of index) in
    step_meant role holding (holding_after role holding channel index value) channel index value
    (answer_of role holding channel index value) refl held
    (entry_in_range role channel (selected (registers_at holding channel)) value range) refl refl

-- ---- a fresh collector

pub length_zeros : (count : ℕ) → length (zeros count) ≡ count
unfolding zeros
length_zeros count = length-replicate count 0

zeros_read : (count i : ℕ) → i < count → get_or (zeros count) i 0 ≡ 0
unfolding zeros
zeros_read count i below = get_or-replicate count i 0 0 below

-- which of them there are doesn't matter
zeros_at : (count i : ℕ) → get_or {A = ℕ} (replicate count 0) i 0 ≡ 0
zeros_at count i =
    ⊎_elim (λ below. get_or-replicate count i 0 0 below)
    (λ past. get_or_past (replicate count 0) i 0 (rw (length-replicate {A = ℕ} count 0) past)) (cases_lt i count)

zeros_anywhere : (count i : ℕ) → get_or (zeros count) i 0 ≡ 0
unfolding zeros
zeros_anywhere count i = zeros_at count i

pub start_kept : (registers : List Registers) (msbs : List ℕ) (paired : Bool) (pairs : List ℕ) → registers ≡ replicate 16 unset_registers
    → msbs ≡ zeros 524288 → pairs ≡ zeros (pair_count paired) →
    Keeps (record { registers = registers; msbs = msbs; paired = paired; pairs = pairs }) (start as_they_come)
start_kept registers msbs paired pairs unset zero none = record {
  registers =
      λ channel within. ap (λ list. get_or list channel unset_registers) unset
      ∙ get_or-replicate 16 channel unset_registers unset_registers within;
  msbs =
      λ channel param within known. ap (λ list. get_or list (place_of channel param) 0) zero
      ∙ zeros_read 524288 (place_of channel param) (place_below channel param within known);
  pairs =
      λ channel index within is. ap (λ list. get_or list (pair_place channel index) 0) none
      ∙ zeros_anywhere (pair_count paired) (pair_place channel index);
}

-- a table that is filled with 0
pub filled : (count size filler : ℕ) (items : List ℕ) → filler ≡ 0 → size ≡ count → items ≡ replicate size filler → items ≡ zeros count
unfolding zeros
filled count size filler items is_zero sized all = all ∙ ap (replicate size) is_zero ∙ ap (λ n. replicate n 0) sized

-- registers of which none is set
pub unset_each : (size done : ℕ) (channels : List Registers) → length channels ≡ size → size ≤ done
    → ((k : ℕ) → k < done → get_or channels k unset_registers ≡ unset_registers) → channels ≡ replicate size unset_registers
unset_each size done channels sized whole unset =
    ext_get_or unset_registers channels (replicate size unset_registers) (sized ∙ sym (length-replicate size unset_registers))
    (λ k below.
    let within : k < size = omega (arith, below, sized) in
    unset k (omega (arith, within, whole)) ∙ sym (get_or-replicate size k unset_registers unset_registers within))

-- the pairs of a collector, by whether controllers are paired
pub pairs_counted : (paired : Bool) (pairs : List ℕ) → (paired ≡ true → length pairs ≡ 512) → (paired ≡ false → length pairs ≡ 0)
    → length pairs ≡ pair_count paired
pairs_counted true pairs paired_size unpaired_size = paired_size refl
pairs_counted false pairs paired_size unpaired_size = unpaired_size refl

-- ---- a collector that forgets

pub unset_again : {Z : Type 0} (old : Vec Registers Z) (lent new : List Registers) → lent ≡ old.items → length lent ≡ vec_len old
    → length old.items ≡ 16 → new ≡ replicate (length lent) unset_registers → (with_items old new).items ≡ replicate 16 unset_registers
unset_again old lent new same counted sixteen unset =
    let size : length new ≡ vec_len old = ap length unset ∙ length-replicate (length lent) unset_registers ∙ counted in
    with_items_is old new size ∙ unset ∙ ap (λ n. replicate n unset_registers) (ap length same ∙ sixteen)

pub pairs_again : (paired : Bool) (old new : List ℕ) → (paired ≡ true → length old ≡ 512) → (paired ≡ false → length old ≡ 0)
    → new ≡ zeros (length old) → new ≡ zeros (pair_count paired)
pairs_again paired old new paired_size unpaired_size cleared = cleared ∙ ap zeros (pairs_counted paired old paired_size unpaired_size)

pub fresh_again : (paired now : Bool) (registers : List Registers) (msbs pairs : List ℕ) → registers ≡ replicate 16 unset_registers
    → msbs ≡ zeros 524288 → pairs ≡ zeros (pair_count paired) → paired ≡ now →
    record { registers = registers; msbs = msbs; paired = paired; pairs = pairs } ≡ fresh now
fresh_again paired now registers msbs pairs unset none none_paired same = λ i. record {
  registers = unset i;
  msbs = none i;
  paired = same i;
  pairs = (none_paired ∙ ap (λ q. zeros (pair_count q)) same) i;
}

pub sizes_again : (paired : Bool) (registers : List Registers) (msbs pairs : List ℕ) → registers ≡ replicate 16 unset_registers
    → msbs ≡ zeros 524288 → pairs ≡ zeros (pair_count paired) →
    (length registers ≡ 16) × (length msbs ≡ 524288) × (paired ≡ true → length pairs ≡ 512) × (paired ≡ false → length pairs ≡ 0)
sizes_again paired registers msbs pairs unset none none_paired = (
  ap length unset ∙ length-replicate 16 unset_registers,
  ap length none ∙ length_zeros 524288,
  λ is. ap length none_paired ∙ length_zeros (pair_count paired) ∙ ap pair_count is,
  λ is. ap length none_paired ∙ length_zeros (pair_count paired) ∙ ap pair_count is,
)
