-- Folding the table's step over parts of all streams is the definition.
use Rattle.std.proofs.Common.{ℕ, ◌≡◌, ◌<◌, ◌≤◌, ◌+◌, ◌∙◌, zero, suc, ap, sym, refl, subst, List, [], ◌∷◌, length, Option, Some, None}
use Rattle.std.proofs.Common.{is_some, Bool, true, false, cond, arith, replicate, slice_set, slice_index_or, ◌==◌, ◌++◌, inl, inr, nat_lt}
use Rattle.std.specs.List.{count_by, position}
use Rattle.std.specs.Option.{option_map, is_none}
use Rattle.std.proofs.lemmas.Bool.{cases_Bool, cond-true, eqb-true, eq-eqb, ne_eqb, true≢false}
use Rattle.std.proofs.lemmas.List.{length-set, length-replicate}
use Rattle.std.proofs.lemmas.List.Sums.{get_or-le-sum_by}
use Rattle.std.proofs.lemmas.List.Quantifiers.{position-Some}
use Rattle.voice_messages.specs.declared.voice2.Form.{Form}
use Rattle.voice_messages.specs.declared.voice2.Form.TheVariants as form
use Rattle.sysex_groups.specs.Exclusives.{Part, opened, fits}
use Rattle.sysex_groups.specs.Laws.{PartsOfOneGroup}
use Rattle.sysex_groups.specs.Table.{Begun, begun_after, begun_over}
use Rattle.sysex8_streams.specs.History.{full8, held8, whole8, too_long8, is_begun, begun_count}
use Rattle.sysex8_streams.specs.History.{is_taken_by, is_taken, with_taken, taken, answer8}
use Rattle.sysex8_streams.specs.Table.{Slot8, Table8, AreParts8, is_of, begun_among, begun8_in, idle_slot, slot_with}
use Rattle.sysex8_streams.specs.Table.{slots_with, slots_after, with_part8, table8_over, answer8_of, answer_begun, answer8_to}
use Rattle.sysex8_streams.proofs.CountLaws.{one}
use Rattle.sysex8_streams.proofs.HistoryLaws.{begun-own, begun-other, begun-is, count-more, taken-begun, taken-fewer, answer-opened}
use Rattle.sysex8_streams.proofs.SlotLaws.{slots-cons, slots-set, none-found, idle-fewer, begun-none, begun-found, begun-set_own}
use Rattle.sysex8_streams.proofs.SlotLaws.{begun-set_other, is_of-own, is_of-other, is_of-one, is_of-some, is_of-idle}

-- the slots are those of the parts that were taken
pub record Agrees (slots room : ℕ) (past : List Part) (table : List Slot8) : Type 0 where
  pub begun : (key : ℕ) → begun_among key table ≡ begun_over (Some room) key past
  pub count : count_by is_some table ≡ begun_count room past
  pub once : (key : ℕ) → count_by (is_of key) table ≤ 1
  pub size : length table ≡ slots

none-idle : (p : Slot8 → Bool) (slots : ℕ) → p None ≡ false → count_by p (replicate slots None) ≡ 0
none-idle p zero fails = refl
none-idle p (suc slots) fails = omega (arith, slots-cons p None (replicate slots None), ap one fails, none-idle p slots fails)

agrees-empty : (slots room : ℕ) → Agrees slots room [] (replicate slots None)
agrees-empty slots room = record {
  begun = λ key. begun-none key (replicate slots None) (none-idle (is_of key) slots refl);
  count = none-idle is_some slots refl;
  once = λ key. omega (arith, none-idle (is_of key) slots refl);
  size = length-replicate {A = Slot8} slots None;
}

one-most : (b : Bool) → one b ≤ 1
one-most true = omega arith
one-most false = omega arith

some-slot : (key : ℕ) (begun : Option Begun) → is_some (slot_with key begun) ≡ is_some begun
some-slot key None = refl
some-slot key (Some begun) = refl

-- ---- a slot is filled or cleared

module _ (groups : PartsOfOneGroup) (slots room : ℕ) (part : Part) (past : List Part) (table : List Slot8) (least : 13 ≤ room)
    (few : length part.bytes ≤ 13) (agrees : Agrees slots room past table) where
  abbrev own : ℕ
  own = part.group

  abbrev new : Option Begun
  new = begun_after (Some room) (begun_among own table) part.form part.bytes part.offset

  -- what the part's stream has begun after it, by the definition
  new-is : begun_over (Some room) own (part ∷ past) ≡ new
  new-is =
      begun-own groups room part past least few own (eq-eqb own own refl)
      ∙ ap (λ b. begun_after (Some room) b part.form part.bytes part.offset) (sym (agrees.begun own))

  counted : begun_count room (part ∷ past) + one (is_some (begun_among own table)) ≡ begun_count room past + one (is_some new)
  counted = omega (arith, count-more groups room part past, ap (λ b. one (is_some b)) (agrees.begun own), ap (λ b. one (is_some b)) new-is)

  -- the part isn't kept, and its stream has no slot
  unkept : begun_among own table ≡ None → new ≡ None → Agrees slots room (part ∷ past) table
  unkept nothing dropped = record {
    begun = λ key. elim (cases_Bool (own == key)) [
      | inl same ↦
          let P : ℕ → Type 0 = λ k. begun_among k table ≡ begun_over (Some room) k (part ∷ past) in
          subst P (eqb-true own key same) (nothing ∙ sym dropped ∙ sym new-is)
      | inr other ↦ agrees.begun key ∙ sym (begun-other groups room part past key other)
    ];
    count = omega (arith, agrees.count, counted, ap (λ b. one (is_some b)) nothing, ap (λ b. one (is_some b)) dropped);
    once = agrees.once;
    size = agrees.size;
  }

  module _ (i : ℕ) (within : i < length table) where
    abbrev old : Slot8
    old = slice_index_or table i None

    -- the stream's slot, or an idle one for a stream that has none
    pub record IsFree : Type 0 where
      pub others : (key : ℕ) → (own == key) ≡ false → is_of key old ≡ false
      pub before : (k : ℕ) → k < i → is_of own (slice_index_or table k None) ≡ false
      pub some : is_some old ≡ is_some (begun_among own table)
      pub alone : one (is_of own old) ≡ count_by (is_of own) table

    begun-put : IsFree → (b : Option Begun) → begun_among own (slice_set table i (slot_with own b)) ≡ b
    begun-put free (Some b) = begun-set_own own table i (slot_with own (Some b)) within (is_of-own own b) free.before
    begun-put free None = begun-none own (slice_set table i None) (omega (arith, slots-set (is_of own) table i None within, free.alone))

    put : IsFree → Agrees slots room (part ∷ past) (slice_set table i (slot_with own new))
    put free =
        let slot : Slot8 = slot_with own new in
        record {
          begun = λ key. elim (cases_Bool (own == key)) [
            | inl same ↦
                let P : ℕ → Type 0 = λ k. begun_among k (slice_set table i slot) ≡ begun_over (Some room) k (part ∷ past) in
                subst P (eqb-true own key same) (begun-put free new ∙ sym new-is)
            | inr other ↦
                begun-set_other key table i slot within (is_of-other own key new other) (free.others key other)
                ∙ agrees.begun key
                ∙ sym (begun-other groups room part past key other)
          ];
          count = omega (arith, agrees.count, counted, slots-set is_some table i slot within, ap one free.some, ap one (some-slot own new));
          once = λ key. elim (cases_Bool (own == key)) [
            | inl same ↦
                let P : ℕ → Type 0 = λ k. count_by (is_of k) (slice_set table i slot) ≤ 1 in
                subst P (eqb-true own key same)
                (omega (arith, slots-set (is_of own) table i slot within, free.alone, one-most (is_of own slot)))
            | inr other ↦ omega (arith, slots-set (is_of key) table i slot within, agrees.once key, ap one (is_of-other own key new other))
          ];
          size = length-set table i slot ∙ agrees.size;
        }

  -- the slot of the stream
  own-put : (i : ℕ) → position (is_of own) table ≡ Some i
      → Agrees slots room (with_taken slots room past part) (slice_set table i (slot_with own new))
  own-put i found =
      let at : (i < length table) × (is_of own (slice_index_or table i None) ≡ true)
      × ((k : ℕ) → k < i → is_of own (slice_index_or table k None) ≡ false) =
      position-Some (is_of own) table i None found in
      let slot : Slot8 = slice_index_or table i None in
      let begun : is_some (begun_among own table) ≡ is_some slot = ap is_some (begun-found own table i at.0 at.1 at.2) ∙ mapped slot in
      let here : one (is_of own slot) ≤ count_by (is_of own) table = get_or-le-sum_by (λ s. one (is_of own s)) table i None at.0 in
      let is : is_begun room past own ≡ true =
      begun-is room past own ∙ ap is_some (sym (agrees.begun own)) ∙ begun ∙ is_of-some own slot at.1 in
      let accepted : is_taken slots room past part ≡ true =
      ap (λ b. is_taken_by part.form b (nat_lt (begun_count room past) slots)) is
      ∙ taken-begun part.form (nat_lt (begun_count room past) slots) in
      let P : List Part → Type 0 = λ parts. Agrees slots room parts (slice_set table i (slot_with own new)) in
      subst P (sym (cond-true (is_taken slots room past part) (part ∷ past) past accepted))
      (put i at.0 (record {
        others = λ key other. is_of-one own key slot at.1 other;
        before = at.2;
        some = sym begun;
        alone = omega (arith, here, agrees.once own, ap one at.1);
      }))
    where
      mapped : (s : Slot8) → is_some (option_map (λ stream. stream.begun) s) ≡ is_some s
      mapped None = refl
      mapped (Some stream) = refl

  -- an idle slot, for a stream that has none
  idle-put : (i : ℕ) → position (is_of own) table ≡ None → idle_slot table ≡ Some i
      → Agrees slots room (part ∷ past) (slice_set table i (slot_with own new))
  idle-put i none found =
      let at : (i < length table) × (is_none (slice_index_or table i None) ≡ true)
      × ((k : ℕ) → k < i → is_none (slice_index_or table k None) ≡ false) =
      position-Some is_none table i None found in
      let slot : Slot8 = slice_index_or table i None in
      let absent : count_by (is_of own) table ≡ 0 = none-found (is_of own) table none in
      put i at.0 (record {
        others = λ key other. is_of-idle key slot at.1;
        before = λ k below. absent_at k (omega (arith, at.0)) absent;
        some = idle_none slot at.1 ∙ ap is_some (sym (begun-none own table absent));
        alone = ap one (is_of-idle own slot at.1) ∙ sym absent;
      })
    where
      idle_none : (s : Slot8) → is_none s ≡ true → is_some s ≡ false
      idle_none None idle = refl
      idle_none (Some stream) idle = absurd (true≢false (sym idle))

      absent_at : (k : ℕ) → k < length table → count_by (is_of own) table ≡ 0 → is_of own (slice_index_or table k None) ≡ false
      absent_at k below absent = elim (cases_Bool (is_of own (slice_index_or table k None))) [
        | inl has ↦ absurd (omega (arith, get_or-le-sum_by (λ s. one (is_of own s)) table k None below, ap one has, absent))
        | inr hasnt ↦ hasnt
      ]

-- ---- one more part

-- a part of a stream that has no slot, by its form and by whether a slot is idle
without-slot : (groups : PartsOfOneGroup) (slots room key : ℕ) (bytes : List ℕ) (offset : ℕ) (past : List Part) (table : List Slot8)
    → 13 ≤ room → length bytes ≤ 13 → Agrees slots room past table → position (is_of key) table ≡ None →
    (f : Form) (e : Option ℕ) → idle_slot table ≡ e →
    Agrees slots room (with_taken slots room past (record { group = key; form = f; bytes = bytes; offset = offset }))
    (slots_with key (begun_after (Some room) (begun_among key table) f bytes offset) None e table)
without-slot groups slots room key bytes offset past table least few agrees none f e idle = go f e idle
  where
    nothing : begun_among key table ≡ None
    nothing = begun-none key table (none-found (is_of key) table none)

    go : (f : Form) (e : Option ℕ) → idle_slot table ≡ e
        → Agrees slots room (with_taken slots room past (record { group = key; form = f; bytes = bytes; offset = offset }))
        (slots_with key (begun_after (Some room) (begun_among key table) f bytes offset) None e table)
    go form.Complete e idle =
        unkept groups slots room (record { group = key; form = form.Complete; bytes = bytes; offset = offset }) past table least few agrees
        nothing refl
    go form.End e idle =
        unkept groups slots room (record { group = key; form = form.End; bytes = bytes; offset = offset }) past table least few agrees
        nothing refl
    go form.Continue e idle =
        let P : Option Begun → Type 0 =
        λ b. Agrees slots room (record { group = key; form = form.Continue; bytes = bytes; offset = offset } ∷ past)
        (slots_with key (begun_after (Some room) b form.Continue bytes offset) None e table) in
        subst P (sym nothing) (unkept groups slots room (record { group = key; form = form.Continue; bytes = bytes; offset = offset }) past
        table least few agrees nothing (ap (λ b. begun_after (Some room) b form.Continue bytes offset) nothing))
    go form.Start (Some i) idle =
        let fewer : nat_lt (begun_count room past) slots ≡ true =
        ap (λ n. nat_lt n slots) (sym agrees.count)
        ∙ ap (λ n. nat_lt (count_by is_some table) n) (sym agrees.size)
        ∙ sym (idle-fewer table)
        ∙ ap is_some idle in
        let accepted : is_taken_by form.Start (is_begun room past key) (nat_lt (begun_count room past) slots) ≡ true =
        ap (is_taken_by form.Start (is_begun room past key)) fewer ∙ taken-fewer form.Start (is_begun room past key) in
        let P : Bool → Type 0 =
        λ b. Agrees slots room (cond b (record { group = key; form = form.Start; bytes = bytes; offset = offset } ∷ past) past)
        (slice_set table i (Some (record { key = key; begun = record { start = offset; bytes = bytes } }))) in
        subst P (sym accepted) (idle-put groups slots room (record { group = key; form = form.Start; bytes = bytes; offset = offset }) past
        table least few agrees i none idle)
    go form.Start None idle =
        let full : nat_lt (begun_count room past) slots ≡ false =
        ap (λ n. nat_lt n slots) (sym agrees.count)
        ∙ ap (λ n. nat_lt (count_by is_some table) n) (sym agrees.size)
        ∙ sym (idle-fewer table)
        ∙ ap is_some idle in
        let unbegun : is_begun room past key ≡ false = begun-is room past key ∙ ap is_some (sym (agrees.begun key)) ∙ ap is_some nothing in
        let refused : is_taken_by form.Start (is_begun room past key) (nat_lt (begun_count room past) slots) ≡ false =
        ap (λ b. is_taken_by form.Start b (nat_lt (begun_count room past) slots)) unbegun ∙ full in
        let P : Bool → Type 0 =
        λ b. Agrees slots room (cond b (record { group = key; form = form.Start; bytes = bytes; offset = offset } ∷ past) past) table in
        subst P (sym refused) agrees

agrees-more : (groups : PartsOfOneGroup) (slots room : ℕ) (part : Part) (past : List Part) (table : List Slot8) → 13 ≤ room
    → length part.bytes ≤ 13 → Agrees slots room past table →
    Agrees slots room (with_taken slots room past part) (slots_after room part table)
agrees-more groups slots room part past table least few agrees = go (position (is_of part.group) table) refl
  where
    go : (o : Option ℕ) → position (is_of part.group) table ≡ o →
        Agrees slots room (with_taken slots room past part)
        (slots_with part.group (begun_after (Some room) (begun_among part.group table) part.form part.bytes part.offset) o (idle_slot table)
        table)
    go (Some i) found = own-put groups slots room part past table least few agrees i found
    go None none =
        without-slot groups slots room part.group part.bytes part.offset past table least few agrees none part.form (idle_slot table) refl

table-room : (slots room : ℕ) (past : List Part) → (table8_over slots room past).room ≡ room
table-room slots room [] = refl
table-room slots room (part ∷ past) = table-room slots room past

agrees-after : (groups : PartsOfOneGroup) (slots room : ℕ) (past : List Part) → 13 ≤ room → AreParts8 past
    → Agrees slots room (taken slots room past) (table8_over slots room past).slots
agrees-after groups slots room [] least parts = agrees-empty slots room
agrees-after groups slots room (part ∷ past) least parts =
    let P : ℕ → Type 0 = λ r. Agrees slots room (taken slots room (part ∷ past)) (slots_after r part (table8_over slots room past).slots) in
    subst P (sym (table-room slots room past))
    (agrees-more groups slots room part (taken slots room past) (table8_over slots room past).slots least parts.0
    (agrees-after groups slots room past least parts.1))

-- what each stream has begun
pub table-begun : (groups : PartsOfOneGroup) (slots room : ℕ) (past : List Part) → 13 ≤ room → AreParts8 past → (key : ℕ)
    → begun8_in (table8_over slots room past) key ≡ begun_over (Some room) key (taken slots room past)
table-begun groups slots room past least parts key = (agrees-after groups slots room past least parts).begun key

-- the answer to one more part
pub table-answers : (groups : PartsOfOneGroup) (slots room : ℕ) (past : List Part) → 13 ≤ room → AreParts8 past → (part : Part)
    → answer8_to (table8_over slots room past) part ≡ answer8 slots room past part
table-answers groups slots room past least parts part =
    let older : List Part = taken slots room past in
    let table : Table8 = table8_over slots room past in
    let agrees : Agrees slots room older table.slots = agrees-after groups slots room past least parts in
    let idle : is_some (idle_slot table.slots) ≡ nat_lt (begun_count room older) slots =
    idle-fewer table.slots
    ∙ ap (λ n. nat_lt n (length table.slots)) agrees.count
    ∙ ap (λ n. nat_lt (begun_count room older) n) agrees.size in
    ap (λ r. answer8_of r (begun8_in table part.group) (is_some (idle_slot table.slots)) part.form part.bytes) (table-room slots room past)
    ∙ ap (λ begun. answer8_of room begun (is_some (idle_slot table.slots)) part.form part.bytes) (agrees.begun part.group)
    ∙ ap (λ fewer. answer8_of room (begun_over (Some room) part.group older) fewer part.form part.bytes) idle
    ∙ answer-opened room part.form part.bytes (opened (Some room) part.group older) (nat_lt (begun_count room older) slots)

-- ---- what stays

-- a stream that is begun isn't answered by Full
begun-taken : (room : ℕ) (begun : Begun) (f : Form) (bytes : List ℕ) → answer_begun room begun f bytes ≡ full8 → ⊥
begun-taken room begun form.Complete bytes is = cc
begun-taken room begun form.Start bytes is = cc
begun-taken room begun form.Continue bytes is = go (fits (Some room) (length (begun.bytes ++ bytes))) is
  where
    go : (t : Bool) → cond t held8 too_long8 ≡ full8 → ⊥
    go true e = cc
    go false e = cc
begun-taken room begun form.End bytes is = go (fits (Some room) (length (begun.bytes ++ bytes))) is
  where
    go : (t : Bool) → cond t (whole8 (begun.bytes ++ bytes)) too_long8 ≡ full8 → ⊥
    go true e = cc
    go false e = cc

-- Full leaves all as before
full-keeps : (room key : ℕ) (f : Form) (bytes : List ℕ) (offset : ℕ) (table : List Slot8)
    → answer8_of room (begun_among key table) (is_some (idle_slot table)) f bytes ≡ full8 →
    slots_with key (begun_after (Some room) (begun_among key table) f bytes offset) (position (is_of key) table) (idle_slot table) table
    ≡ table
full-keeps room key f bytes offset table full = go (position (is_of key) table) refl
  where
    unbegun : (f : Form) (e : Option ℕ) → answer8_of room None (is_some e) f bytes ≡ full8
        → slots_with key (begun_after (Some room) None f bytes offset) None e table ≡ table
    unbegun form.Complete e is = absurd cc
    unbegun form.Start None is = refl
    unbegun form.Start (Some i) is = absurd cc
    unbegun form.Continue e is = absurd cc
    unbegun form.End e is = absurd cc

    begun : (s : Slot8) → is_of key s ≡ true
        → answer8_of room (option_map (λ stream. stream.begun) s) (is_some (idle_slot table)) f bytes ≡ full8 → ⊥
    begun None has is = true≢false (sym has)
    begun (Some stream) has is = begun-taken room stream.begun f bytes is

    go : (o : Option ℕ) → position (is_of key) table ≡ o
        → slots_with key (begun_after (Some room) (begun_among key table) f bytes offset) o (idle_slot table) table ≡ table
    go (Some i) found =
        let at : (i < length table) × (is_of key (slice_index_or table i None) ≡ true)
        × ((k : ℕ) → k < i → is_of key (slice_index_or table k None) ≡ false) =
        position-Some (is_of key) table i None found in
        let P : Option Begun → Type 0 = λ b. answer8_of room b (is_some (idle_slot table)) f bytes ≡ full8 in
        absurd (begun (slice_index_or table i None) at.1 (subst P (begun-found key table i at.0 at.1 at.2) full))
    go None none =
        let nothing : begun_among key table ≡ None = begun-none key table (none-found (is_of key) table none) in
        let P : Option Begun → Type 0 = λ b. answer8_of room b (is_some (idle_slot table)) f bytes ≡ full8 in
        ap (λ b. slots_with key (begun_after (Some room) b f bytes offset) None (idle_slot table) table) nothing
        ∙ unbegun f (idle_slot table) (subst P nothing full)

pub table-full : (table : Table8) (part : Part) → answer8_to table part ≡ full8 → with_part8 part table ≡ table
table-full table part full =
    ap (λ s. record { room = table.room; slots = s }) (full-keeps table.room part.group part.form part.bytes part.offset table.slots full)

-- all other streams stay
pub table-others : (table : Table8) (part : Part) (key : ℕ) → (key ≡ part.group → ⊥)
    → begun8_in (with_part8 part table) key ≡ begun8_in table key
table-others table part key differ =
    go (begun_after (Some table.room) (begun_among part.group table.slots) part.form part.bytes part.offset)
    (position (is_of part.group) table.slots) refl (idle_slot table.slots) refl
  where
    other : (part.group == key) ≡ false
    other = ne_eqb part.group key (λ same. differ (sym same))

    go : (new : Option Begun) (o : Option ℕ) → position (is_of part.group) table.slots ≡ o → (e : Option ℕ) → idle_slot table.slots ≡ e →
        begun_among key (slots_with part.group new o e table.slots) ≡ begun_among key table.slots
    go new (Some i) found e idle =
        let at : (i < length table.slots) × (is_of part.group (slice_index_or table.slots i None) ≡ true)
        × ((k : ℕ) → k < i → is_of part.group (slice_index_or table.slots k None) ≡ false) =
        position-Some (is_of part.group) table.slots i None found in
        begun-set_other key table.slots i (slot_with part.group new) at.0 (is_of-other part.group key new other)
        (is_of-one part.group key (slice_index_or table.slots i None) at.1 other)
    go None None found e idle = refl
    go (Some begun) None found None idle = refl
    go (Some begun) None found (Some i) idle =
        let at : (i < length table.slots) × (is_none (slice_index_or table.slots i None) ≡ true)
        × ((k : ℕ) → k < i → is_none (slice_index_or table.slots k None) ≡ false) =
        position-Some is_none table.slots i None idle in
        begun-set_other key table.slots i (slot_with part.group (Some begun)) at.0 (is_of-other part.group key (Some begun) other)
        (is_of-idle key (slice_index_or table.slots i None) at.1)
