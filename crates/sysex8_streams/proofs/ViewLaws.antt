-- The table as the list of its slots.
use Rattle.std.proofs.Common.{ℕ, ◌≡◌, ◌<◌, ◌≤◌, ◌∙◌, ap, sym, refl, subst, List, [], ◌∷◌, length, Option, Some, None}
use Rattle.std.proofs.Common.{is_some, Bool, true, false, cond, not, All, map, replicate, slice_set, slice_index_or, ◌+◌, nat_lt}
use Rattle.std.specs.List.{AllWithin, position, position_or_len}
use Rattle.std.specs.Option.{option_map}
use Rattle.std.proofs.lemmas.Bool.{eqb-true, true≢false}
use Rattle.std.proofs.lemmas.List.{get_or-map, map-set, length-map}
use Rattle.std.proofs.lemmas.List.Elements.{AllWithin-upto, All-from_all_within, All-weaker}
use Rattle.std.proofs.lemmas.List.Quantifiers.{position-Some}
use Rattle.voice_messages.specs.declared.voice2.Form.{Form}
use Rattle.voice_messages.specs.declared.voice2.Form.TheVariants as form
use Rattle.sysex_groups.specs.Exclusives.{Part}
use Rattle.sysex_groups.specs.Table.{Begun, begun_after}
use Rattle.sysex8_streams.specs.declared.slot.Slot.{Slot}
use Rattle.sysex8_streams.specs.Slots.{slot8_of, state8_of, idle8, slot_answer, slot_after, begun_of, IsFor}
use Rattle.sysex8_streams.specs.Table.{Slot8, Table8, empty_table8, is_of, begun_among, begun8_in, idle_slot, slot_with}
use Rattle.sysex8_streams.specs.Table.{slots_with, with_part8, answer8_of, answer_unbegun, answer8_to}
use Rattle.sysex_groups.proofs.BufferLaws.{map-same}
use Rattle.sysex8_streams.proofs.SlotLaws.{none-found, begun-none, begun-found}

abbrev pub table_of : ℕ → List Slot → Table8
table_of room slots = record { room = room; slots = map slot8_of slots }

-- ---- the first slot that passes a test

place-map : (p : Slot8 → Bool) (slots : List Slot)
    → position_or_len (λ slot. p (slot8_of slot)) slots ≡ position_or_len p (map slot8_of slots)
place-map p [] = refl
place-map p (slot ∷ slots) = ap (λ n. cond (not (p (slot8_of slot))) (1 + n) 0) (place-map p slots)

pub position-map : (p : Slot8 → Bool) (slots : List Slot) → position (λ slot. p (slot8_of slot)) slots ≡ position p (map slot8_of slots)
position-map p slots =
    ap (λ n. cond (nat_lt n (length slots)) (Some n) None) (place-map p slots)
    ∙ ap (λ m. cond (nat_lt (position_or_len p (map slot8_of slots)) m) (Some (position_or_len p (map slot8_of slots))) None)
    (sym (length-map slots slot8_of))

-- ---- a stream that has a slot

-- what the slot at the stream's place is
record IsAt (key : ℕ) (table : List Slot8) (i : ℕ) (slot : Slot8) : Type 0 where
  pub own : is_of key slot ≡ true
  pub begun : begun_among key table ≡ begun_of slot

found-at : (key : ℕ) (slots : List Slot) (i : ℕ) (slot : Slot) → position (is_of key) (map slot8_of slots) ≡ Some i
    → slot ≡ slice_index_or slots i slot → IsAt key (map slot8_of slots) i (slot8_of slot)
found-at key slots i slot found is =
    let table : List Slot8 = map slot8_of slots in
    let at : (i < length table) × (is_of key (slice_index_or table i None) ≡ true)
    × ((k : ℕ) → k < i → is_of key (slice_index_or table k None) ≡ false) =
    position-Some (is_of key) table i None found in
    let within : i < length slots = subst (λ (n : ℕ). i < n) (length-map slots slot8_of) at.0 in
    let same : slice_index_or table i None ≡ slot8_of slot = get_or-map slot8_of slots i slot None within ∙ ap slot8_of (sym is) in
    record {
      own = ap (is_of key) (sym same) ∙ at.1;
      begun = begun-found key table i at.0 at.1 at.2 ∙ ap begun_of same;
    }

is_of-for : (key : ℕ) (slot : Slot8) → is_of key slot ≡ true → IsFor key slot
is_of-for key slot own = λ stream is. eqb-true stream.key key (subst (λ (s : Slot8). is_of key s ≡ true) is own)

pub within-found : (key room : ℕ) (now : Table8) (slots : List Slot) (i : ℕ) → table_of room slots ≡ now
    → position (is_of key) now.slots ≡ Some i → i < length slots
within-found key room now slots i seen found =
    let P : Table8 → Type 0 = λ table. position (is_of key) table.slots ≡ Some i → i < length slots in
    subst P seen (λ at. subst (λ (n : ℕ). i < n) (length-map slots slot8_of) (position-Some (is_of key) (map slot8_of slots) i None at).0)
    found

pub for-found : (key room : ℕ) (now : Table8) (slots : List Slot) (i : ℕ) (slot : Slot) → table_of room slots ≡ now
    → position (is_of key) now.slots ≡ Some i → slot ≡ slice_index_or slots i slot → IsFor key (slot8_of slot)
for-found key room now slots i slot seen found is =
    let P : Table8 → Type 0 = λ table. position (is_of key) table.slots ≡ Some i → IsFor key (slot8_of slot) in
    subst P seen (λ at. is_of-for key (slot8_of slot) (found-at key slots i slot at is).own) found

-- the answer of a slot that its stream has
own-answer : (room key : ℕ) (slot : Slot8) (idle : Bool) (f : Form) (bytes : List ℕ) → is_of key slot ≡ true
    → answer8_of room (begun_of slot) true f bytes ≡ answer8_of room (begun_of slot) idle f bytes
own-answer room key None idle f bytes own = absurd (true≢false (sym own))
own-answer room key (Some stream) idle f bytes own = refl

pub answer-found : (room : ℕ) (now : Table8) (slots : List Slot) (i : ℕ) (slot : Slot) (part : Part) → table_of room slots ≡ now
    → position (is_of part.group) now.slots ≡ Some i → slot ≡ slice_index_or slots i slot → slot.room ≡ room →
    slot_answer (state8_of slot) part.form part.bytes ≡ answer8_to now part
answer-found room now slots i slot part seen found is rooms =
    let P : Table8 → Type 0 =
    λ table. position (is_of part.group) table.slots ≡ Some i → slot_answer (state8_of slot) part.form part.bytes ≡ answer8_to table part in
    subst P seen
    (λ at.
    let here : IsAt part.group (map slot8_of slots) i (slot8_of slot) = found-at part.group slots i slot at is in
    ap (λ r. answer8_of r (begun_of (slot8_of slot)) true part.form part.bytes) rooms
    ∙ own-answer room part.group (slot8_of slot) (is_some (idle_slot (map slot8_of slots))) part.form part.bytes here.own
    ∙ ap (λ b. answer8_of room b (is_some (idle_slot (map slot8_of slots))) part.form part.bytes) (sym here.begun))
    found

pub table-found : (room : ℕ) (now : Table8) (slots : List Slot) (i : ℕ) (slot new : Slot) (part : Part) → table_of room slots ≡ now
    → position (is_of part.group) now.slots ≡ Some i → slot ≡ slice_index_or slots i slot → slot.room ≡ room →
    state8_of new ≡ slot_after (state8_of slot) part.group part.form part.bytes part.offset
    → table_of room (slice_set slots i new) ≡ with_part8 part now
table-found room now slots i slot new part seen found is rooms kept =
    let P : Table8 → Type 0 =
    λ table. position (is_of part.group) table.slots ≡ Some i → table_of room (slice_set slots i new) ≡ with_part8 part table in
    subst P seen
    (λ at.
    let table : List Slot8 = map slot8_of slots in
    let here : IsAt part.group table i (slot8_of slot) = found-at part.group slots i slot at is in
    let begun : Option Begun = begun_after (Some room) (begun_among part.group table) part.form part.bytes part.offset in
    let after : slot8_of new ≡ slot_with part.group begun =
    ap (λ state. state.slot) kept
    ∙ ap (λ r. slot_with part.group (begun_after (Some r) (begun_of (slot8_of slot)) part.form part.bytes part.offset)) rooms
    ∙ ap (λ b. slot_with part.group (begun_after (Some room) b part.form part.bytes part.offset)) (sym here.begun) in
    ap (λ s. record { room = room; slots = s })
    (map-set slot8_of slots i new
    ∙ ap (slice_set table i) after
    ∙ ap (λ o. slots_with part.group begun o (idle_slot table) table) (sym at)))
    found

pub start-found : (key : ℕ) (room : ℕ) (now : Table8) (slots : List Slot) (i : ℕ) (slot : Slot) → table_of room slots ≡ now
    → position (is_of key) now.slots ≡ Some i → slot ≡ slice_index_or slots i slot →
    option_map (λ stream. stream.begun.start) (slot8_of slot) ≡ option_map (λ begun. begun.start) (begun8_in now key)
start-found key room now slots i slot seen found is =
    let P : Table8 → Type 0 =
    λ table. position (is_of key) table.slots ≡ Some i
    → option_map (λ stream. stream.begun.start) (slot8_of slot) ≡ option_map (λ begun. begun.start) (begun8_in table key) in
    subst P seen
    (λ at. twice (slot8_of slot) ∙ ap (option_map (λ begun. begun.start)) (sym (found-at key slots i slot at is).begun))
    found
  where
    twice : (s : Slot8) → option_map (λ stream. stream.begun.start) s ≡ option_map (λ begun. begun.start) (begun_of s)
    twice None = refl
    twice (Some stream) = refl

-- ---- a stream that has none

pub absent : (key : ℕ) (now : Table8) → position (is_of key) now.slots ≡ None → begun8_in now key ≡ None
absent key now none = begun-none key now.slots (none-found (is_of key) now.slots none)

-- the answer to a part of such a stream, by its form and the slot that is idle
pub answer-unbegun : (now : Table8) (part : Part) → position (is_of part.group) now.slots ≡ None → (f : Form) → part.form ≡ f
    → (e : Option ℕ) → idle_slot now.slots ≡ e →
    answer_unbegun (is_some e) f part.bytes ≡ answer8_to now part
answer-unbegun now part none f is e idle =
    ap (λ g. answer_unbegun (is_some e) g part.bytes) (sym is)
    ∙ ap (λ o. answer_unbegun (is_some o) part.form part.bytes) (sym idle)
    ∙ ap (λ b. answer8_of now.room b (is_some (idle_slot now.slots)) part.form part.bytes) (sym (absent part.group now none))

-- and the table after it
abbrev pub unbegun_after : Table8 → Part → Form → Option ℕ → Table8
unbegun_after now part f e =
    record { room = now.room; slots = slots_with part.group (begun_after (Some now.room) None f part.bytes part.offset) None e now.slots }

pub table-unbegun : (now : Table8) (part : Part) → position (is_of part.group) now.slots ≡ None → (f : Form) → part.form ≡ f
    → (e : Option ℕ) → idle_slot now.slots ≡ e →
    unbegun_after now part f e ≡ with_part8 part now
table-unbegun now part none f is e idle =
    ap (λ g. unbegun_after now part g e) (sym is)
    ∙ ap (unbegun_after now part part.form) (sym idle)
    ∙ ap (λ s. record { room = now.room; slots = s })
    (ap (λ b. slots_with part.group (begun_after (Some now.room) b part.form part.bytes part.offset) None (idle_slot now.slots) now.slots)
    (sym (absent part.group now none))
    ∙ ap (λ o. slots_with part.group (begun_after (Some now.room) (begun8_in now part.group) part.form part.bytes part.offset) o
    (idle_slot now.slots) now.slots)
    (sym none))

-- an idle slot that such a stream takes
pub table-put : (room : ℕ) (now : Table8) (slots : List Slot) (i : ℕ) (new : Slot) (part : Part) → table_of room slots ≡ now
    → position (is_of part.group) now.slots ≡ None → part.form ≡ form.Start → idle_slot now.slots ≡ Some i →
    slot8_of new ≡ Some (record { key = part.group; begun = record { start = part.offset; bytes = part.bytes } })
    → table_of room (slice_set slots i new) ≡ with_part8 part now
table-put room now slots i new part seen none is idle kept =
    let P : Table8 → Type 0 = λ table. table_of room (slice_set slots i new) ≡ unbegun_after table part form.Start (Some i) in
    subst P seen (ap (λ s. record { room = room; slots = s }) (map-set slot8_of slots i new ∙ ap (slice_set (map slot8_of slots) i) kept))
    ∙ table-unbegun now part none form.Start is (Some i) idle

-- ---- all of them idle

pub table_cleared : (held room done size : ℕ) (slots : List Slot) → held ≡ room → length slots ≡ size → length slots ≤ done
    → AllWithin (λ slot. state8_of slot ≡ idle8 room) slots 0 done → table_of held slots ≡ empty_table8 size room
table_cleared held room done size slots same sized whole cleared =
    let all : All (λ slot. state8_of slot ≡ idle8 room) slots =
    All-from_all_within (λ slot. state8_of slot ≡ idle8 room) slots
    (AllWithin-upto (λ slot. state8_of slot ≡ idle8 room) slots 0 done (length slots) whole cleared) in
    let each : All (λ slot. slot8_of slot ≡ None) slots =
    All-weaker (λ slot. state8_of slot ≡ idle8 room) (λ slot. slot8_of slot ≡ None) (λ slot is_idle. ap (λ state. state.slot) is_idle) slots
    all in
    let idle : map slot8_of slots ≡ replicate size None = map-same slot8_of None slots each ∙ ap (λ count. replicate count None) sized in
    λ i. record { room = same i; slots = idle i }
