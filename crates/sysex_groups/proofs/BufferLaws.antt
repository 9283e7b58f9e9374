-- The table as the list of its buffers.
use Rattle.std.proofs.Common.{◌≡◌, ◌<◌, ◌≤◌, ℕ, List, [], ◌∷◌, Some, None, Option, All, map, length, replicate}
use Rattle.std.proofs.Common.{slice_set, slice_index_or, refl, ap, sym, ◌∙◌, subst}
use Rattle.std.proofs.lemmas.List.{map-set, get_or-map}
use Rattle.std.proofs.lemmas.List.Elements.{All-from_all_within, AllWithin-upto, All-head, All-tail, All-weaker}
use Rattle.std.specs.List.{AllWithin}
use Rattle.sysex_groups.specs.declared.buffer.Buffer.{Buffer}
use Rattle.sysex_groups.specs.Exclusives.{Part}
use Rattle.sysex_groups.specs.Buffers.{state_of, idle, after_in}
use Rattle.sysex_groups.specs.Table.{Begun, Table, begun_in, begun_after, answer_of, answer_to, empty_table, with_part}

abbrev pub begun_by : Buffer → Option Begun
begun_by buffer = (state_of buffer).begun

abbrev pub table_of : ℕ → List Buffer → Table
table_of room buffers = record { room = room; groups = map begun_by buffers }

-- what the group of a buffer has open
pub begun_found : (room : ℕ) (buffers : List Buffer) (index : ℕ) (buffer : Buffer) → index < length buffers
    → buffer ≡ slice_index_or buffers index buffer → begun_by buffer ≡ begun_in (table_of room buffers) index
begun_found room buffers index buffer within found =
    ap begun_by found ∙ sym (get_or-map begun_by buffers index buffer None within)

-- one more part: what its buffer answers
pub answer_found : (room : ℕ) (now : Table) (buffers : List Buffer) (index : ℕ) (buffer : Buffer) (part : Part)
    → table_of room buffers ≡ now → index ≡ part.group → index < length buffers → buffer ≡ slice_index_or buffers index buffer
    → buffer.room ≡ room →
    answer_of (Some buffer.room) (begun_by buffer) part.form part.bytes ≡ answer_to now part
answer_found room now buffers index buffer part seen index_is within found rooms =
    let P : Table → Type 0 = λ table. answer_of (Some buffer.room) (begun_by buffer) part.form part.bytes ≡ answer_to table part in
    subst P seen
    (ap (λ r. answer_of (Some r) (begun_by buffer) part.form part.bytes) rooms
    ∙ ap (λ begun. answer_of (Some room) begun part.form part.bytes) (begun_found room buffers index buffer within found)
    ∙ ap (λ k. answer_of (Some room) (begun_in (table_of room buffers) k) part.form part.bytes) index_is)

-- one more part: what the table is after its buffer has changed
pub table_found : (room : ℕ) (now : Table) (buffers : List Buffer) (index : ℕ) (buffer new : Buffer) (part : Part)
    → table_of room buffers ≡ now → index ≡ part.group → index < length buffers → buffer ≡ slice_index_or buffers index buffer
    → buffer.room ≡ room → state_of new ≡ after_in (state_of buffer) part.form part.bytes part.offset →
    table_of room (slice_set buffers index new) ≡ with_part part now
table_found room now buffers index buffer new part seen index_is within found rooms kept =
    let P : Table → Type 0 = λ table. table_of room (slice_set buffers index new) ≡ with_part part table in
    let after : begun_by new ≡ begun_after (Some room) (begun_in (table_of room buffers) index) part.form part.bytes part.offset =
    ap (λ state. state.begun) kept
    ∙ ap (λ r. begun_after (Some r) (begun_by buffer) part.form part.bytes part.offset) rooms
    ∙ ap (λ begun. begun_after (Some room) begun part.form part.bytes part.offset) (begun_found room buffers index buffer within found) in
    let groups : map begun_by (slice_set buffers index new)
    ≡ slice_set (map begun_by buffers) index
    (begun_after (Some room) (begun_in (table_of room buffers) index) part.form part.bytes part.offset) =
    map-set begun_by buffers index new ∙ ap (slice_set (map begun_by buffers) index) after in
    subst P seen
    (ap (λ gs. record { room = room; groups = gs }) groups
    ∙ ap (λ k.
    record {
      room = room;
      groups =
          slice_set (map begun_by buffers) k
          (begun_after (Some room) (begun_in (table_of room buffers) k) part.form part.bytes part.offset);
    })
    index_is)

-- ---- all of them with nothing open

-- what is the same of each element is a list of it
pub map-same : {A B : Type 0} (f : A → B) (same : B) (xs : List A) → All (λ x. f x ≡ same) xs → map f xs ≡ replicate (length xs) same
map-same f same [] all = refl
map-same f same (x ∷ xs) all =
    let first : f x ≡ same = All-head (λ x. f x ≡ same) x xs all in
    let others : map f xs ≡ replicate (length xs) same = map-same f same xs (All-tail (λ x. f x ≡ same) x xs all) in
    λ i. first i ∷ others i

pub table_cleared : (held room done : ℕ) (buffers : List Buffer) → held ≡ room → length buffers ≡ 16 → length buffers ≤ done
    → AllWithin (λ buffer. state_of buffer ≡ idle room) buffers 0 done → table_of held buffers ≡ empty_table room
table_cleared held room done buffers same sixteen whole cleared =
    let all : All (λ buffer. state_of buffer ≡ idle room) buffers =
    All-from_all_within (λ buffer. state_of buffer ≡ idle room) buffers
    (AllWithin-upto (λ buffer. state_of buffer ≡ idle room) buffers 0 done (length buffers) whole cleared) in
    let each : All (λ buffer. begun_by buffer ≡ None) buffers =
    All-weaker (λ buffer. state_of buffer ≡ idle room) (λ buffer. begun_by buffer ≡ None) (λ buffer is_idle. ap (λ state. state.begun) is_idle)
    buffers all in
    let groups : map begun_by buffers ≡ replicate 16 None =
    map-same begun_by None buffers each ∙ ap (λ count. replicate count None) sixteen in
    λ i. record { room = same i; groups = groups i }
