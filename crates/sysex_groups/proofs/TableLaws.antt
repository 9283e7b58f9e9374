-- Folding the table's step over parts of all groups is the definition.
use Rattle.std.proofs.Common.{ℕ, ◌≡◌, ◌<◌, ◌≤◌, ◌∙◌, ap, sym, refl, List, [], ◌∷◌, length, Option, Some, None, Bool, true}
use Rattle.std.proofs.Common.{false, cond, arith, is_some, zero, suc, ◌++◌, subst, replicate, slice_set, slice_index_or, ◌==◌}
use Rattle.std.proofs.lemmas.Bool.{le-leb, cond_both, eqb-true, eqb-false}
use Rattle.std.proofs.lemmas.List.{length-set, length-replicate, get_or-set_other}
use Rattle.std.proofs.lemmas.Grind.{get_or-set_at}
use Rattle.std.specs.Option.{option_map, option_and_then}
use Rattle.voice_messages.specs.declared.voice2.Form.{Form}
use Rattle.voice_messages.specs.declared.voice2.Form.TheVariants as form
use Rattle.sysex_groups.specs.Exclusives.{Part, Room, of_group, opened, fits, goes_on, passes_by, ended_by, answer_from}
use Rattle.sysex_groups.specs.Exclusives.{answer_at, bytes_of, start_of, held, whole, too_long, framed, since_start, within}
use Rattle.sysex_groups.specs.Table.{Begun, Table, begun_in, begun_after, begun_of, begun_over, answer_of, answer_to, table_over, AreParts}
use Rattle.sysex_groups.proofs.ExclusiveLaws.{begun_on, begun_on-more}

-- the limit and the number of groups stay
pub table-room : (room : ℕ) (past : List Part) → (table_over room past).room ≡ room
table-room room [] = refl
table-room room (part ∷ past) = table-room room past

pub table-groups : (room : ℕ) (past : List Part) → length (table_over room past).groups ≡ 16
table-groups room [] = length-replicate {A = Option Begun} 16 None
table-groups room (part ∷ past) = length-set (table_over room past).groups part.group _ ∙ table-groups room past

none_at : (count group : ℕ) → slice_index_or (replicate {A = Option Begun} count None) group None ≡ None
none_at zero group = refl
none_at (suc count) zero = refl
none_at (suc count) (suc group) = none_at count group

-- what each group has open
pub table-begun : (room : ℕ) (past : List Part) → 6 ≤ room → AreParts past → (group : ℕ)
    → begun_in (table_over room past) group ≡ begun_over (Some room) group past
table-begun room [] least parts group = none_at 16 group
table-begun room (part ∷ past) least parts group =
    let before : Table = table_over room past in
    let within : part.group < length before.groups = omega (arith, table-groups room past, parts.0.0) in
    let room_for : fits (Some room) (length part.bytes) ≡ true = le-leb (length part.bytes) room (omega (arith, parts.0.1)) in
    let new : Option Begun = begun_after (Some before.room) (begun_in before part.group) part.form part.bytes part.offset in
    let known : new ≡ begun_after (Some room) (begun_on (Some room) (of_group part.group past)) part.form part.bytes part.offset =
    ap (λ r. begun_after (Some r) (begun_in before part.group) part.form part.bytes part.offset) (table-room room past)
    ∙ ap (λ begun. begun_after (Some room) begun part.form part.bytes part.offset) (table-begun room past least parts.1 part.group) in
    let P : List Part → Type 0 = λ own. slice_index_or (slice_set before.groups part.group new) group None ≡ begun_on (Some room) own in
    cond_both (part.group == group) (part ∷ of_group group past) (of_group group past) P
    (λ same. get_or-set_at before.groups part.group group new None (sym (eqb-true part.group group same)) within
    ∙ known
    ∙ ap (λ g. begun_after (Some room) (begun_on (Some room) (of_group g past)) part.form part.bytes part.offset)
    (eqb-true part.group group same)
    ∙ sym (begun_on-more (Some room) part (of_group group past) room_for))
    (λ other. get_or-set_other before.groups part.group group new None (λ same. eqb-false part.group group other (sym same))
    ∙ table-begun room past least parts.1 group)

-- the table's answer by what is open is the definition's
answer_of-opened : (room : Room) (f : Form) (o : Option (List Part)) (bytes : List ℕ) →
    answer_of room (option_map begun_of o) f bytes ≡
    answer_from (cond (goes_on f) None (option_map start_of o)) (ended_by room f (option_map bytes_of o) bytes)
    (cond (goes_on f) (passes_by room (option_map bytes_of o) bytes) false) (cond (goes_on f) (cond (is_some o) false true) false)
answer_of-opened room form.Complete None bytes = refl
answer_of-opened room form.Complete (Some parts) bytes = refl
answer_of-opened room form.Start None bytes = refl
answer_of-opened room form.Start (Some parts) bytes = refl
answer_of-opened room form.Continue None bytes = refl
answer_of-opened room form.Continue (Some parts) bytes = go (fits room (length (bytes_of parts ++ bytes)))
  where
    go : (t : Bool) → cond t held too_long ≡ answer_from None None (cond t false true) false
    go true = refl
    go false = refl
answer_of-opened room form.End None bytes = refl
answer_of-opened room form.End (Some parts) bytes = go (fits room (length (bytes_of parts ++ bytes)))
  where
    go : (t : Bool)
        → cond t (whole (framed (bytes_of parts ++ bytes))) too_long
        ≡ answer_from None (cond t (Some (bytes_of parts ++ bytes)) None) (cond t false true) false
    go true = refl
    go false = refl

pub table-answers : (room : ℕ) (past : List Part) → 6 ≤ room → AreParts past → (part : Part)
    → answer_to (table_over room past) part ≡ answer_at (Some room) past part
table-answers room past least parts part =
    ap (λ r. answer_of (Some r) (begun_in (table_over room past) part.group) part.form part.bytes) (table-room room past)
    ∙ ap (λ begun. answer_of (Some room) begun part.form part.bytes) (table-begun room past least parts part.group)
    ∙ answer_of-opened (Some room) part.form (opened (Some room) part.group past) part.bytes

-- the parts of a group among its own parts are all of them
pub of_group-of_group : (group : ℕ) (past : List Part) → of_group group (of_group group past) ≡ of_group group past
of_group-of_group group [] = refl
of_group-of_group group (part ∷ past) =
    let P : List Part → Type 0 = λ own. of_group group own ≡ own in
    cond_both (part.group == group) (part ∷ of_group group past) (of_group group past) P
    (λ same. rw same (ap (λ own. part ∷ own) (of_group-of_group group past)))
    (λ other. of_group-of_group group past)

pub AreParts-of_group : (group : ℕ) (past : List Part) → AreParts past → AreParts (of_group group past)
AreParts-of_group group [] parts = tt
AreParts-of_group group (part ∷ past) parts =
    cond_both (part.group == group) (part ∷ of_group group past) (of_group group past) AreParts
    (λ same. (parts.0, AreParts-of_group group past parts.1))
    (λ other. AreParts-of_group group past parts.1)

abbrev opened_on : Room → List Part → Option (List Part)
opened_on room own = option_and_then (within room) (since_start own)

-- the answer to a part depends on the parts of its group alone
pub answer_at-alone : (room : Room) (past : List Part) (part : Part)
    → answer_at room past part ≡ answer_at room (of_group part.group past) part
answer_at-alone room past part =
    let P : List Part → Type 0 =
    λ own. answer_at room past part
    ≡ answer_from (cond (goes_on part.form) None (option_map start_of (opened_on room own)))
    (ended_by room part.form (option_map bytes_of (opened_on room own)) part.bytes)
    (cond (goes_on part.form) (passes_by room (option_map bytes_of (opened_on room own)) part.bytes) false)
    (cond (goes_on part.form) (cond (is_some (opened_on room own)) false true) false) in
    subst P (sym (of_group-of_group part.group past)) refl

pub table-alone : (room : ℕ) (past : List Part) → 6 ≤ room → AreParts past → (part : Part)
    → answer_to (table_over room past) part ≡ answer_to (table_over room (of_group part.group past)) part
table-alone room past least parts part =
    table-answers room past least parts part
    ∙ answer_at-alone (Some room) past part
    ∙ sym (table-answers room (of_group part.group past) least (AreParts-of_group part.group past parts) part)

-- and so does what a group has open
pub table-begun_alone : (room : ℕ) (past : List Part) → 6 ≤ room → AreParts past → (group : ℕ)
    → begun_in (table_over room past) group ≡ begun_in (table_over room (of_group group past)) group
table-begun_alone room past least parts group =
    table-begun room past least parts group
    ∙ ap (begun_on (Some room)) (sym (of_group-of_group group past))
    ∙ sym (table-begun room (of_group group past) least (AreParts-of_group group past parts) group)
