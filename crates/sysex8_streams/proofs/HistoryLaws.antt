-- What one more part does to the streams that are begun, and which parts are taken.
use Rattle.std.proofs.Common.{ℕ, ◌≡◌, ◌≤◌, ◌+◌, ◌∙◌, ap, sym, refl, List, [], ◌∷◌, length, Option, Some}
use Rattle.std.proofs.Common.{None, is_some, Bool, true, false, cond, arith, ◌==◌, inl, inr, nat_lt, ◌++◌}
use Rattle.std.specs.Option.{option_map, option_and_then}
use Rattle.std.proofs.lemmas.Bool.{cases_Bool, cond_both, cond-true, eqb-true, eqb-false, true≢false, le-leb, lt-ltb, true_from_ne_false}
use Rattle.voice_messages.specs.declared.voice2.Form.{Form}
use Rattle.voice_messages.specs.declared.voice2.Form.TheVariants as form
use Rattle.sysex_groups.specs.Exclusives.{Part, of_group, opened, fits, goes_on, passes_by}
use Rattle.sysex_groups.specs.Exclusives.{ended_by, bytes_of, start_of, since_start, within}
use Rattle.sysex_groups.specs.Table.{begun_after, begun_over, begun_of}
use Rattle.sysex_groups.specs.Laws.{PartsOfOneGroup}
use Rattle.sysex8_streams.specs.History.{Answer8, held8, whole8, too_long8, full8, is_begun, begun_count, is_taken_by}
use Rattle.sysex8_streams.specs.History.{is_taken, with_taken, taken, opened8, answer8_from, answer_taken, answer8}
use Rattle.sysex8_streams.specs.Table.{answer8_of}
use Rattle.sysex8_streams.specs.Laws.{IsNeverFull}
use Rattle.sysex8_streams.proofs.CountLaws.{one, begun-count, none-begun}

-- ---- one more part

pub begun-own : (groups : PartsOfOneGroup) (room : ℕ) (part : Part) (past : List Part) → 13 ≤ room → length part.bytes ≤ 13 → (key : ℕ)
    → (part.group == key) ≡ true →
    begun_over (Some room) key (part ∷ past) ≡ begun_after (Some room) (begun_over (Some room) key past) part.form part.bytes part.offset
begun-own groups room part past least few key same =
    groups.begun (Some room) key part past (eqb-true part.group key same) (le-leb (length part.bytes) room (omega arith))

pub begun-other : (groups : PartsOfOneGroup) (room : ℕ) (part : Part) (past : List Part) (key : ℕ) → (part.group == key) ≡ false
    → begun_over (Some room) key (part ∷ past) ≡ begun_over (Some room) key past
begun-other groups room part past key other =
    ap (option_map begun_of) (groups.open_stays (Some room) key part past (eqb-false part.group key other))

pub begun-is : (room : ℕ) (past : List Part) (key : ℕ) → is_begun room past key ≡ is_some (begun_over (Some room) key past)
begun-is room past key = go (opened (Some room) key past)
  where
    go : (o : Option (List Part)) → is_some o ≡ is_some (option_map begun_of o)
    go None = refl
    go (Some parts) = refl

-- how many streams are begun after one more part
pub count-more : (groups : PartsOfOneGroup) (room : ℕ) (part : Part) (past : List Part) →
    begun_count room (part ∷ past) + one (is_some (begun_over (Some room) part.group past))
    ≡ begun_count room past + one (is_some (begun_over (Some room) part.group (part ∷ past)))
count-more groups room part past =
    let others : (key : ℕ) → (key == part.group) ≡ false → is_begun room (part ∷ past) key ≡ is_begun room past key =
    λ key differ. ap is_some (groups.open_stays (Some room) key part past (λ same. eqb-false key part.group differ (sym same))) in
    omega
    (arith, begun-count room part past others, ap one (begun-is room past part.group), ap one (begun-is room (part ∷ past) part.group))

-- ---- which parts are taken

pub taken-begun : (f : Form) (fewer : Bool) → is_taken_by f true fewer ≡ true
taken-begun form.Start fewer = refl
taken-begun form.Complete fewer = refl
taken-begun form.Continue fewer = refl
taken-begun form.End fewer = refl

pub taken-fewer : (f : Form) (begun : Bool) → is_taken_by f begun true ≡ true
taken-fewer form.Start true = refl
taken-fewer form.Start false = refl
taken-fewer form.Complete begun = refl
taken-fewer form.Continue begun = refl
taken-fewer form.End begun = refl

-- the answer, by what the part's stream has opened and whether it is taken
abbrev pub answer-on : ℕ → Form → List ℕ → Option (List Part) → Bool → Answer8
answer-on room f bytes o accepted =
    answer8_from (cond (goes_on f) None (option_map start_of o)) (ended_by (Some room) f (option_map bytes_of o) bytes)
    (cond (goes_on f) (passes_by (Some room) (option_map bytes_of o) bytes) false)
    (cond (goes_on f) (cond (is_some o) false true) false) accepted

-- the table's answer by what is begun is the definition's
pub answer-opened : (room : ℕ) (f : Form) (bytes : List ℕ) (o : Option (List Part)) (fewer : Bool)
    → answer8_of room (option_map begun_of o) fewer f bytes ≡ answer-on room f bytes o (is_taken_by f (is_some o) fewer)
answer-opened room form.Complete bytes None fewer = refl
answer-opened room form.Complete bytes (Some parts) fewer = refl
answer-opened room form.Start bytes None true = refl
answer-opened room form.Start bytes None false = refl
answer-opened room form.Start bytes (Some parts) fewer = refl
answer-opened room form.Continue bytes None fewer = refl
answer-opened room form.Continue bytes (Some parts) fewer = go (fits (Some room) (length (bytes_of parts ++ bytes)))
  where
    go : (t : Bool) → cond t held8 too_long8 ≡ answer8_from None None (cond t false true) false true
    go true = refl
    go false = refl
answer-opened room form.End bytes None fewer = refl
answer-opened room form.End bytes (Some parts) fewer = go (fits (Some room) (length (bytes_of parts ++ bytes)))
  where
    go : (t : Bool)
        → cond t (whole8 (bytes_of parts ++ bytes)) too_long8
        ≡ answer8_from None (cond t (Some (bytes_of parts ++ bytes)) None) (cond t false true) false true
    go true = refl
    go false = refl

-- what isn't taken is answered by Full
refused-full : (room : ℕ) (f : Form) (bytes : List ℕ) (o : Option (List Part)) (fewer : Bool) → is_taken_by f (is_some o) fewer ≡ false
    → answer-on room f bytes o (is_taken_by f (is_some o) fewer) ≡ full8
refused-full room form.Start bytes None true refused = absurd (true≢false refused)
refused-full room form.Start bytes None false refused = refl
refused-full room form.Start bytes (Some parts) fewer refused = absurd (true≢false refused)
refused-full room form.Complete bytes o fewer refused = absurd (true≢false refused)
refused-full room form.Continue bytes o fewer refused = absurd (true≢false refused)
refused-full room form.End bytes o fewer refused = absurd (true≢false refused)

-- a part that isn't answered by Full is taken
accepted : (slots room : ℕ) (past : List Part) (part : Part) → (answer_taken slots room past part ≡ full8 → ⊥)
    → is_taken slots room past part ≡ true
accepted slots room past part never =
    true_from_ne_false (is_taken slots room past part)
    (λ refused. never
    (refused-full room part.form part.bytes (opened (Some room) part.group past) (nat_lt (begun_count room past) slots) refused))

-- if none is answered by Full, all are taken
pub all-taken : (slots room : ℕ) (past : List Part) → IsNeverFull slots room past → taken slots room past ≡ past
all-taken slots room [] never = refl
all-taken slots room (part ∷ past) never =
    cond-true (is_taken slots room (taken slots room past) part) (part ∷ taken slots room past) (taken slots room past)
    (accepted slots room (taken slots room past) part never.0)
    ∙ ap (λ parts. part ∷ parts) (all-taken slots room past never.1)

-- among the parts of one stream, each is taken
alone-accepted : (slots room key : ℕ) (past : List Part) (part : Part) → 1 ≤ slots → part.group ≡ key
    → is_taken slots room (of_group key past) part ≡ true
alone-accepted slots room key past part some own_key =
    let own : List Part = of_group key past in
    let begun : Bool = is_begun room own part.group in
    let fewer : Bool = nat_lt (begun_count room own) slots in
    elim (cases_Bool begun) [
      | inl is ↦ ap (λ b. is_taken_by part.form b fewer) is ∙ taken-begun part.form fewer
      | inr is_not ↦
          let none : begun_count room own ≡ 0 = none-begun (is_begun room own) key past (ap (is_begun room own) (sym own_key) ∙ is_not) in
          ap (is_taken_by part.form begun) (lt-ltb (begun_count room own) slots (omega (arith, none))) ∙ taken-fewer part.form begun
    ]

alone-taken : (slots room key : ℕ) (past : List Part) → 1 ≤ slots → taken slots room (of_group key past) ≡ of_group key past
alone-taken slots room key [] some = refl
alone-taken slots room key (part ∷ past) some =
    let own : List Part = of_group key past in
    let P : List Part → Type 0 = λ parts. taken slots room parts ≡ parts in
    let rest : taken slots room own ≡ own = alone-taken slots room key past some in
    cond_both (part.group == key) (part ∷ own) own P
    (λ same.
    ap (λ parts. with_taken slots room parts part) rest
    ∙ cond-true (is_taken slots room own part) (part ∷ own) own
    (alone-accepted slots room key past part some (eqb-true part.group key same)))
    (λ other. rest)

-- if none is answered by Full, the answer is that of the stream's own parts
pub answers-alone : (groups : PartsOfOneGroup) (slots room : ℕ) (past : List Part) (part : Part) → 1 ≤ slots
    → IsNeverFull slots room (part ∷ past) → answer8 slots room past part ≡ answer8 slots room (of_group part.group past) part
answers-alone groups slots room past part some never =
    let own : List Part = of_group part.group past in
    let all : taken slots room past ≡ past = all-taken slots room past never.1 in
    let is_accepted : is_taken slots room past part ≡ true =
    ap (λ parts. is_taken slots room parts part) (sym all) ∙ accepted slots room (taken slots room past) part never.0 in
    let own_accepted : is_taken slots room own part ≡ true = alone-accepted slots room part.group past part some refl in
    let on : List Part → Bool → Answer8 =
    λ parts. answer-on room part.form part.bytes (option_and_then (within (Some room)) (since_start parts)) in
    ap (λ parts. answer_taken slots room parts part) all
    ∙ ap (on own) (is_accepted ∙ sym own_accepted)
    ∙ ap (λ parts. on parts (is_taken slots room own part)) (sym (groups.of_itself part.group past))
    ∙ ap (λ parts. answer_taken slots room parts part) (sym (alone-taken slots room part.group past some))

pub begun-alone : (groups : PartsOfOneGroup) (slots room : ℕ) (past : List Part) (key : ℕ) → 1 ≤ slots → IsNeverFull slots room past
    → opened8 slots room past key ≡ opened8 slots room (of_group key past) key
begun-alone groups slots room past key some never =
    let on : List Part → Option (List Part) = λ parts. option_and_then (within (Some room)) (since_start parts) in
    ap (opened (Some room) key) (all-taken slots room past never)
    ∙ ap on (sym (groups.of_itself key past))
    ∙ ap (opened (Some room) key) (sym (alone-taken slots room key past some))
