-- What the parts of a channel still have to tell.
use Rattle.std.proofs.Common.{true, false, is_some, Some, None, sym, ◌≡◌, ◌∙◌, ap, refl, arith, ℕ, suc, ◌+◌, ◌-◌, ◌<◌, ◌≤◌, List, [], ◌∷◌, ◌++◌, map, Option}
use Rattle.std.specs.Iterator.{YieldsFirst}
use Rattle.std.specs.List.{flat_map, range_with_len}
use Rattle.std.specs.Option.{option_map, option_to_list}
use Rattle.voice_state.specs.declared.fact.Fact.{Fact}
use Rattle.voice_state.specs.declared.note_act.NoteAct.{NoteAct}
use Rattle.voice_state.specs.Acts.{act_of}
use Rattle.voice_state.specs.Facts.{act_fact, first, in_order}
use Rattle.voice_state.specs.Tables.{at, numbers, table_left}
use Rattle.voice_state.proofs.ToldFacts.{told_same}

-- ---- numbers in order

all_numbers : (below : ℕ) → numbers 0 below ≡ first below
unfolding numbers first
all_numbers below = ap (range_with_len 0) (omega arith)

next_number : (from below : ℕ) → from < below → numbers from below ≡ from ∷ numbers (from + 1) below
unfolding numbers
next_number from below is =
    let more : below - from ≡ suc (below - (from + 1)) = omega (arith, is) in
    ap (range_with_len from) more

no_number : (from below : ℕ) → below ≤ from → numbers from below ≡ []
unfolding numbers
no_number from below is =
    let none : below - from ≡ 0 = omega (arith, is) in
    ap (range_with_len from) none

-- ---- a table

pub table_all : (fact_of : ℕ → ℕ → Fact) (cells : List (Option ℕ)) (values : ℕ → Option ℕ)
    → ((index : ℕ) → at cells index ≡ values index) → table_left fact_of cells 0 ≡ in_order fact_of values
table_all fact_of cells values same =
    ap (flat_map (λ index. option_to_list (option_map (fact_of index) (at cells index)))) (all_numbers 128)
    ∙ told_same fact_of (at cells) values 128 same

pub table_next : (fact_of : ℕ → ℕ → Fact) (cells : List (Option ℕ)) (index : ℕ) → index < 128 →
    table_left fact_of cells index
    ≡ option_to_list (option_map (fact_of index) (at cells index)) ++ table_left fact_of cells (index + 1)
table_next fact_of cells index below =
    ap (flat_map (λ i. option_to_list (option_map (fact_of i) (at cells i)))) (next_number index 128 below)

pub table_done : (fact_of : ℕ → ℕ → Fact) (cells : List (Option ℕ)) (index : ℕ) → 128 ≤ index → table_left fact_of cells index ≡ []
table_done fact_of cells index end =
    ap (flat_map (λ i. option_to_list (option_map (fact_of i) (at cells i)))) (no_number index 128 end)

-- the value at the index is set or not
pub table_taken : (fact_of : ℕ → ℕ → Fact) (cells : List (Option ℕ)) (index : ℕ) (told : Option Fact) → index < 128 →
    told ≡ option_map (fact_of index) (at cells index) → is_some told ≡ true →
    YieldsFirst (λ left. left) (table_left fact_of cells index) told (table_left fact_of cells (index + 1))
table_taken fact_of cells index None below is some = absurd cc
table_taken fact_of cells index (Some fact) below is some =
    table_next fact_of cells index below
    ∙ ap (λ told. option_to_list told ++ table_left fact_of cells (index + 1)) (sym is)

pub table_passed : (fact_of : ℕ → ℕ → Fact) (cells : List (Option ℕ)) (index : ℕ) (told : Option Fact) → index < 128 →
    told ≡ option_map (fact_of index) (at cells index) → is_some told ≡ false →
    table_left fact_of cells index ≡ table_left fact_of cells (index + 1)
table_passed fact_of cells index None below is none =
    table_next fact_of cells index below
    ∙ ap (λ told. option_to_list told ++ table_left fact_of cells (index + 1)) (sym is)
table_passed fact_of cells index (Some fact) below is none = absurd cc

-- ---- notes and mode messages

pub acts_all : (group channel : ℕ) (acts : List NoteAct) →
    map (λ act. act_fact group channel (act_of act)) acts ≡ map (act_fact group channel) (map act_of acts)
acts_all group channel [] = refl
acts_all group channel (act ∷ acts) = ap (λ facts. act_fact group channel (act_of act) ∷ facts) (acts_all group channel acts)
