-- Lists of values, read from the front.
use Rattle.std.proofs.Common.{◌≡◌, ◌<◌, ℕ, ◌+◌, drop, get_or, Bool, ◌&&◌, List, [], ◌∷◌, ◌++◌, Option, Some}
use Rattle.std.proofs.Common.{None, option_map, refl, ap, sym, ◌∙◌, append_assoc, length, map, arith, is_some}
use Rattle.std.specs.List.{list_all}
use Rattle.std.proofs.lemmas.List.{drop_more}
use Rattle.std.specs.Prelude.{Ok, Err}
use Rattle.toml.specs.Data.{Data, Items, item, Members, as_table}
use Rattle.toml.specs.View.{view, items_view}
use Rattle.toml.specs.declared.value.Value.{Value}
use Rattle.function_blocks.specs.declared.rules.Rule.{Rule}
use Rattle.function_blocks.specs.Rules.{Read, and_then, in_front, needs}
use Rattle.function_blocks.specs.Keys.{number_in, numbers_in, count_items, list_of, is_table, each}

-- what is read after xs
abbrev pub joined : List ℕ → Option (List ℕ) → Option (List ℕ)
joined xs o = option_map (λ ys. xs ++ ys) o

joined_cons : (xs : List ℕ) (n : ℕ) (o : Option (List ℕ)) → joined xs (option_map (λ ns. n ∷ ns) o) ≡ joined (xs ++ n ∷ []) o
joined_cons xs n None = refl
joined_cons xs n (Some ys) = ap Some (sym (append_assoc xs (n ∷ []) ys))

numbers_step : (most : ℕ) (xs : List ℕ) (d : Data) (rest : Items) (n : ℕ) → number_in 0 most d ≡ Some n
    → joined xs (numbers_in most (item d rest)) ≡ joined (xs ++ n ∷ []) (numbers_in most rest)
numbers_step most xs d rest n e = rw e (joined_cons xs n (numbers_in most rest))

pub numbers_more : (most : ℕ) (xs : List ℕ) (d : Data) (ds rest : Items) (n : ℕ) → ds ≡ item d rest → number_in 0 most d ≡ Some n
    → joined xs (numbers_in most ds) ≡ joined (xs ++ n ∷ []) (numbers_in most rest)
numbers_more most xs d ds rest n same e = rw same (numbers_step most xs d rest n e)

pub numbers_none : (most : ℕ) (xs : List ℕ) (d : Data) (ds rest : Items) → ds ≡ item d rest → number_in 0 most d ≡ None
    → joined xs (numbers_in most ds) ≡ None
numbers_none most xs d ds rest same e = rw (same, e) refl

-- what a loop over a list keeps: how many were read, and that the rest joins them
pub record ReadsOn (counts joins : Type 0) : Type 0 where
  pub count : counts
  pub rest : joins

pub count_items_of_view : (vs : List Value) → count_items (items_view vs) ≡ length vs
count_items_of_view [] = refl
count_items_of_view (v ∷ vs) = grind (arith, count_items_of_view vs)

pub list_of_view : (vs : List Value) → list_of (items_view vs) ≡ map view vs
list_of_view [] = refl
list_of_view (v ∷ vs) = ap (λ ds. view v ∷ ds) (list_of_view vs)

pub list_all_of_map : {A B : Type 0} (p : B → Bool) (f : A → B) (xs : List A) → list_all (λ x. p (f x)) xs ≡ list_all p (map f xs)
list_all_of_map p f [] = refl
list_all_of_map p f (x ∷ xs) = ap (λ b. p (f x) && b) (list_all_of_map p f xs)

pub all_tables_of_view : (vs : List Value) → list_all (λ v. is_some (as_table (view v))) vs ≡ list_all is_table (map view vs)
all_tables_of_view vs = list_all_of_map is_table view vs

-- entries that are read after xs
abbrev pub read_on : {A : Type 0} → List A → Read (List A) → Read (List A)
read_on xs (Ok ys) = Ok (xs ++ ys)
read_on xs (Err e) = Err e

pub read_on_more : {A : Type 0} (xs : List A) (x : A) (rest : Read (List A)) → read_on xs (in_front x rest) ≡ read_on (xs ++ x ∷ []) rest
read_on_more xs x (Ok ys) = ap Ok (sym (append_assoc xs (x ∷ []) ys))
read_on_more xs x (Err e) = refl

-- one more entry is read
pub each_more : {A : Type 0} (r : Rule) (read : Members → Read A) (xs ys : List A) (x : A) (vs : List Value) (i : ℕ) (v : Value)
    → i < length vs → v ≡ get_or vs i v
    → Ok x ≡ needs r (as_table (view v)) read → ys ≡ xs ++ x ∷ []
    → read_on xs (each r read (map view (drop i vs))) ≡ each r read (map view vs)
    → read_on ys (each r read (map view (drop (i + 1) vs))) ≡ each r read (map view vs)
each_more r read xs ys x vs i v within is given more before =
    let rest : List Data = map view (drop (i + 1) vs) in
    let opened : drop i vs ≡ v ∷ drop (i + 1) vs = drop_more vs i v within ∙ ap (λ w. w ∷ drop (i + 1) vs) (sym is) in
    ap (λ zs. read_on zs (each r read rest)) more
    ∙ sym (read_on_more xs x (each r read rest))
    ∙ ap (λ o. read_on xs (and_then o (λ y. in_front y (each r read rest)))) given
    ∙ ap (λ ws. read_on xs (each r read (map view ws))) (sym opened)
    ∙ before
