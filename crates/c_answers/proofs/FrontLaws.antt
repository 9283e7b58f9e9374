-- What is written after what was written before.
use Rattle.std.proofs.Common.{◌≡◌, ◌≤◌, ◌<◌, ◌+◌, ℕ, ◌-◌, List, [], ◌∷◌, ◌++◌, refl, length, take}
use Rattle.std.proofs.Common.{drop, ap, sym, ◌∙◌, append_assoc, arith, length-append, length-drop}
use Rattle.std.proofs.Math.Seq.{take-append_seam, drop-append_seam}
use Rattle.std.proofs.lemmas.List.{append-nil, drop-drop, drop_all, take-append-drop, take_all}
use Rattle.std.specs.Prelude.{slice_set}
use borrow.Rule.Slice.PartMut.{mid_of, put_mid}
use Rattle.c_answers.specs.Fronts.{with_front}

-- the places after what was written are those of the buffer before
pub behind_front : {X : Type 0} (done old : List X) → drop (length done) (with_front done old) ≡ drop (length done) old
behind_front done old = drop-append_seam done (drop (length done) old)

rest_behind : {X : Type 0} (done more old : List X)
    → drop (length more) (drop (length done) (with_front done old)) ≡ drop (length (done ++ more)) old
rest_behind done more old =
    ap (drop (length more)) (behind_front done old)
    ∙ drop-drop (length more) (length done) old
    ∙ ap (λ n. drop n old) (sym (length-append done more))

pub then_front : {X : Type 0} (done more old : List X) →
    take (length done) (with_front done old) ++ with_front more (drop (length done) (with_front done old)) ≡ with_front (done ++ more) old
then_front done more old =
    ap (λ front. front ++ with_front more (drop (length done) (with_front done old))) (take-append_seam done (drop (length done) old))
    ∙ ap (λ rest. done ++ (more ++ rest)) (rest_behind done more old)
    ∙ sym (append_assoc done more (drop (length (done ++ more)) old))

-- the same of a buffer whose rest was written, from the place on up to which it was written before
pub written_behind : {X : Type 0} (done more old buffer rest : List X) (n : ℕ) → n ≡ length done → buffer ≡ with_front done old
    → rest ≡ with_front more (drop n buffer) → take n buffer ++ rest ≡ with_front (done ++ more) old
written_behind done more old buffer rest n place front is =
    ap (λ r. take n buffer ++ r) is
    ∙ ap (λ k. take k buffer ++ with_front more (drop k buffer)) place
    ∙ ap (λ b. take (length done) b ++ with_front more (drop (length done) b)) front
    ∙ then_front done more old

-- one item more at the front
pub set_front : {X : Type 0} (xs old : List X) (x : X) → length xs < length old
    → slice_set (with_front xs old) (length xs) x ≡ with_front (xs ++ x ∷ []) old
set_front [] [] x short = absurd (omega (arith, short))
set_front [] (o ∷ old) x short = refl
set_front (y ∷ xs) [] x short = absurd (omega (arith, short))
set_front (y ∷ xs) (o ∷ old) x short = ap (λ rest. y ∷ rest) (set_front xs old x (omega (arith, short)))

-- ---- a buffer from a place on

-- the rest of a buffer, as it is lent
pub rest_lent : {X : Type 0} (n : ℕ) (buffer : List X) → mid_of n (length buffer - n) buffer ≡ drop n buffer
rest_lent n buffer = take_all (length buffer - n) (drop n buffer) (omega (arith, length-drop n buffer))

-- the buffer once its rest is given back
pub rest_given_back : {X : Type 0} (n : ℕ) (buffer rest : List X) → put_mid n (length buffer - n) buffer rest ≡ take n buffer ++ rest
rest_given_back n buffer rest =
    let none : drop (length buffer - n) (drop n buffer) ≡ [] =
    drop_all (length buffer - n) (drop n buffer) (omega (arith, length-drop n buffer)) in
    ap (λ more. take n buffer ++ (rest ++ more)) none ∙ ap (λ more. take n buffer ++ more) (append-nil rest)

-- nothing at the front leaves a buffer
pub nothing_in_front : {X : Type 0} (front old : List X) → length front ≡ 0 → old ≡ with_front front old
nothing_in_front [] old none = refl
nothing_in_front (x ∷ front) old none = absurd (let e = none in cc)

-- what is written keeps the size of a buffer, so it has as many places
pub front_fits : {X : Type 0} (front old new : List X) → new ≡ with_front front old → length new ≡ length old → length front ≤ length old
front_fits front old new is same =
    let size : length new ≡ length front + length (drop (length front) old) =
    ap length is ∙ length-append front (drop (length front) old) in
    omega (arith, size, same, length-drop (length front) old)

-- the buffer once its rest is given back as it was
pub rest_unchanged : {X : Type 0} (n : ℕ) (buffer rest : List X) → rest ≡ mid_of n (length buffer - n) buffer
    → put_mid n (length buffer - n) buffer rest ≡ buffer
rest_unchanged n buffer rest is =
    rest_given_back n buffer rest ∙ ap (λ more. take n buffer ++ more) (is ∙ rest_lent n buffer) ∙ take-append-drop n buffer
