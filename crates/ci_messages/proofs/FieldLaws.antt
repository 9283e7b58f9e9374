-- Fields that are written hold what was written.
use Rattle.std.proofs.Common.{◌≡◌, ◌∙◌, ap, sym, refl, subst, ℕ, List, [], ◌∷◌, ◌++◌, ◌+◌, ◌*◌, ◌/◌}
use Rattle.std.proofs.Common.{◌%◌, length, drop, arith, length-append, append_assoc, append-nil}
use Rattle.std.proofs.lemmas.List.{length-replicate}
use Rattle.std.proofs.Math.Nat.{mod-add-div}
use Rattle.std.proofs.Math.Seq.{drop-append_seam}
use Rattle.ci_messages.specs.Positions.{part_at, number2_at, bytes2}
use Rattle.ci_messages.specs.Fields.{Field, Value, byte, number2, number4, bytes, counted, reserved, absent, unread, number, list, nothing}
use Rattle.ci_messages.specs.Fields.{HasField, HasFields, FitsField, FitsFields, size_at, end_of_fields, bytes_of_field, bytes_of_fields}
use Rattle.ci_messages.proofs.PlaceLaws.{byte_at-byte, number2_at-bytes2, number4_at-bytes4, part_at-list}

-- nothing follows the bytes that are left unread
abbrev pub IsClosed : List Field → Type 0
IsClosed [] = Unit {0}
IsClosed (unread ∷ fields) = fields ≡ []
IsClosed (_ ∷ fields) = IsClosed fields

-- as many items as were counted
items-again : (n size : ℕ) → n % size ≡ 0 → size * (n / size) ≡ n
items-again n size whole = omega (arith, mod-add-div n size, whole)

-- the count of items that are written
count-again : (size : ℕ) (items before after : List ℕ) (at : ℕ) → at ≡ length before → length items % size ≡ 0 →
    size * number2_at (before ++ (bytes_of_field (counted size) (list items) ++ after)) at ≡ length items
count-again size items before after at is whole =
    ap (λ bytes. size * number2_at (before ++ bytes) at) (append_assoc (bytes2 (length items / size)) items after)
    ∙ ap (λ n. size * n) (number2_at-bytes2 before (items ++ after) (length items / size) at is)
    ∙ items-again (length items) size whole

field-again : (field : Field) (value : Value) (before : List ℕ) (at : ℕ) → at ≡ length before →
    FitsField field value → (after : List ℕ) →
    (field ≡ unread → after ≡ []) → HasField field value (before ++ (bytes_of_field field value ++ after)) at
field-again byte (number n) before at is fits after last = sym (byte_at-byte before after n at is)
field-again number2 (number n) before at is fits after last = sym (number2_at-bytes2 before after n at is)
field-again number4 (number n) before at is fits after last = sym (number4_at-bytes4 before after n at is)
field-again (bytes size) (list xs) before at is fits after last =
    sym (part_at-list before xs after at size is (sym fits.0))
field-again (counted size) (list xs) before at is fits after last =
    let count : List ℕ = bytes2 (length xs / size) in
    let all : before ++ ((count ++ xs) ++ after) ≡ (before ++ count) ++ (xs ++ after) =
    ap (λ bytes. before ++ bytes) (append_assoc count xs after) ∙ sym (append_assoc before count (xs ++ after)) in
    let place : at + 2 ≡ length (before ++ count) = omega (arith, is, length-append before count) in
    sym (
    ap (λ bytes. part_at bytes (at + 2) (size * number2_at (before ++ ((count ++ xs) ++ after)) at)) all
    ∙ part_at-list (before ++ count) xs after (at + 2) (size * number2_at (before ++ ((count ++ xs) ++ after)) at) place
    (count-again size xs before after at is fits.0)
    )
field-again (reserved size) nothing before at is fits after last = tt
field-again (absent only) value before at is fits after last = fits
field-again unread (list xs) before at is fits after last =
    sym (
    ap (λ k. drop k (before ++ (xs ++ after))) is
    ∙ drop-append_seam before (xs ++ after)
    ∙ ap (λ rest. xs ++ rest) (last refl)
    ∙ append-nil xs
    )
field-again _ _ before at is fits after last = absurd fits

size-again : (field : Field) (value : Value) (before : List ℕ) (at : ℕ) → at ≡ length before →
    FitsField field value → (after : List ℕ) →
    (field ≡ unread → after ≡ []) →
    size_at field (before ++ (bytes_of_field field value ++ after)) at ≡ length (bytes_of_field field value)
size-again byte (number n) before at is fits after last = refl
size-again number2 (number n) before at is fits after last = refl
size-again number4 (number n) before at is fits after last = refl
size-again (bytes size) (list xs) before at is fits after last = sym fits.0
size-again (counted size) (list xs) before at is fits after last =
    ap (λ n. 2 + n) (count-again size xs before after at is fits.0) ∙ sym (length-append (bytes2 (length xs / size)) xs)
size-again (reserved size) nothing before at is fits after last = sym (length-replicate size 0)
size-again (absent only) value before at is fits after last = refl
size-again unread (list xs) before at is fits after last =
    omega (arith, is, ap length (last refl), length-append before (xs ++ after), length-append xs after)
size-again _ _ before at is fits after last = absurd fits

-- only the last of these fields is unread, so nothing is written after it
bytes_of_fields-nothing : (field : Field) (fields : List Field) (values : List Value) → IsClosed (field ∷ fields) →
    field ≡ unread → bytes_of_fields fields values ≡ []
bytes_of_fields-nothing unread [] values closed is = refl
bytes_of_fields-nothing unread (other ∷ fields) values closed is = cc
bytes_of_fields-nothing _ fields values closed is = cc

closed-rest : (field : Field) (fields : List Field) → IsClosed (field ∷ fields) → IsClosed fields
closed-rest unread fields closed = subst IsClosed (sym closed) tt
closed-rest byte fields closed = closed
closed-rest number2 fields closed = closed
closed-rest number4 fields closed = closed
closed-rest (bytes size) fields closed = closed
closed-rest (counted size) fields closed = closed
closed-rest (reserved size) fields closed = closed
closed-rest (absent only) fields closed = closed

-- the fields hold the values, and end with the body
abbrev pub FillBody : List Field → List Value → List ℕ → ℕ → Type 0
FillBody fields values body at = HasFields fields values body at × (end_of_fields fields body at ≡ length body)

-- fields that are written hold what was written, and end with the bytes
pub fields-again : (fields : List Field) (values : List Value) (before : List ℕ) (at : ℕ) →
    at ≡ length before → FitsFields fields values → IsClosed fields →
    FillBody fields values (before ++ bytes_of_fields fields values) at
fields-again [] [] before at is fit closed = (tt, is ∙ sym (ap length (append-nil before)))
fields-again (field ∷ fields) (value ∷ values) before at is fit closed =
    let one : List ℕ = bytes_of_field field value in
    let rest : List ℕ = bytes_of_fields fields values in
    let last : field ≡ unread → rest ≡ [] = bytes_of_fields-nothing field fields values closed in
    let all : (before ++ one) ++ rest ≡ before ++ (one ++ rest) = append_assoc before one rest in
    let place : ℕ = size_at field (before ++ (one ++ rest)) at + at in
    let size : size_at field (before ++ (one ++ rest)) at ≡ length one =
    size-again field value before at is fit.0 rest last in
    let next : place ≡ length (before ++ one) = omega (arith, size, is, length-append before one) in
    let more : FillBody fields values ((before ++ one) ++ rest) place =
    fields-again fields values (before ++ one) place next fit.1 (closed-rest field fields closed) in (
      (
        field-again field value before at is fit.0 rest last,
        subst (λ body. HasFields fields values body place) all more.0,
      ),
      subst (λ body. end_of_fields fields body place ≡ length body) all more.1,
    )
fields-again _ _ before at is fit closed = absurd fit
