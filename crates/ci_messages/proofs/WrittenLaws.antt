-- A message that is written is read again.
use Rattle.std.proofs.Common.{◌≡◌, ◌∙◌, ap, sym, refl, subst, ℕ, List, [], ◌∷◌, ◌++◌, None, Some, Result, Ok, Err}
use Rattle.std.proofs.Common.{◌+◌, ◌-◌, ◌/◌, ◌%◌, ◌<◌, ◌≤◌, ◌^◌, nat_lt, length, take, false, arith, length-append}
use Rattle.std.specs.Prelude.{IsOkAnd}
use Rattle.std.proofs.Math.Nat.{div-le_self}
use Rattle.std.proofs.Math.Seq.{take-append_seam}
use Rattle.std.proofs.lemmas.Bool.{lt-ltb, le-ltb, lt-leb}
use Rattle.std.proofs.lemmas.List.Elements.{All-nil, All-cons, All-append, All-replicate}
use Rattle.ci_messages.specs.declared.kind.Format.{Format}
use Rattle.ci_messages.specs.declared.kind.Format.TheVariants as format
use Rattle.ci_messages.specs.declared.kind.Kind.{Kind}
use Rattle.ci_messages.specs.declared.kind.Kind.TheVariants as kind
use Rattle.ci_messages.specs.declared.view.Address.{Address}
use Rattle.ci_messages.specs.declared.view.Address.TheVariants as address
use Rattle.ci_messages.specs.declared.view.Body.{Body}
use Rattle.ci_messages.specs.declared.view.CiFault.{CiFault}
use Rattle.ci_messages.specs.declared.view.CiView.{CiView}
use Rattle.ci_messages.specs.Positions.{bytes2, bytes4}
use Rattle.ci_messages.specs.Fields.{Field, Value, IsData, byte, number2, number4, bytes, counted, reserved, absent, unread}
use Rattle.ci_messages.specs.Fields.{number, list, nothing, FitsField, FitsFields, end_of_fields, bytes_of_field, bytes_of_fields}
use Rattle.ci_messages.specs.Messages.{fields_of, body_kind, format_of, kind_of, values_of}
use Rattle.ci_messages.specs.Reading.{CiSpells, IsExclusive, Reads, SpellsBody, address_of, body_of, ci_fault, is_short_body}
use Rattle.ci_messages.specs.Writing.{FitsBody, IsAddress, IsView, SameView, address_number, body_bytes, head_bytes, message_bytes}
use Rattle.ci_messages.proofs.PlaceLaws.{number4-bytes4}
use Rattle.ci_messages.proofs.FieldLaws.{FillBody, IsClosed, fields-again}

data-nil : IsData []
data-nil = All-nil (λ b. b < 128)

data-cons : (x : ℕ) (xs : List ℕ) → x < 128 → IsData xs → IsData (x ∷ xs)
data-cons x xs small rest = All-cons (λ b. b < 128) x xs small rest

data-append : (xs ys : List ℕ) → IsData xs → IsData ys → IsData (xs ++ ys)
data-append xs ys first second = All-append (λ b. b < 128) xs ys first second

-- the bytes of numbers are data bytes
data2 : (n : ℕ) → n < 2 ^ 14 → IsData (bytes2 n)
data2 n small =
    data-cons (n % 128) (n / 128 ∷ []) (omega arith) (data-cons (n / 128) [] (omega (arith, small)) data-nil)

data4 : (n : ℕ) → n < 2 ^ 28 → IsData (bytes4 n)
data4 n small =
    data-append (bytes2 (n % 16384)) (bytes2 (n / 16384))
    (data2 (n % 16384) (omega arith))
    (data2 (n / 16384) (omega (arith, small)))

field-data : (field : Field) (value : Value) → FitsField field value → length (bytes_of_field field value) ≤ 512 →
    IsData (bytes_of_field field value)
field-data byte (number n) fits small = data-cons n [] fits data-nil
field-data number2 (number n) fits small = data2 n fits
field-data number4 (number n) fits small = data4 n fits
field-data (bytes size) (list xs) fits small = fits.1
field-data (counted size) (list xs) fits small =
    let count : length xs / size < 2 ^ 14 =
    omega (arith, div-le_self (length xs) size, small, length-append (bytes2 (length xs / size)) xs) in
    data-append (bytes2 (length xs / size)) xs (data2 (length xs / size) count) fits.1
field-data (reserved size) nothing fits small = All-replicate (λ b. b < 128) size 0 (omega arith)
field-data (absent only) value fits small = data-nil
field-data unread (list xs) fits small = fits
field-data _ _ fits small = absurd fits

fields-data : (fields : List Field) (values : List Value) → FitsFields fields values →
    length (bytes_of_fields fields values) ≤ 512 → IsData (bytes_of_fields fields values)
fields-data [] [] fit small = data-nil
fields-data (field ∷ fields) (value ∷ values) fit small =
    let one : List ℕ = bytes_of_field field value in
    let rest : List ℕ = bytes_of_fields fields values in
    let sizes : length (one ++ rest) ≡ length one + length rest = length-append one rest in
    data-append one rest
    (field-data field value fit.0 (omega (arith, sizes, small)))
    (fields-data fields values fit.1 (omega (arith, sizes, small)))
fields-data _ _ fit small = absurd fit

address-data : (place : Address) → IsAddress place → address_number place < 128
address-data (address.Channel channel) within = omega (arith, within)
address-data address.Group within = omega arith
address-data address.Block within = omega arith

pub written-is_exclusive : (view : CiView) → IsView view → length (message_bytes view) ≤ 512 →
    IsExclusive (message_bytes view)
written-is_exclusive view is small =
    let address : ℕ = address_number view.address in
    let muids : List ℕ = bytes4 view.source ++ bytes4 view.destination in
    let body : List ℕ = body_bytes (format_of view.version) view.body in
    let sizes : length (body ++ 0xF7 ∷ []) ≡ length body + 1 = length-append body (0xF7 ∷ []) in
    let muids_data : IsData muids =
    data-append (bytes4 view.source) (bytes4 view.destination)
    (data4 view.source is.source)
    (data4 view.destination is.destination) in
    let head_data : IsData (0x7E ∷ address ∷ 0x0D ∷ view.sub ∷ view.version ∷ muids) =
    data-cons 0x7E (address ∷ 0x0D ∷ view.sub ∷ view.version ∷ muids) (omega arith)
    (data-cons address (0x0D ∷ view.sub ∷ view.version ∷ muids) (address-data view.address is.address)
    (data-cons 0x0D (view.sub ∷ view.version ∷ muids) (omega arith)
    (data-cons view.sub (view.version ∷ muids) is.sub
    (data-cons view.version muids is.version muids_data)))) in
    let body_data : IsData body =
    fields-data (fields_of (format_of view.version) (body_kind view.body)) (values_of view.body) is.body
    (omega (arith, sizes, small)) in (
      (0x7E ∷ address ∷ 0x0D ∷ view.sub ∷ view.version ∷ muids) ++ body,
      refl,
      data-append (0x7E ∷ address ∷ 0x0D ∷ view.sub ∷ view.version ∷ muids) body head_data body_data,
    )

closed : (form : Format) (kind : Kind) → IsClosed (fields_of form kind)
closed format.Short kind.Discovery = tt
closed format.Full kind.Discovery = tt
closed format.Short kind.DiscoveryReply = tt
closed format.Full kind.DiscoveryReply = tt
closed format.Short kind.Nak = tt
closed format.Full kind.Nak = tt
closed format.Short kind.SetOn = tt
closed format.Full kind.SetOn = tt
closed format.Short kind.SetOff = tt
closed format.Full kind.SetOff = tt
closed format.Short kind.EnabledReport = tt
closed format.Full kind.EnabledReport = tt
closed format.Short kind.DisabledReport = tt
closed format.Full kind.DisabledReport = tt
closed form kind.EndpointInquiry = tt
closed form kind.EndpointReply = tt
closed form kind.Invalidate = tt
closed form kind.ProfileInquiry = tt
closed form kind.ProfileReply = tt
closed form kind.Property = refl
closed form kind.Other = refl

address-again : (place : Address) → IsAddress place → address_of (address_number place) ≡ Some place
address-again (address.Channel channel) within = rw (lt-ltb channel 16 within) refl
address-again address.Group within = refl
address-again address.Block within = refl

body-again : (view : CiView) (body : List ℕ) → body_of (head_bytes view ++ (body ++ 0xF7 ∷ [])) ≡ body
body-again view body =
    let size : length (head_bytes view ++ (body ++ 0xF7 ∷ [])) - 15 ≡ length body =
    omega (arith, length-append body (0xF7 ∷ [])) in
    ap (λ n. take n (body ++ 0xF7 ∷ [])) size ∙ take-append_seam body (0xF7 ∷ [])

-- the body that is written, read as one of its kind
written-body : (form : Format) (body : Body) → FitsBody form body →
    FillBody (fields_of form (body_kind body)) (values_of body) (body_bytes form body) 0
written-body form body fits =
    fields-again (fields_of form (body_kind body)) (values_of body) [] 0 refl fits (closed form (body_kind body))

-- the body of a view, as it is written
abbrev written : CiView → List ℕ
written view = body_bytes (format_of view.version) view.body

body-fills : (view : CiView) → IsView view →
    FillBody (fields_of (format_of view.version) (kind_of view.sub view.version)) (values_of view.body) (written view) 0
body-fills view is =
    subst (λ kind. FillBody (fields_of (format_of view.version) kind) (values_of view.body) (written view) 0) is.kind
    (written-body (format_of view.version) view.body is.body)

body-spells : (view : CiView) → IsView view →
    SpellsBody (format_of view.version) (kind_of view.sub view.version) view.body (written view)
body-spells view is = record { same_kind = is.kind; fields = (body-fills view is).0 }

pub written-spells : (view : CiView) → IsView view → CiSpells view (message_bytes view)
written-spells view is = record {
  address = address-again view.address is.address;
  sub = refl;
  version = refl;
  source = sym (number4-bytes4 view.source);
  destination = sym (number4-bytes4 view.destination);
  body = subst (SpellsBody (format_of view.version) (kind_of view.sub view.version) view.body)
      (sym (body-again view (written view))) (body-spells view is);
}

long-enough : (view : CiView) (n : ℕ) → n ≤ 15 → nat_lt (length (message_bytes view)) n ≡ false
long-enough view n small =
    le-ltb (length (message_bytes view)) n (omega (arith, small, length-append (written view) (0xF7 ∷ [])))

whole-body : (view : CiView) → IsView view →
    is_short_body (format_of view.version) (kind_of view.sub view.version) (written view) ≡ false
whole-body view is =
    le-ltb (length (written view))
    (end_of_fields (fields_of (format_of view.version) (kind_of view.sub view.version)) (written view) 0)
    (omega (arith, (body-fills view is).1))

pub written-has_no_fault : (view : CiView) → IsView view → view.source < 0x0FFFFF00 →
    ci_fault (message_bytes view) ≡ None
written-has_no_fault view is allowed =
    rw (
      long-enough view 6 (omega arith),
      long-enough view 15 (omega arith),
      body-again view (written view),
      whole-body view is,
      address-again view.address is.address,
      number4-bytes4 view.source,
      lt-leb 0x0FFFFF00 view.source allowed,
    ) refl

pub written-again : (one_view : (message : List ℕ) (one other : CiView) → CiSpells one message →
    CiSpells other message → SameView one other)
    (view : CiView) → IsView view → view.source < 0x0FFFFF00 →
    (answer : Result CiView CiFault) → Reads (message_bytes view) answer → IsOkAnd answer (SameView view)
written-again one_view view is allowed (Ok other) reads =
    one_view (message_bytes view) view other (written-spells view is) reads.1
written-again one_view view is allowed (Err fault) reads =
    let none : None ≡ Some fault = sym (written-has_no_fault view is allowed) ∙ reads in absurd cc
