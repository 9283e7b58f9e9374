-- What is read fits.
use Rattle.std.proofs.Common.{◌≡◌, ◌∙◌, ap, sym, refl, subst, ℕ, List, [], ◌∷◌, ◌++◌, Option, None}
use Rattle.std.proofs.Common.{Some, ◌+◌, ◌*◌, ◌%◌, ◌<◌, ◌≤◌, ◌^◌, ◌==◌, nat_lt, is_none, length, drop}
use Rattle.std.proofs.Common.{Bool, true, false, ◌||◌, if◌then◌else◌, arith, length-append, length-drop}
use Rattle.std.proofs.Math.ListN.{get_or-append}
use Rattle.std.proofs.Math.Nat.{mul-mod_right}
use Rattle.std.proofs.lemmas.Bool.{ltb-false, ltb-true}
use Rattle.std.proofs.lemmas.List.{length-take-le}
use Rattle.std.proofs.lemmas.List.Elements.{All-get_or, All-take, All-drop}
use Rattle.ci_messages.specs.declared.kind.Format.{Format}
use Rattle.ci_messages.specs.declared.view.Address.{Address}
use Rattle.ci_messages.specs.declared.view.Address.TheVariants as address
use Rattle.ci_messages.specs.declared.view.CiFault.{CiFault}
use Rattle.ci_messages.specs.declared.view.CiFault.TheVariants as fault
use Rattle.ci_messages.specs.declared.view.CiView.{CiView}
use Rattle.ci_messages.specs.Positions.{byte_at, part_at, number2_at, number4_at}
use Rattle.ci_messages.specs.Fields.{Field, Value, IsData, byte, number2, number4, bytes, counted, reserved, absent, unread}
use Rattle.ci_messages.specs.Fields.{number, list, nothing, HasField, HasFields, FitsField, FitsFields, size_at, end_of_fields}
use Rattle.ci_messages.specs.Messages.{body_kind, fields_of, format_of, values_of}
use Rattle.ci_messages.specs.Reading.{CiSpells, IsExclusive, address_of, body_of, ci_fault, is_not_ci}
use Rattle.ci_messages.specs.Reading.{is_reserved, is_short, is_short_body, message_format, message_kind}
use Rattle.ci_messages.specs.Writing.{IsAddress, IsView}
use Rattle.ci_messages.proofs.DataLaws.{body_is_data}

-- the first bytes are data bytes
abbrev AreData : List ℕ → ℕ → Type 0
AreData body n = (k : ℕ) → k < n → byte_at body k < 128

all-data : (body : List ℕ) → IsData body → AreData body (length body)
all-data body data_bytes k within = All-get_or (λ b. b < 128) body k 0 within data_bytes

number2_at-data : (body : List ℕ) (n at : ℕ) → AreData body n → at + 2 ≤ n → number2_at body at < 2 ^ 14
number2_at-data body n at data_bytes within =
    omega (arith, data_bytes at (omega (arith, within)), data_bytes (at + 1) (omega (arith, within)))

number4_at-data : (body : List ℕ) (n at : ℕ) → AreData body n → at + 4 ≤ n → number4_at body at < 2 ^ 28
number4_at-data body n at data_bytes within =
    omega (
      arith,
      number2_at-data body n at data_bytes (omega (arith, within)),
      number2_at-data body n (at + 2) data_bytes (omega (arith, within)),
    )

part_at-data : (body : List ℕ) (at size : ℕ) → IsData body → IsData (part_at body at size)
part_at-data body at size data_bytes =
    All-take (λ b. b < 128) size (drop at body) (All-drop (λ b. b < 128) at body data_bytes)

length-part_at : (body : List ℕ) (at size : ℕ) → at + size ≤ length body → length (part_at body at size) ≡ size
length-part_at body at size within = length-take-le size (drop at body) (omega (arith, within, length-drop at body))

field-fits : (field : Field) (value : Value) (body : List ℕ) (at : ℕ) → IsData body →
    size_at field body at + at ≤ length body →
    HasField field value body at → FitsField field value
field-fits byte (number n) body at data_bytes within holds =
    subst (λ n. n < 128) (sym holds) (all-data body data_bytes at (omega (arith, within)))
field-fits number2 (number n) body at data_bytes within holds =
    subst (λ n. n < 2 ^ 14) (sym holds)
    (number2_at-data body (length body) at (all-data body data_bytes) (omega (arith, within)))
field-fits number4 (number n) body at data_bytes within holds =
    subst (λ n. n < 2 ^ 28) (sym holds)
    (number4_at-data body (length body) at (all-data body data_bytes) (omega (arith, within)))
field-fits (bytes size) (list xs) body at data_bytes within holds = (
  ap length holds ∙ length-part_at body at size (omega (arith, within)),
  subst IsData (sym holds) (part_at-data body at size data_bytes),
)
field-fits (counted size) (list xs) body at data_bytes within holds =
    let many : ℕ = size * number2_at body at in (
      ap (λ xs. length xs % size) holds
          ∙ ap (λ n. n % size) (length-part_at body (at + 2) (size * number2_at body at) (omega (arith, within)))
          ∙ mul-mod_right size (number2_at body at),
      subst IsData (sym holds) (part_at-data body (at + 2) (size * number2_at body at) data_bytes),
    )
field-fits (reserved size) nothing body at data_bytes within holds = tt
field-fits (absent only) value body at data_bytes within holds = holds
field-fits unread (list xs) body at data_bytes within holds =
    subst IsData (sym holds) (All-drop (λ b. b < 128) at body data_bytes)
field-fits _ _ body at data_bytes within holds = absurd holds

end_of_fields-least : (fields : List Field) (body : List ℕ) (at : ℕ) → at ≤ end_of_fields fields body at
end_of_fields-least [] body at = omega arith
end_of_fields-least (field ∷ fields) body at =
    omega (arith, end_of_fields-least fields body (size_at field body at + at))

fields-fit : (fields : List Field) (values : List Value) (body : List ℕ) (at : ℕ) → IsData body →
    end_of_fields fields body at ≤ length body →
    HasFields fields values body at → FitsFields fields values
fields-fit [] [] body at data_bytes within hold = tt
fields-fit (field ∷ fields) (value ∷ values) body at data_bytes within hold =
    let place : ℕ = size_at field body at + at in (
      field-fits field value body at data_bytes
          (omega (arith, within, end_of_fields-least fields body (size_at field body at + at)))
          hold.0,
      fields-fit fields values body (size_at field body at + at) data_bytes within hold.1,
    )
fields-fit _ _ body at data_bytes within hold = absurd hold

-- no fault comes if none of the four tests holds
no-fault : (a b c d : Bool) (one two three four : CiFault) →
    (if a then Some one else if b then Some two else if c then Some three else if d then Some four else None) ≡ None →
    (b ≡ false) × (d ≡ false)
no-fault false false false false one two three four is = (refl, refl)
no-fault true b c d one two three four is = cc
no-fault false true c d one two three four is = cc
no-fault false false true d one two three four is = cc
no-fault false false false true one two three four is = cc

neither : (a b : Bool) → (a || b) ≡ false → (a ≡ false) × (b ≡ false)
neither false b is = (refl, is)
neither true b is = cc

-- a number that is an address gives one that fits
abbrev IsAddressIfAny : Option Address → Type 0
IsAddressIfAny None = Unit {0}
IsAddressIfAny (Some place) = IsAddress place

address-by-tests : (n : ℕ) (channel group block : Bool) → (channel ≡ true → n < 16) →
    IsAddressIfAny (
    if channel then Some (address.Channel n)
    else if group then Some address.Group
    else if block then Some address.Block
    else None
    )
address-by-tests n true group block below = below refl
address-by-tests n false true block below = tt
address-by-tests n false false true below = tt
address-by-tests n false false false below = tt

address-fits : (n : ℕ) (place : Address) → address_of n ≡ Some place → IsAddress place
address-fits n place is =
    subst IsAddressIfAny is (address-by-tests n (nat_lt n 16) (n == 0x7E) (n == 0x7F) (ltb-true n 16))

-- the sub-id, the version and both MUIDs fit their bytes
abbrev HeadFits : List ℕ → Type 0
HeadFits message =
    (byte_at message 4 < 128) × (byte_at message 5 < 128)
    × (number4_at message 6 < 2 ^ 28) × (number4_at message 10 < 2 ^ 28)

-- those of a message that has data bytes between F0 and F7
head-fits : (payload : List ℕ) → IsData payload → 13 ≤ length payload → (message : List ℕ) →
    message ≡ 0xF0 ∷ payload ++ 0xF7 ∷ [] →
    HeadFits message
head-fits payload data_bytes long message is =
    let after : List ℕ = payload ++ 0xF7 ∷ [] in
    let small : AreData after (length payload) =
    λ k within. subst (λ b. b < 128) (sym (get_or-append payload (0xF7 ∷ []) 0 k within)) (all-data payload data_bytes k within) in
    rw is (
      small 3 (omega (arith, long)),
      small 4 (omega (arith, long)),
      number4_at-data after (length payload) 5 small (omega (arith, long)),
      number4_at-data after (length payload) 9 small (omega (arith, long)),
    )

pub read-fits : (message : List ℕ) (view : CiView) → IsExclusive message → ci_fault message ≡ None →
    CiSpells view message → IsView view
read-fits message view (payload, is, data_bytes) none spells =
    let tests : (is_short message ≡ false) × (is_reserved (number4_at message 6) ≡ false) =
    no-fault (is_not_ci message) (is_short message) (is_none (address_of (byte_at message 2))) (is_reserved (number4_at message 6))
    fault.NotCi fault.Short fault.BadAddress fault.ReservedMuid none in
    let form : Format = message_format message in
    let lengths : (nat_lt (length message) 15 ≡ false) × (is_short_body form (message_kind message) (body_of message) ≡ false) =
    neither (nat_lt (length message) 15) (is_short_body form (message_kind message) (body_of message)) tests.0 in
    let long : 15 ≤ length message = ltb-false (length message) 15 lengths.0 in
    let head : HeadFits message =
    head-fits payload data_bytes (omega (arith, ap length is, length-append payload (0xF7 ∷ []), long)) message is in
    let body : FitsFields (fields_of form (message_kind message)) (values_of view.body) =
    fields-fit (fields_of form (message_kind message)) (values_of view.body) (body_of message) 0
    (body_is_data message (payload, is, data_bytes) long)
    (ltb-false (length (body_of message)) (end_of_fields (fields_of form (message_kind message)) (body_of message) 0) lengths.1)
    spells.body.fields in
    let of_kind : FitsFields (fields_of form (body_kind view.body)) (values_of view.body) =
    subst (λ kind. FitsFields (fields_of form kind) (values_of view.body)) (sym spells.body.same_kind) body in
    record {
      address = address-fits (byte_at message 2) view.address spells.address;
      sub = subst (λ n. n < 128) (sym spells.sub) head.0;
      version = subst (λ n. n < 128) (sym spells.version) head.1;
      source = subst (λ n. n < 2 ^ 28) (sym spells.source) head.2;
      destination = subst (λ n. n < 2 ^ 28) (sym spells.destination) head.3;
      kind = rw (spells.sub, spells.version) spells.body.same_kind;
      body = subst (λ version. FitsFields (fields_of (format_of version) (body_kind view.body)) (values_of view.body))
          (sym spells.version) of_kind;
    }
