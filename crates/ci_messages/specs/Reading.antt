-- What reading a message answers.
use Rattle.std.specs.Prelude.{◌≡◌, ℕ, ◌<◌, ◌≤◌, ◌-◌, ◌==◌, nat_le, nat_lt, Bool, true, false, ◌||◌, not, if◌then◌else◌}
use Rattle.std.specs.Prelude.{List, [], ◌∷◌, ◌++◌, length, Option, Some, None, is_none, Result, MatchResult}
use Rattle.ci_messages.specs.declared.kind.Format.{Format}
use Rattle.ci_messages.specs.declared.kind.Kind.{Kind}
use Rattle.ci_messages.specs.declared.view.Address.{Address}
use Rattle.ci_messages.specs.declared.view.Address.TheVariants as address
use Rattle.ci_messages.specs.declared.view.Body.{Body}
use Rattle.ci_messages.specs.declared.view.CiFault.{CiFault}
use Rattle.ci_messages.specs.declared.view.CiFault.TheVariants as fault
use Rattle.ci_messages.specs.declared.view.CiView.{CiView}
use Rattle.ci_messages.specs.Positions.{byte_at, part_at, number4_at}
use Rattle.ci_messages.specs.Fields.{Field, Value, IsData, HasFields, end_of_fields}
use Rattle.ci_messages.specs.Messages.{fields_of, body_kind, format_of, kind_of, values_of}

-- F0, data bytes, F7
abbrev pub IsExclusive : List ℕ → Type 0
IsExclusive message = (payload : List ℕ) × (message ≡ 0xF0 ∷ payload ++ 0xF7 ∷ []) × IsData payload

-- the address of a number
abbrev pub address_of : ℕ → Option Address
address_of number =
    if nat_lt number 16 then Some (address.Channel number)
    else if number == 0x7E then Some address.Group
    else if number == 0x7F then Some address.Block
    else None

-- what is between the destination and F7
abbrev pub body_of : List ℕ → List ℕ
body_of message = part_at message 14 (length message - 15)

-- the kind that a message's sub-id and version tell
abbrev pub message_kind : List ℕ → Kind
message_kind message = kind_of (byte_at message 4) (byte_at message 5)

-- the format that its version tells
abbrev pub message_format : List ℕ → Format
message_format message = format_of (byte_at message 5)

-- an exclusive isn't universal, non-realtime and of MIDI-CI
abbrev pub is_not_ci : List ℕ → Bool
is_not_ci message =
    nat_lt (length message) 6 || not (byte_at message 1 == 0x7E) || not (byte_at message 3 == 0x0D)

-- a body ends before its fields do
abbrev pub is_short_body : Format → Kind → List ℕ → Bool
is_short_body form kind body = nat_lt (length body) (end_of_fields (fields_of form kind) body 0)

abbrev pub is_short : List ℕ → Bool
is_short message =
    nat_lt (length message) 15
    || is_short_body (message_format message) (message_kind message) (body_of message)

-- 0FFFFF00 to 0FFFFFFE are reserved, and 0FFFFFFF is broadcast
abbrev pub is_reserved : ℕ → Bool
is_reserved muid = nat_le 0x0FFFFF00 muid

-- the first fault of a message
abbrev pub ci_fault : List ℕ → Option CiFault
ci_fault message =
    if is_not_ci message then Some fault.NotCi
    else if is_short message then Some fault.Short
    else if is_none (address_of (byte_at message 2)) then Some fault.BadAddress
    else if is_reserved (number4_at message 6) then Some fault.ReservedMuid
    else None

-- bytes spell a body of a kind: the fields of that kind hold what the body says
pub record SpellsBody (form : Format) (kind : Kind) (body : Body) (bytes : List ℕ) : Type 0 where
  pub same_kind : body_kind body ≡ kind
  pub fields : HasFields (fields_of form kind) (values_of body) bytes 0

-- the bytes of a message spell a view
pub record CiSpells (view : CiView) (message : List ℕ) : Type 0 where
  pub address : address_of (byte_at message 2) ≡ Some view.address
  pub sub : view.sub ≡ byte_at message 4
  pub version : view.version ≡ byte_at message 5
  pub source : view.source ≡ number4_at message 6
  pub destination : view.destination ≡ number4_at message 10
  pub body : SpellsBody (message_format message) (message_kind message) view.body (body_of message)

-- the view that the message spells if it has no fault, and otherwise the fault
abbrev pub Reads : List ℕ → Result CiView CiFault → Type 0
Reads message result =
    MatchResult result
    (λ view. (ci_fault message ≡ None) × CiSpells view message)
    (λ fault. ci_fault message ≡ Some fault)

-- the body of a kind that bytes spell, if they are long enough
abbrev pub ReadsBody : Format → Kind → List ℕ → Option Body → Type 0
ReadsBody form kind bytes (Some body) =
    (is_short_body form kind bytes ≡ false) × SpellsBody form kind body bytes
ReadsBody form kind bytes None = is_short_body form kind bytes ≡ true

-- the values that fields hold from a place on, if the bytes are long enough
abbrev pub ReadsFields : List Field → List ℕ → ℕ → Option (List Value) → Type 0
ReadsFields fields bytes at (Some values) =
    (end_of_fields fields bytes at ≤ length bytes) × HasFields fields values bytes at
ReadsFields fields bytes at None = length bytes < end_of_fields fields bytes at
