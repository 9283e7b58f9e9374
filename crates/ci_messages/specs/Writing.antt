-- The bytes that a view is written as.
use Rattle.std.specs.Prelude.{◌≡◌, ℕ, ◌<◌, ◌^◌, List, [], ◌∷◌, ◌++◌}
use Rattle.ci_messages.specs.declared.kind.Format.{Format}
use Rattle.ci_messages.specs.declared.view.Address.{Address}
use Rattle.ci_messages.specs.declared.view.Address.TheVariants as address
use Rattle.ci_messages.specs.declared.view.Body.{Body}
use Rattle.ci_messages.specs.declared.view.CiView.{CiView}
use Rattle.ci_messages.specs.Positions.{bytes4}
use Rattle.ci_messages.specs.Fields.{FitsFields, bytes_of_fields}
use Rattle.ci_messages.specs.Messages.{fields_of, body_kind, format_of, kind_of, values_of}

-- the number of an address
abbrev pub address_number : Address → ℕ
address_number (address.Channel channel) = channel
address_number address.Group = 0x7E
address_number address.Block = 0x7F

abbrev pub IsAddress : Address → Type 0
IsAddress (address.Channel channel) = channel < 16
IsAddress _ = Unit {0}

-- the number of channels of a profile at an address; at a channel it is one (own rule)
abbrev pub channels_of : Address → ℕ
channels_of (address.Channel channel) = 1
channels_of _ = 0

-- what a body says fits its fields
abbrev pub FitsBody : Format → Body → Type 0
FitsBody form body = FitsFields (fields_of form (body_kind body)) (values_of body)

-- a view's body is of the kind that its sub-id and version name, its numbers fit their bytes, and what has no
-- place in its format has its one value
pub record IsView (view : CiView) : Type 0 where
  pub address : IsAddress view.address
  pub sub : view.sub < 128
  pub version : view.version < 128
  pub source : view.source < 2 ^ 28
  pub destination : view.destination < 2 ^ 28
  pub kind : body_kind view.body ≡ kind_of view.sub view.version
  pub body : FitsBody (format_of view.version) view.body

abbrev pub body_bytes : Format → Body → List ℕ
body_bytes form body = bytes_of_fields (fields_of form (body_kind body)) (values_of body)

-- what comes before the body
abbrev pub head_bytes : CiView → List ℕ
head_bytes view =
    0xF0 ∷ 0x7E ∷ address_number view.address ∷ 0x0D ∷ view.sub ∷ view.version
    ∷ (bytes4 view.source ++ bytes4 view.destination)

abbrev pub message_bytes : CiView → List ℕ
message_bytes view = head_bytes view ++ (body_bytes (format_of view.version) view.body ++ 0xF7 ∷ [])

-- two views say the same, wherever the bytes that they borrow are
pub record SameView (one other : CiView) : Type 0 where
  pub address : one.address ≡ other.address
  pub sub : one.sub ≡ other.sub
  pub version : one.version ≡ other.version
  pub source : one.source ≡ other.source
  pub destination : one.destination ≡ other.destination
  pub kind : body_kind one.body ≡ body_kind other.body
  pub values : values_of one.body ≡ values_of other.body
