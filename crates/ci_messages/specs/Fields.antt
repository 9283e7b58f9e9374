-- Fields of a body, as the tables of M2-101-UM list them one after the other.
use Rattle.std.specs.Prelude.{◌≡◌, ℕ, ◌+◌, ◌-◌, ◌*◌, ◌/◌, ◌%◌, ◌<◌, ◌^◌, List, [], ◌∷◌, ◌++◌, length, drop, replicate, All}
use Rattle.ci_messages.specs.Positions.{byte_at, part_at, number2_at, number4_at, bytes2, bytes4}

-- what a field holds
pub data Value : Type 0 where
  number : ℕ → Value
  list : List ℕ → Value
  nothing : Value

pub data Field : Type 0 where
  byte : Field
  number2 : Field  -- a number of two bytes
  number4 : Field  -- a number of four bytes
  bytes : ℕ → Field  -- this many bytes, as they stand
  counted : ℕ → Field  -- a count of two bytes, and that many items of this many bytes
  reserved : ℕ → Field  -- this many bytes that say nothing; written as zeros
  absent : Value → Field  -- no bytes: what it holds is always this value
  unread : Field  -- all bytes that follow

-- data bytes have seven bits
abbrev pub IsData : List ℕ → Type 0
IsData data_bytes = All (λ b. b < 128) data_bytes

-- how many bytes a field has that begins at a place of a body
abbrev pub size_at : Field → List ℕ → ℕ → ℕ
size_at byte body at = 1
size_at number2 body at = 2
size_at number4 body at = 4
size_at (bytes size) body at = size
size_at (counted size) body at = 2 + size * number2_at body at
size_at (reserved size) body at = size
size_at (absent only) body at = 0
size_at unread body at = length body - at

-- the place after fields, of which the first begins at a place
abbrev pub end_of_fields : List Field → List ℕ → ℕ → ℕ
end_of_fields [] body at = at
end_of_fields (field ∷ fields) body at = end_of_fields fields body (size_at field body at + at)

-- a field that begins at a place holds a value
abbrev pub HasField : Field → Value → List ℕ → ℕ → Type 0
HasField byte (number value) body at = value ≡ byte_at body at
HasField number2 (number value) body at = value ≡ number2_at body at
HasField number4 (number value) body at = value ≡ number4_at body at
HasField (bytes size) (list value) body at = value ≡ part_at body at size
HasField (counted size) (list value) body at = value ≡ part_at body (at + 2) (size * number2_at body at)
HasField (reserved size) nothing body at = Unit {0}
HasField (absent only) value body at = value ≡ only
HasField unread (list value) body at = value ≡ drop at body
HasField _ _ body at = ⊥

-- fields, of which the first begins at a place, hold these values
abbrev pub HasFields : List Field → List Value → List ℕ → ℕ → Type 0
HasFields [] [] body at = Unit {0}
HasFields (field ∷ fields) (value ∷ values) body at =
    HasField field value body at × HasFields fields values body (size_at field body at + at)
HasFields _ _ body at = ⊥

-- a value fits the bytes of a field
abbrev pub FitsField : Field → Value → Type 0
FitsField byte (number value) = value < 128
FitsField number2 (number value) = value < 2 ^ 14
FitsField number4 (number value) = value < 2 ^ 28
FitsField (bytes size) (list value) = (length value ≡ size) × IsData value
FitsField (counted size) (list value) = (length value % size ≡ 0) × IsData value
FitsField (reserved size) nothing = Unit {0}
FitsField (absent only) value = value ≡ only
FitsField unread (list value) = IsData value
FitsField _ _ = ⊥

abbrev pub FitsFields : List Field → List Value → Type 0
FitsFields [] [] = Unit {0}
FitsFields (field ∷ fields) (value ∷ values) = FitsField field value × FitsFields fields values
FitsFields _ _ = ⊥

-- the bytes of a field that holds a value
abbrev pub bytes_of_field : Field → Value → List ℕ
bytes_of_field byte (number value) = value ∷ []
bytes_of_field number2 (number value) = bytes2 value
bytes_of_field number4 (number value) = bytes4 value
bytes_of_field (bytes size) (list value) = value
bytes_of_field (counted size) (list value) = bytes2 (length value / size) ++ value
bytes_of_field (reserved size) nothing = replicate size 0
bytes_of_field (absent only) value = []
bytes_of_field unread (list value) = value
bytes_of_field _ _ = []

abbrev pub bytes_of_fields : List Field → List Value → List ℕ
bytes_of_fields (field ∷ fields) (value ∷ values) =
    bytes_of_field field value ++ bytes_of_fields fields values
bytes_of_fields _ _ = []
