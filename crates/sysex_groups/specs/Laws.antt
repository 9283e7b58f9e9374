-- What holds of all exclusives.
use Rattle.std.specs.Prelude.{◌≡◌, ◌≢◌, ◌<◌, ◌≤◌, ◌+◌, ◌==◌, ◌∷◌, ◌++◌, if◌then◌else◌, ℕ, List, Some, None, IsTrue, length}
use Rattle.sysex_groups.specs.Cut.{cut_count, cut_part, cut_parts}
use Rattle.sysex_groups.specs.Exclusives.{Part, Room, of_group, bytes_of, fits, opened, IsOpenedBy, ended, answer_at}
use Rattle.sysex_groups.specs.Table.{Table, AreParts, begun_in, begun_after, begun_over, answer_to, with_part, table_over}

-- What one more part does, whatever the limit. A part of another group is none of a group's parts, and leaves open
-- what the group has open. One of its own is the newest of its parts, its bytes come last, and what is then open is
-- what the table's step says. A group's parts among its own parts are all of them.
pub record PartsOfOneGroup : Type 0 where
  pub of_another : (group : ℕ) (part : Part) (past : List Part) → part.group ≢ group → of_group group (part ∷ past) ≡ of_group group past
  pub of_its_own : (group : ℕ) (part : Part) (past : List Part) → part.group ≡ group
      → of_group group (part ∷ past) ≡ part ∷ of_group group past
  pub of_itself : (group : ℕ) (past : List Part) → of_group group (of_group group past) ≡ of_group group past
  pub bytes : (part : Part) (parts : List Part) → bytes_of (part ∷ parts) ≡ bytes_of parts ++ part.bytes
  pub open_stays : (room : Room) (group : ℕ) (part : Part) (past : List Part) → part.group ≢ group →
      opened room group (part ∷ past) ≡ opened room group past
  pub begun : (room : Room) (group : ℕ) (part : Part) (past : List Part) → part.group ≡ group → IsTrue (fits room (length part.bytes)) →
      begun_over room group (part ∷ past) ≡ begun_after room (begun_over room group past) part.form part.bytes part.offset

-- What a group has open is what the places of its parts say.
pub record OpenedByPlaces : Type 0 where
  pub opens : (room : Room) (group : ℕ) (past parts : List Part) → IsOpenedBy room group past parts → opened room group past ≡ Some parts
  pub is_opened : (room : Room) (group : ℕ) (past parts : List Part) → opened room group past ≡ Some parts
      → IsOpenedBy room group past parts

pub record FedPartsAreTheDefinition : Type 0 where
  pub begun : (room : ℕ) (past : List Part) → 6 ≤ room → AreParts past → (group : ℕ) →
      begun_in (table_over room past) group ≡ begun_over (Some room) group past
  pub answers : (room : ℕ) (past : List Part) → 6 ≤ room → AreParts past → (part : Part) →
      answer_to (table_over room past) part ≡ answer_at (Some room) past part
  pub begun_alone : (room : ℕ) (past : List Part) → 6 ≤ room → AreParts past → (group : ℕ) →
      begun_in (table_over room past) group ≡ begun_in (table_over room (of_group group past)) group
  pub answers_alone : (room : ℕ) (past : List Part) → 6 ≤ room → AreParts past → (part : Part) →
      answer_to (table_over room past) part ≡ answer_to (table_over room (of_group part.group past)) part
  pub others : (table : Table) (part : Part) (group : ℕ) → group ≢ part.group →
      begun_in (with_part part table) group ≡ begun_in table group

-- The packets of a payload that is cut every `size` bytes are joined: if the parts of a group are the first packets
-- after others, the next packet ends the payload if it is the last one, and ends nothing otherwise.
abbrev pub IsJoinedBySize : ℕ → Type 0
IsJoinedBySize size =
    (room : Room) (payload : List ℕ) → IsTrue (fits room (length payload)) →
    (group : ℕ) (offsets : ℕ → ℕ) (past all : List Part) (k : ℕ) →
    k < cut_count size payload → of_group group all ≡ cut_parts size group offsets payload past k →
    ended room all (cut_part size group offsets payload k) ≡
    (if k + 1 == cut_count size payload then Some payload else None)

abbrev pub PayloadOfAnySizeIsJoined : Type 0
PayloadOfAnySizeIsJoined = (size : ℕ) → 0 < size → IsJoinedBySize size

-- at six bytes
abbrev pub CutPayloadIsJoined : Type 0
CutPayloadIsJoined = IsJoinedBySize 6
