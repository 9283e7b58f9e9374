-- What holds of all streams.
use Rattle.std.specs.Prelude.{◌≡◌, ◌≢◌, ◌<◌, ◌≤◌, ◌+◌, ◌==◌, ◌∷◌, if◌then◌else◌, ℕ, List, [], length, Some, None}
use Rattle.sysex_groups.specs.Cut.{cut_count, cut_part, cut_parts}
use Rattle.sysex_groups.specs.Exclusives.{Part, of_group, ended}
use Rattle.sysex_groups.specs.Table.{begun_over}
use Rattle.sysex8_streams.specs.History.{taken, opened8, IsOpenedBy, answer8, full8}
use Rattle.sysex8_streams.specs.Table.{Table8, AreParts8, begun8_in, answer8_to, with_part8, table8_over}

-- none of these parts was answered by Full
abbrev pub IsNeverFull : ℕ → ℕ → List Part → Type 0
IsNeverFull slots room [] = Unit {0}
IsNeverFull slots room (part ∷ past) = (answer8 slots room past part ≢ full8) × IsNeverFull slots room past

-- What a stream has begun is what its parts' places say. Folding the table's step over parts of all streams is the
-- definition: what each stream has begun, and the answer to one more part. If none is answered by Full, both are what
-- the stream's own parts alone give. Full leaves all as before, and a part leaves all other streams as they are.
pub record FedStreamsAreTheDefinition : Type 0 where
  pub opens : (slots room : ℕ) (past : List Part) (key : ℕ) (parts : List Part) → IsOpenedBy slots room past key parts
      → opened8 slots room past key ≡ Some parts
  pub opened : (slots room : ℕ) (past : List Part) (key : ℕ) (parts : List Part) → opened8 slots room past key ≡ Some parts
      → IsOpenedBy slots room past key parts
  pub begun : (slots room : ℕ) (past : List Part) → 13 ≤ room → AreParts8 past → (key : ℕ) →
      begun8_in (table8_over slots room past) key ≡ begun_over (Some room) key (taken slots room past)
  pub answers : (slots room : ℕ) (past : List Part) → 13 ≤ room → AreParts8 past → (part : Part) →
      answer8_to (table8_over slots room past) part ≡ answer8 slots room past part
  pub begun_alone : (slots room : ℕ) (past : List Part) (key : ℕ) → 1 ≤ slots → IsNeverFull slots room past →
      opened8 slots room past key ≡ opened8 slots room (of_group key past) key
  pub answers_alone : (slots room : ℕ) (past : List Part) (part : Part) → 1 ≤ slots → IsNeverFull slots room (part ∷ past) →
      answer8 slots room past part ≡ answer8 slots room (of_group part.group past) part
  pub full : (table : Table8) (part : Part) → answer8_to table part ≡ full8 → with_part8 part table ≡ table
  pub others : (table : Table8) (part : Part) (key : ℕ) → key ≢ part.group → begun8_in (with_part8 part table) key ≡ begun8_in table key

-- If, of the parts that are taken, those of a stream are the first packets of a payload after others, the next packet
-- ends the payload if it is the last one, and ends nothing otherwise.
abbrev pub Cut8PayloadIsJoined : Type 0
Cut8PayloadIsJoined =
    (slots room : ℕ) (payload : List ℕ) → length payload ≤ room →
    (key : ℕ) (offsets : ℕ → ℕ) (past all : List Part) (k : ℕ) →
    k < cut_count 13 payload → of_group key (taken slots room all) ≡ cut_parts 13 key offsets payload past k →
    ended (Some room) (taken slots room all) (cut_part 13 key offsets payload k) ≡
    (if k + 1 == cut_count 13 payload then Some payload else None)
