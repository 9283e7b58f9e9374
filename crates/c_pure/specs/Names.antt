-- The words of the header by their numbers, without their prefix.
use Rattle.std.specs.Prelude.{◌≡◌, ◌≤◌, nat_lt, ℕ, All, Bool, true, false, List, [], ◌∷◌, codes, length, Option, Some, None, slice_get}
use Rattle.c_answers.specs.Fronts.{with_front}
use Rattle.c_answers.specs.Numbers.{number_of}
use Rattle.c_answers.specs.declared.status.Status.{Status}
use Rattle.c_answers.specs.declared.status.Status.TheVariants as statuses

-- the statuses, from 0 on
abbrev pub status_names : List (List ℕ)
status_names =
    codes "DONE" ∷ codes "NO_MEMORY" ∷ codes "HANDLE_CLOSED" ∷ codes "ALREADY_OPEN" ∷ codes "BAD_ROOM" ∷ codes "BAD_WORD_COUNT"
    ∷ codes "SMALL_BUFFER" ∷ codes "BAD_COUNT" ∷ codes "HIGH_BIT" ∷ codes "DATA_INCREMENT" ∷ codes "DATA_DECREMENT"
    ∷ codes "EXCLUSIVE_TOO_LONG" ∷ codes "BAD_GROUP" ∷ codes "NOTHING" ∷ codes "OTHER_KIND" ∷ codes "BAD_STREAMS"
    ∷ codes "SETUP_SYNTAX" ∷ codes "SETUP_RULE" ∷ codes "BAD_BITS" ∷ codes "BAD_VALUE" ∷ codes "STATE_FULL" ∷ codes "BAD_FLAGS"
    ∷ codes "BAD_SIZE" ∷ codes "BAD_CHANNEL" ∷ []

-- the kinds of lines, from 0 on
abbrev pub kind_names : List (List ℕ)
kind_names =
    codes "NO_LINE" ∷ codes "UTILITY" ∷ codes "STREAM" ∷ codes "RESERVED" ∷ codes "DATA8" ∷ codes "FLEX" ∷ codes "NOTE_ATTRIBUTE"
    ∷ codes "NOTE_CONTROLLER" ∷ codes "NOTE_BEND" ∷ codes "NOTE_MANAGEMENT" ∷ codes "NULL_PARAMETER"
    ∷ codes "RELATIVE_PARAMETER" ∷ codes "MISPLACED_CONTROLLER" ∷ codes "FINE_CONTROLLER" ∷ codes "STRAY_EXCLUSIVE"
    ∷ codes "CUT_EXCLUSIVE" ∷ codes "OPEN_EXCLUSIVE" ∷ codes "STRAY" ∷ codes "UNDEFINED" ∷ codes "CUT_MESSAGE"
    ∷ codes "OPEN_MESSAGE" ∷ codes "IGNORED_DATA_ENTRY" ∷ []

-- what an endpoint did with a message, from 0 on
abbrev pub heard_names : List (List ℕ)
heard_names =
    codes "NOTHING" ∷ codes "NOT_CI" ∷ codes "SHORT" ∷ codes "BAD_ADDRESS" ∷ codes "RESERVED_MUID" ∷ codes "NO_BLOCK" ∷ codes "SILENT"
    ∷ codes "COLLISION" ∷ codes "OLD_VERSION" ∷ codes "NOT_OURS" ∷ codes "MOVED" ∷ codes "REPORT" ∷ codes "BROADCAST"
    ∷ codes "ANSWERED" ∷ codes "PASSED" ∷ codes "NAK" ∷ codes "NO_ANSWER" ∷ codes "BAD_FORMAT" ∷ []

-- 32 bytes are enough for each of these
abbrev pub AreShort : List (List ℕ) → Type 0
AreShort names = All (λ name. length name ≤ 32) names

-- nothing is written
abbrev pub IsUnnamed : Status → List ℕ → ℕ → List ℕ → ℕ → Type 0
IsUnnamed why old status new count = (status ≡ number_of why) × (new ≡ old) × (count ≡ 0)

abbrev pub fits_name : Bool → List ℕ → List ℕ → ℕ → List ℕ → ℕ → Type 0
fits_name true name old status new count = IsUnnamed statuses.SmallBuffer old status new count
fits_name false name old status new count =
    (status ≡ number_of statuses.Done) × (new ≡ with_front name old) × (count ≡ length name)

abbrev pub names_one : Option (List ℕ) → List ℕ → ℕ → List ℕ → ℕ → Type 0
names_one None old status new count = IsUnnamed statuses.Nothing old status new count
names_one (Some name) old status new count = fits_name (nat_lt (length old) (length name)) name old status new count

-- the word with this number is at the front of the buffer
abbrev pub IsNamed : List (List ℕ) → ℕ → List ℕ → ℕ → List ℕ → ℕ → Type 0
IsNamed names number old status new count = names_one (slice_get names number) old status new count
