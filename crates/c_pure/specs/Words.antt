-- The words of the header belong to the variants whose numbers they have.
use Rattle.std.specs.Prelude.{◌≡◌, ℕ, zero, suc, List, [], ◌∷◌, codes, length, map, Option, Some, None, slice_get}
use Rattle.listing_terms.specs.declared.listed.Kind.{Kind}
use Rattle.listing_terms.specs.declared.listed.Kind.TheVariants as kinds
use Rattle.ci_messages.specs.declared.view.CiFault.{CiFault}
use Rattle.ci_messages.specs.declared.view.CiFault.TheVariants as faults
use Rattle.ci_responder.specs.declared.heard.Heard.{Heard}
use Rattle.ci_responder.specs.declared.heard.Heard.TheVariants as heard
use Rattle.ump_endpoint.specs.declared.taken.Outcome.{Outcome}
use Rattle.ump_endpoint.specs.declared.taken.Outcome.TheVariants as outcomes
use Rattle.c_answers.specs.Numbers.{kind_number}
use Rattle.c_answers.specs.declared.status.Status.{Status}
use Rattle.c_answers.specs.declared.status.Status.TheVariants as statuses

-- ---- the word of each variant

abbrev pub status_word : Status → List ℕ
status_word statuses.Done = codes "DONE"
status_word statuses.NoMemory = codes "NO_MEMORY"
status_word statuses.HandleClosed = codes "HANDLE_CLOSED"
status_word statuses.AlreadyOpen = codes "ALREADY_OPEN"
status_word statuses.BadRoom = codes "BAD_ROOM"
status_word statuses.BadWordCount = codes "BAD_WORD_COUNT"
status_word statuses.SmallBuffer = codes "SMALL_BUFFER"
status_word statuses.BadCount = codes "BAD_COUNT"
status_word statuses.HighBit = codes "HIGH_BIT"
status_word statuses.DataIncrement = codes "DATA_INCREMENT"
status_word statuses.DataDecrement = codes "DATA_DECREMENT"
status_word statuses.ExclusiveTooLong = codes "EXCLUSIVE_TOO_LONG"
status_word statuses.BadGroup = codes "BAD_GROUP"
status_word statuses.Nothing = codes "NOTHING"
status_word statuses.OtherKind = codes "OTHER_KIND"
status_word statuses.BadStreams = codes "BAD_STREAMS"
status_word statuses.SetupSyntax = codes "SETUP_SYNTAX"
status_word statuses.SetupRule = codes "SETUP_RULE"
status_word statuses.BadBits = codes "BAD_BITS"
status_word statuses.BadValue = codes "BAD_VALUE"
status_word statuses.StateFull = codes "STATE_FULL"
status_word statuses.BadFlags = codes "BAD_FLAGS"
status_word statuses.BadSize = codes "BAD_SIZE"
status_word statuses.BadChannel = codes "BAD_CHANNEL"

-- a line by its kind; there may be none
abbrev pub kind_word : Option Kind → List ℕ
kind_word None = codes "NO_LINE"
kind_word (Some kinds.Utility) = codes "UTILITY"
kind_word (Some kinds.Stream) = codes "STREAM"
kind_word (Some kinds.Reserved) = codes "RESERVED"
kind_word (Some kinds.Data8) = codes "DATA8"
kind_word (Some kinds.Flex) = codes "FLEX"
kind_word (Some kinds.NoteAttribute) = codes "NOTE_ATTRIBUTE"
kind_word (Some kinds.NoteController) = codes "NOTE_CONTROLLER"
kind_word (Some kinds.NoteBend) = codes "NOTE_BEND"
kind_word (Some kinds.NoteManagement) = codes "NOTE_MANAGEMENT"
kind_word (Some kinds.NullParameter) = codes "NULL_PARAMETER"
kind_word (Some kinds.RelativeParameter) = codes "RELATIVE_PARAMETER"
kind_word (Some kinds.MisplacedController) = codes "MISPLACED_CONTROLLER"
kind_word (Some kinds.FineController) = codes "FINE_CONTROLLER"
kind_word (Some kinds.StrayExclusive) = codes "STRAY_EXCLUSIVE"
kind_word (Some kinds.CutExclusive) = codes "CUT_EXCLUSIVE"
kind_word (Some kinds.OpenExclusive) = codes "OPEN_EXCLUSIVE"
kind_word (Some kinds.Stray) = codes "STRAY"
kind_word (Some kinds.Undefined) = codes "UNDEFINED"
kind_word (Some kinds.CutMessage) = codes "CUT_MESSAGE"
kind_word (Some kinds.OpenMessage) = codes "OPEN_MESSAGE"
kind_word (Some kinds.IgnoredDataEntry) = codes "IGNORED_DATA_ENTRY"

-- and its number
abbrev pub line_number : Option Kind → ℕ
line_number None = 0
line_number (Some kind) = kind_number kind

abbrev pub fault_word : CiFault → List ℕ
fault_word faults.NotCi = codes "NOT_CI"
fault_word faults.Short = codes "SHORT"
fault_word faults.BadAddress = codes "BAD_ADDRESS"
fault_word faults.ReservedMuid = codes "RESERVED_MUID"

abbrev pub hearing_word : Heard → List ℕ
hearing_word heard.NoBlock = codes "NO_BLOCK"
hearing_word heard.Silent = codes "SILENT"
hearing_word heard.Collision = codes "COLLISION"
hearing_word heard.OldVersion = codes "OLD_VERSION"
hearing_word heard.NotOurs = codes "NOT_OURS"
hearing_word heard.Moved = codes "MOVED"
hearing_word heard.Report = codes "REPORT"
hearing_word heard.Broadcast = codes "BROADCAST"
hearing_word heard.Answered = codes "ANSWERED"
hearing_word heard.Passed = codes "PASSED"
hearing_word heard.Nak = codes "NAK"

-- what became of a message, if a packet ended one
abbrev pub heard_word : Option Outcome → List ℕ
heard_word None = codes "NOTHING"
heard_word (Some (outcomes.Unread fault)) = fault_word fault
heard_word (Some (outcomes.Heard hearing)) = hearing_word hearing
heard_word (Some outcomes.Answered) = codes "ANSWERED"
heard_word (Some outcomes.NoAnswer) = codes "NO_ANSWER"
heard_word (Some outcomes.BadFormat) = codes "BAD_FORMAT"

-- ---- a list of words

-- `count` numbers from this one on
abbrev pub numbers_from : ℕ → ℕ → List ℕ
numbers_from first zero = []
numbers_from first (suc count) = first ∷ numbers_from (suc first) count

-- The word at the number of each variant is that variant's. There are no other words: they are those of these
-- variants, whose numbers are all from 0 on.
pub record AreWordsOf {A : Type 0} (number_of : A → ℕ) (word_of : A → List ℕ) (words : List (List ℕ)) : Type 0 where
  pub each : (variant : A) → slice_get words (number_of variant) ≡ Some (word_of variant)
  pub variants : List A
  pub words_are : words ≡ map word_of variants
  pub numbers_are : map number_of variants ≡ numbers_from 0 (length words)
