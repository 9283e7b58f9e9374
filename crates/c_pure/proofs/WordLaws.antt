-- The words of the header, variant by variant.
use Rattle.std.proofs.Common.{◌≡◌, List, [], ◌∷◌, refl, Option, Some, None}
use Rattle.std.specs.Prelude.{slice_get}
use Rattle.listing_terms.specs.declared.listed.Kind.{Kind}
use Rattle.listing_terms.specs.declared.listed.Kind.TheVariants as kinds
use Rattle.ci_messages.specs.declared.view.CiFault.TheVariants as faults
use Rattle.ci_responder.specs.declared.heard.Heard.TheVariants as heard
use Rattle.ump_endpoint.specs.declared.taken.Outcome.{Outcome}
use Rattle.ump_endpoint.specs.declared.taken.Outcome.TheVariants as outcomes
use Rattle.c_answers.specs.Numbers.{number_of}
use Rattle.c_answers.specs.declared.status.Status.{Status}
use Rattle.c_answers.specs.declared.status.Status.TheVariants as statuses
use Rattle.c_endpoint.specs.Numbers.{heard_number}
use Rattle.c_pure.specs.Names.{heard_names, kind_names, status_names}
use Rattle.c_pure.specs.Words.{AreWordsOf, heard_word, kind_word, line_number, status_word}

abbrev all_statuses : List Status
all_statuses =
    statuses.Done ∷ statuses.NoMemory ∷ statuses.HandleClosed ∷ statuses.AlreadyOpen ∷ statuses.BadRoom
    ∷ statuses.BadWordCount ∷ statuses.SmallBuffer ∷ statuses.BadCount ∷ statuses.HighBit
    ∷ statuses.DataIncrement ∷ statuses.DataDecrement ∷ statuses.ExclusiveTooLong ∷ statuses.BadGroup
    ∷ statuses.Nothing ∷ statuses.OtherKind ∷ statuses.BadStreams ∷ statuses.SetupSyntax ∷ statuses.SetupRule
    ∷ statuses.BadBits ∷ statuses.BadValue ∷ statuses.StateFull ∷ statuses.BadFlags ∷ statuses.BadSize
    ∷ statuses.BadChannel ∷ []

pub status_words : AreWordsOf number_of status_word status_names
status_words =
    record {
      each = at;
      variants = all_statuses;
      words_are = refl;
      numbers_are = refl;
    }
  where
    at : (status : Status) → slice_get status_names (number_of status) ≡ Some (status_word status)
    at statuses.Done = refl
    at statuses.NoMemory = refl
    at statuses.HandleClosed = refl
    at statuses.AlreadyOpen = refl
    at statuses.BadRoom = refl
    at statuses.BadWordCount = refl
    at statuses.SmallBuffer = refl
    at statuses.BadCount = refl
    at statuses.HighBit = refl
    at statuses.DataIncrement = refl
    at statuses.DataDecrement = refl
    at statuses.ExclusiveTooLong = refl
    at statuses.BadGroup = refl
    at statuses.Nothing = refl
    at statuses.OtherKind = refl
    at statuses.BadStreams = refl
    at statuses.SetupSyntax = refl
    at statuses.SetupRule = refl
    at statuses.BadBits = refl
    at statuses.BadValue = refl
    at statuses.StateFull = refl
    at statuses.BadFlags = refl
    at statuses.BadSize = refl
    at statuses.BadChannel = refl

abbrev all_kinds : List (Option Kind)
all_kinds =
    None ∷ Some kinds.Utility ∷ Some kinds.Stream ∷ Some kinds.Reserved ∷ Some kinds.Data8 ∷ Some kinds.Flex
    ∷ Some kinds.NoteAttribute ∷ Some kinds.NoteController ∷ Some kinds.NoteBend ∷ Some kinds.NoteManagement
    ∷ Some kinds.NullParameter ∷ Some kinds.RelativeParameter ∷ Some kinds.MisplacedController
    ∷ Some kinds.FineController ∷ Some kinds.StrayExclusive ∷ Some kinds.CutExclusive
    ∷ Some kinds.OpenExclusive ∷ Some kinds.Stray ∷ Some kinds.Undefined ∷ Some kinds.CutMessage
    ∷ Some kinds.OpenMessage ∷ Some kinds.IgnoredDataEntry ∷ []

pub kind_words : AreWordsOf line_number kind_word kind_names
kind_words =
    record {
      each = at;
      variants = all_kinds;
      words_are = refl;
      numbers_are = refl;
    }
  where
    at : (kind : Option Kind) → slice_get kind_names (line_number kind) ≡ Some (kind_word kind)
    at None = refl
    at (Some kinds.Utility) = refl
    at (Some kinds.Stream) = refl
    at (Some kinds.Reserved) = refl
    at (Some kinds.Data8) = refl
    at (Some kinds.Flex) = refl
    at (Some kinds.NoteAttribute) = refl
    at (Some kinds.NoteController) = refl
    at (Some kinds.NoteBend) = refl
    at (Some kinds.NoteManagement) = refl
    at (Some kinds.NullParameter) = refl
    at (Some kinds.RelativeParameter) = refl
    at (Some kinds.MisplacedController) = refl
    at (Some kinds.FineController) = refl
    at (Some kinds.StrayExclusive) = refl
    at (Some kinds.CutExclusive) = refl
    at (Some kinds.OpenExclusive) = refl
    at (Some kinds.Stray) = refl
    at (Some kinds.Undefined) = refl
    at (Some kinds.CutMessage) = refl
    at (Some kinds.OpenMessage) = refl
    at (Some kinds.IgnoredDataEntry) = refl

abbrev all_outcomes : List (Option Outcome)
all_outcomes =
    None ∷ Some (outcomes.Unread faults.NotCi) ∷ Some (outcomes.Unread faults.Short)
    ∷ Some (outcomes.Unread faults.BadAddress) ∷ Some (outcomes.Unread faults.ReservedMuid)
    ∷ Some (outcomes.Heard heard.NoBlock) ∷ Some (outcomes.Heard heard.Silent)
    ∷ Some (outcomes.Heard heard.Collision) ∷ Some (outcomes.Heard heard.OldVersion)
    ∷ Some (outcomes.Heard heard.NotOurs) ∷ Some (outcomes.Heard heard.Moved)
    ∷ Some (outcomes.Heard heard.Report) ∷ Some (outcomes.Heard heard.Broadcast)
    ∷ Some (outcomes.Heard heard.Answered) ∷ Some (outcomes.Heard heard.Passed)
    ∷ Some (outcomes.Heard heard.Nak) ∷ Some outcomes.NoAnswer ∷ Some outcomes.BadFormat ∷ []

pub heard_words : AreWordsOf heard_number heard_word heard_names
heard_words =
    record {
      each = at;
      variants = all_outcomes;
      words_are = refl;
      numbers_are = refl;
    }
  where
    at : (outcome : Option Outcome) → slice_get heard_names (heard_number outcome) ≡ Some (heard_word outcome)
    at None = refl
    at (Some (outcomes.Unread faults.NotCi)) = refl
    at (Some (outcomes.Unread faults.Short)) = refl
    at (Some (outcomes.Unread faults.BadAddress)) = refl
    at (Some (outcomes.Unread faults.ReservedMuid)) = refl
    at (Some (outcomes.Heard heard.NoBlock)) = refl
    at (Some (outcomes.Heard heard.Silent)) = refl
    at (Some (outcomes.Heard heard.Collision)) = refl
    at (Some (outcomes.Heard heard.OldVersion)) = refl
    at (Some (outcomes.Heard heard.NotOurs)) = refl
    at (Some (outcomes.Heard heard.Moved)) = refl
    at (Some (outcomes.Heard heard.Report)) = refl
    at (Some (outcomes.Heard heard.Broadcast)) = refl
    at (Some (outcomes.Heard heard.Answered)) = refl
    at (Some (outcomes.Heard heard.Passed)) = refl
    at (Some (outcomes.Heard heard.Nak)) = refl
    at (Some outcomes.Answered) = refl
    at (Some outcomes.NoAnswer) = refl
    at (Some outcomes.BadFormat) = refl
