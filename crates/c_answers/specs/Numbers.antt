-- The numbers of the header.
use Rattle.std.specs.Prelude.{ℕ}
use Rattle.listing_terms.specs.declared.listed.Kind.{Kind}
use Rattle.listing_terms.specs.declared.listed.Kind.TheVariants as kinds
use Rattle.c_answers.specs.declared.status.Status.{Status}
use Rattle.c_answers.specs.declared.status.Status.TheVariants as statuses

-- of what a call answers
abbrev pub number_of : Status → ℕ
number_of statuses.Done = 0
number_of statuses.NoMemory = 1
number_of statuses.HandleClosed = 2
number_of statuses.AlreadyOpen = 3
number_of statuses.BadRoom = 4
number_of statuses.BadWordCount = 5
number_of statuses.SmallBuffer = 6
number_of statuses.BadCount = 7
number_of statuses.HighBit = 8
number_of statuses.DataIncrement = 9
number_of statuses.DataDecrement = 10
number_of statuses.ExclusiveTooLong = 11
number_of statuses.BadGroup = 12
number_of statuses.Nothing = 13
number_of statuses.OtherKind = 14
number_of statuses.BadStreams = 15
number_of statuses.SetupSyntax = 16
number_of statuses.SetupRule = 17
number_of statuses.BadBits = 18
number_of statuses.BadValue = 19
number_of statuses.StateFull = 20
number_of statuses.BadFlags = 21
number_of statuses.BadSize = 22
number_of statuses.BadChannel = 23

-- of the kinds of lines
abbrev pub kind_number : Kind → ℕ
kind_number kinds.Utility = 1
kind_number kinds.Stream = 2
kind_number kinds.Reserved = 3
kind_number kinds.Data8 = 4
kind_number kinds.Flex = 5
kind_number kinds.NoteAttribute = 6
kind_number kinds.NoteController = 7
kind_number kinds.NoteBend = 8
kind_number kinds.NoteManagement = 9
kind_number kinds.NullParameter = 10
kind_number kinds.RelativeParameter = 11
kind_number kinds.MisplacedController = 12
kind_number kinds.FineController = 13
kind_number kinds.StrayExclusive = 14
kind_number kinds.CutExclusive = 15
kind_number kinds.OpenExclusive = 16
kind_number kinds.Stray = 17
kind_number kinds.Undefined = 18
kind_number kinds.CutMessage = 19
kind_number kinds.OpenMessage = 20
kind_number kinds.IgnoredDataEntry = 21
