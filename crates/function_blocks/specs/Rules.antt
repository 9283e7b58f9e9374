-- The numbers of the rules, and reading by rules, of which the first broken one is reported.
use Rattle.std.specs.Prelude.{ℕ, Bool, true, false, List, ◌∷◌, Option, Some, None, Result, Ok, Err}
use Rattle.function_blocks.specs.declared.rules.Rule.{Rule}
use Rattle.function_blocks.specs.declared.rules.Rule.TheVariants as rule
use Rattle.function_blocks.specs.declared.rules.SetupFault.{SetupFault}
use Rattle.function_blocks.specs.declared.rules.SetupFault.TheVariants.{Field}

-- the number of each rule
abbrev pub number_of : Rule → ℕ
number_of rule.TextIsShort = 0
number_of rule.EndpointIsATable = 1
number_of rule.NameIsShort = 2
number_of rule.IdIsPrintable = 3
number_of rule.ManufacturerIsThreeNumbers = 4
number_of rule.FamilyIsInRange = 5
number_of rule.ModelIsInRange = 6
number_of rule.RevisionIsFourNumbers = 7
number_of rule.SomeProtocolIsThere = 8
number_of rule.ProtocolIsThere = 9
number_of rule.StaticIsAFlag = 10
number_of rule.BlocksAreTables = 11
number_of rule.ActiveIsAFlag = 12
number_of rule.BlockNameIsShort = 13
number_of rule.HintIsInRange = 14
number_of rule.Midi1IsInRange = 15
number_of rule.DirectionIsInRange = 16
number_of rule.FirstIsAGroup = 17
number_of rule.GroupsEndWithinSixteen = 18
number_of rule.CiIsInRange = 19
number_of rule.Sysex8IsInRange = 20
number_of rule.MuidsAreInRange = 21
number_of rule.BlocksThatHaveCiShareNoGroup = 22
number_of rule.MuidsAreDistinct = 23
number_of rule.ProfilesAreTables = 24
number_of rule.ProfileBlockNamesCi = 25
number_of rule.PlaceIsKnown = 26
number_of rule.GroupIsOfTheBlock = 27
number_of rule.ChannelIsInRange = 28
number_of rule.ProfileIdIsFiveNumbers = 29
number_of rule.OnIsAFlag = 30
number_of rule.ProfilesAreDistinct = 31

abbrev pub broken : Rule → SetupFault
broken r = Field (number_of r)

-- what is read, or the fault of the first broken rule
abbrev pub Read : Type 0 → Type 0
Read A = Result A SetupFault

-- a rule that asks for a value
abbrev pub needs : {A B : Type 0} → Rule → Option A → (A → Read B) → Read B
needs r None next = Err (broken r)
needs r (Some x) next = next x

-- a rule that asks for a test to hold
abbrev pub holds : {B : Type 0} → Rule → Bool → Read B → Read B
holds r false next = Err (broken r)
holds r true next = next

-- what is read after something else was read
abbrev pub and_then : {A B : Type 0} → Read A → (A → Read B) → Read B
and_then (Ok x) next = next x
and_then (Err e) next = Err e

-- one more in front of what is read
abbrev pub in_front : {A : Type 0} → A → Read (List A) → Read (List A)
in_front x (Ok xs) = Ok (x ∷ xs)
in_front x (Err e) = Err e
