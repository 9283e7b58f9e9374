-- The lines of the listing: the offset, the group and the kind of what is listed.
use Rattle.std.specs.Prelude.{ℕ, List, ◌++◌, codes, decimal, Option, Some, None}
use Rattle.listing_terms.specs.declared.listed.Kind.{Kind}
use Rattle.listing_terms.specs.declared.listed.Kind.TheVariants as kinds
use Rattle.listing_terms.specs.declared.listed.Listed.{Listed}

-- the word of a kind
abbrev pub listed_word : Kind → List ℕ
listed_word kinds.Utility = codes "utility"
listed_word kinds.Stream = codes "stream"
listed_word kinds.Reserved = codes "reserved"
listed_word kinds.Data8 = codes "data8"
listed_word kinds.Flex = codes "flex"
listed_word kinds.NoteAttribute = codes "note-attribute"
listed_word kinds.NoteController = codes "note-controller"
listed_word kinds.NoteBend = codes "note-bend"
listed_word kinds.NoteManagement = codes "note-management"
listed_word kinds.NullParameter = codes "null-parameter"
listed_word kinds.RelativeParameter = codes "relative-parameter"
listed_word kinds.MisplacedController = codes "misplaced-controller"
listed_word kinds.FineController = codes "fine-controller"
listed_word kinds.StrayExclusive = codes "stray-exclusive"
listed_word kinds.CutExclusive = codes "cut-exclusive"
listed_word kinds.OpenExclusive = codes "open-exclusive"
listed_word kinds.Stray = codes "stray"
listed_word kinds.Undefined = codes "undefined"
listed_word kinds.CutMessage = codes "cut-message"
listed_word kinds.OpenMessage = codes "open-message"
listed_word kinds.IgnoredDataEntry = codes "ignored-data-entry"

-- a hyphen if there is no group
abbrev pub group_text : Option ℕ → List ℕ
group_text None = codes "-"
group_text (Some group) = decimal group

-- the whole line
abbrev pub listing_text : Listed → List ℕ
listing_text listed =
    decimal listed.offset ++ codes " " ++ group_text listed.group ++ codes " " ++ listed_word listed.kind
    ++ codes "\n"

-- a line of the listing of a stream, which has no groups
abbrev pub byte_listing_text : Kind → ℕ → List ℕ
byte_listing_text kind offset = decimal offset ++ codes " " ++ listed_word kind ++ codes "\n"
