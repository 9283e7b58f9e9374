-- The lines of the command `endpoint`: what became of a whole exclusive or a stream packet, and what stands
-- at the end.
use Rattle.std.specs.Prelude.{ℕ, Bool, true, false, List, ◌++◌, codes, decimal, Option, Some, None}
use Rattle.function_blocks.specs.declared.setup.Place.{Place}
use Rattle.function_blocks.specs.declared.setup.Place.TheVariants as place
use Rattle.function_blocks.specs.declared.setup.Profile.{Profile}
use Rattle.text_lines.specs.Fields.{hex_bytes}
use Rattle.text_lines.specs.ListingLines.{group_text}
use Rattle.endpoint_lines.specs.declared.endpoint.OutcomeName.{OutcomeName}
use Rattle.endpoint_lines.specs.declared.endpoint.OutcomeName.TheVariants as names

-- the word of a name
abbrev pub name_word : OutcomeName → List ℕ
name_word names.NotCi = codes "not-ci"
name_word names.Short = codes "short"
name_word names.BadAddress = codes "bad-address"
name_word names.ReservedMuid = codes "reserved-muid"
name_word names.NoBlock = codes "no-block"
name_word names.Silent = codes "silent"
name_word names.Collision = codes "collision"
name_word names.OldVersion = codes "old-version"
name_word names.NotOurs = codes "not-ours"
name_word names.Moved = codes "moved"
name_word names.Report = codes "report"
name_word names.Broadcast = codes "broadcast"
name_word names.Answered = codes "answered"
name_word names.Passed = codes "passed"
name_word names.Nak = codes "nak"
name_word names.NoAnswer = codes "no-answer"
name_word names.BadFormat = codes "bad-format"

-- the line of an exclusive or a stream packet; a hyphen stands for no group
abbrev pub endpoint_text : ℕ → Option ℕ → OutcomeName → List ℕ
endpoint_text offset group name =
    decimal offset ++ codes " " ++ group_text group ++ codes " " ++ name_word name ++ codes "\n"

-- the protocol in force
abbrev pub protocol_text : ℕ → List ℕ
protocol_text protocol = codes "protocol " ++ decimal protocol ++ codes "\n"

-- the MUID of a block, or that it has none and is silent
abbrev pub muid_text : Option ℕ → List ℕ
muid_text None = codes "silent"
muid_text (Some muid) = codes "muid " ++ decimal muid

abbrev pub block_text : ℕ → Option ℕ → List ℕ
block_text number muid = codes "block " ++ decimal number ++ codes " " ++ muid_text muid ++ codes "\n"

-- the whole function block, a group of it, or a channel of such a group
abbrev pub place_text : Place → List ℕ
place_text place.Function = codes "function"
place_text (place.Group group) = codes "group " ++ decimal group
place_text (place.Channel group channel) = codes "channel " ++ decimal group ++ codes " " ++ decimal channel

abbrev pub state_word : Bool → List ℕ
state_word true = codes "on"
state_word false = codes "off"

-- the number of a profile's block, its place, its five bytes in hexadecimal digits, and whether it is on
abbrev pub profile_text : Profile → Bool → List ℕ
profile_text profile on =
    codes "profile " ++ decimal profile.block ++ codes " " ++ place_text profile.place ++ codes " "
    ++ hex_bytes profile.id
    ++ codes " " ++ state_word on ++ codes "\n"
