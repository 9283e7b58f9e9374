-- What an initiator notes of a message, a row for each: the first that applies.
use Rattle.std.specs.Prelude.{ℕ, Bool, true, false, ◌==◌, ◌&&◌, ◌||◌, not, if◌then◌else◌, List, position, Option, Some, None, is_none}
use Rattle.std.specs.Str.{bytes_eq}
use Rattle.ci_messages.specs.declared.view.Address.{Address}
use Rattle.ci_messages.specs.declared.view.Address.TheVariants as address
use Rattle.ci_responder.specs.Rows.{broadcast}
use Rattle.ci_initiator.specs.declared.watch.Watch.{Watch}
use Rattle.ci_initiator.specs.declared.noted.Noted.{Noted}
use Rattle.ci_initiator.specs.declared.noted.Noted.TheVariants as noted
use Rattle.ci_initiator.specs.Incoming.{SaidToInitiator, Incoming, device, invalidate, report, inventory, other, lists}

abbrev pub same_address : Address → Address → Bool
same_address (address.Channel channel) (address.Channel another) = channel == another
same_address address.Group address.Group = true
same_address address.Block address.Block = true
same_address _ _ = false

-- a message comes from the place of a watch: its group, and its address there
abbrev pub is_at : Watch → Incoming → Bool
is_at watch incoming = watch.group == incoming.group && same_address watch.address incoming.address

-- a message is a report of the profile of a watch
abbrev pub is_report_of : List ℕ → Incoming → Watch → Bool
is_report_of id incoming watch = is_at watch incoming && bytes_eq id watch.id.bytes

-- a message is from the peer, if one is known
abbrev pub is_from : Option ℕ → ℕ → Bool
is_from None source = false
is_from (Some peer) source = source == peer

-- the watch that a report is of, if any; watches are all different
abbrev pub told_row : Option ℕ → Noted
told_row None = noted.Other
told_row (Some k) = noted.Told k

-- the row of a message that is for the initiator, by the peer that is known
abbrev pub row_of_said : Option ℕ → List Watch → Incoming → SaidToInitiator → Noted
row_of_said peer watches incoming device =
    if is_none peer || is_from peer incoming.source then noted.Peer else noted.Other
row_of_said peer watches incoming (invalidate target) = if is_from peer target then noted.Gone else noted.Other
row_of_said peer watches incoming (report id on) =
    if is_from peer incoming.source then told_row (position (is_report_of id incoming) watches) else noted.Other
row_of_said peer watches incoming (inventory on off) =
    if is_from peer incoming.source then noted.Inventory else noted.Other
row_of_said peer watches incoming other = noted.Other

-- the row of a message for the initiator of this MUID
abbrev pub noted_row : ℕ → Option ℕ → List Watch → Incoming → Noted
noted_row muid peer watches incoming =
    if incoming.source == muid then noted.Other
    else if not (incoming.destination == muid || incoming.destination == broadcast) then noted.Other
    else row_of_said peer watches incoming incoming.said

-- what is said of a profile by its id
abbrev pub state_told : List ℕ → SaidToInitiator → Option Bool
state_told id (report another on) = if bytes_eq another id then Some on else None
state_told id (inventory on off) = if lists id on then Some true else if lists id off then Some false else None
state_told id _ = None

-- what a message says of the profile of a watch: a report, or an inventory of its place
abbrev pub tells : Incoming → Watch → Option Bool
tells incoming watch = if is_at watch incoming then state_told watch.id.bytes incoming.said else None

-- what a message that is noted so tells of a watch
abbrev pub tells_by : Noted → Incoming → Watch → Option Bool
tells_by (noted.Told k) incoming watch = tells incoming watch
tells_by noted.Inventory incoming watch = tells incoming watch
tells_by _ incoming watch = None

abbrev pub is_peer : Noted → Bool
is_peer noted.Peer = true
is_peer _ = false

abbrev pub is_gone : Noted → Bool
is_gone noted.Gone = true
is_gone _ = false
