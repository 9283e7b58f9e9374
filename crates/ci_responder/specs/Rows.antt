-- What a message is heard as (M2-101-UM), a row for each: the first that applies.
use Rattle.std.specs.Prelude.{ℕ, Bool, true, false, ◌==◌, ◌&&◌, ◌||◌, not, nat_le, if◌then◌else◌, List, Option, Some, None, is_some}
use Rattle.ci_responder.specs.declared.heard.Heard.{Heard}
use Rattle.ci_responder.specs.declared.heard.Heard.TheVariants as heard
use Rattle.ci_responder.specs.declared.keys.Key.{Key}
use Rattle.ci_responder.specs.Keys.{state_in}
use Rattle.ci_responder.specs.Messages.{SaidToResponder, Message, Received, key_at, discovery, endpoint, invalidate, profiles, switch}

abbrev pub broadcast : ℕ
broadcast = 0x0FFFFFFF

-- a reply, a report, an ACK or a NAK; the replies of Process Inquiry aren't among them (own rule)
abbrev pub is_report : ℕ → Bool
is_report sub =
    sub == 0x71 || sub == 0x73 || sub == 0x21 || (nat_le 0x24 sub && nat_le sub 0x27) || sub == 0x29
    || sub == 0x7D || sub == 0x7F

-- Property Exchange
abbrev pub is_property : ℕ → Bool
is_property sub = nat_le 0x30 sub && nat_le sub 0x3F

-- a message is for the block with this MUID
abbrev pub is_for : ℕ → ℕ → Bool
is_for muid destination = destination == muid || destination == broadcast

-- it invalidates a MUID, and that one isn't this
abbrev pub is_of_another : ℕ → SaidToResponder → Bool
is_of_another muid (invalidate target) = not (target == muid)
is_of_another muid _ = false

abbrev pub is_invalidate : SaidToResponder → Bool
is_invalidate (invalidate target) = true
is_invalidate _ = false

abbrev pub is_discovery : SaidToResponder → Bool
is_discovery (discovery path) = true
is_discovery _ = false

-- It is answered. A switch is, if the setup names its profile.
abbrev pub is_answered : Bool → SaidToResponder → Bool
is_answered named (discovery path) = true
is_answered named (endpoint status) = status == 0
is_answered named profiles = true
is_answered named (switch id on) = named
is_answered named _ = false

-- the row of a message for a block in which this MUID is in force, if it is for that block, from another
-- device, and not of version 00
abbrev pub row_of_ours : ℕ → Bool → Message → Heard
row_of_ours muid named message =
    if is_of_another muid message.said then heard.NotOurs
    else if is_invalidate message.said then heard.Moved
    else if is_report message.sub then heard.Report
    else if message.destination == broadcast && not (is_discovery message.said) then heard.Broadcast
    else if is_answered named message.said then heard.Answered
    else if is_property message.sub then heard.Passed
    else heard.Nak

-- the row of any message
abbrev pub heard_row : ℕ → Bool → Message → Heard
heard_row muid named message =
    if message.source == muid then heard.Collision
    else if message.version == 0 then heard.OldVersion
    else if not (is_for muid message.destination) then heard.NotOurs
    else row_of_ours muid named message

-- the same by the MUID in force, if there is one
abbrev pub heard_by : Option ℕ → Bool → Message → Heard
heard_by None named message = heard.Silent
heard_by (Some muid) named message = heard_row muid named message

-- a message switches a profile that is named
abbrev pub names : List (Key × Bool) → ℕ → Received → SaidToResponder → Bool
names states block received (switch id on) = is_some (state_in states (key_at block received id))
names states block received _ = false

-- a block loses its MUID by a message that it hears so
abbrev pub loses_muid : Heard → Bool
loses_muid heard.Collision = true
loses_muid heard.Moved = true
loses_muid _ = false
