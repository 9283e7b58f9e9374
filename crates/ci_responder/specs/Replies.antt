-- The replies (M2-101-UM), a row for each, and how they are sent.
use Rattle.std.specs.Prelude.{◌≡◌, ◌≤◌, ℕ, Bool, length, true, false, ◌==◌, ◌&&◌, not, if◌then◌else◌}
use Rattle.std.specs.Prelude.{List, [], ◌∷◌, ◌++◌, replicate, Option, Some, None, option_map}
use Rattle.std.proofs.Common.{zero, suc}
use Rattle.std.specs.List.{flat_map}
use Rattle.std.specs.Fork.{slice_chunk}
use Rattle.ump_grammar.specs.declared.packet.Packet.{Packet}
use Rattle.ump_grammar.specs.declared.packet.Packet.TheVariants as packet
use Rattle.sysex_groups.specs.Cut.{form_at, part_count}
use Rattle.ci_messages.specs.declared.kind.Kind.{Kind}
use Rattle.ci_messages.specs.declared.kind.Kind.TheVariants as kind
use Rattle.ci_messages.specs.declared.view.Address.{Address}
use Rattle.ci_messages.specs.declared.view.Address.TheVariants as address
use Rattle.ci_messages.specs.declared.view.CiView.{CiView}
use Rattle.ci_messages.specs.Positions.{bytes4}
use Rattle.ci_messages.specs.Fields.{Value, number, list, bytes_of_fields}
use Rattle.ci_messages.specs.Messages.{fields_of, format_of, sub_of}
use Rattle.ci_messages.specs.Reading.{IsExclusive, ci_fault}
use Rattle.ci_messages.specs.Writing.{address_number, body_bytes, channels_of}
use Rattle.function_blocks.specs.declared.setup.Identity.{Identity}
use Rattle.function_blocks.specs.declared.setup.Place.{Place}
use Rattle.function_blocks.specs.Profiles.{same_place}
use Rattle.ci_responder.specs.declared.heard.Heard.{Heard}
use Rattle.ci_responder.specs.declared.heard.Heard.TheVariants as heard
use Rattle.ci_responder.specs.declared.keys.Key.{Key}
use Rattle.ci_responder.specs.Messages.{SaidToResponder, Message, Received, discovery, endpoint, profiles, switch, place_at}
use Rattle.ci_responder.specs.Rows.{broadcast}

-- who replies: the device, a block with its MUID in force, and its profiles
pub record Sender : Type 0 where
  pub identity : Identity
  pub product_id : List ℕ
  pub room : ℕ
  pub block : ℕ
  pub muid : ℕ
  pub states : List (Key × Bool)

-- the version of a reply: 01 to a message of version 01, else 02 (own rule)
abbrev pub reply_version : Message → ℕ
reply_version message = if message.version == 1 then 1 else 2

-- the bytes between F0 and F7 of a message: its address, sub-id, version, source, destination and body
abbrev pub payload_with : Address → ℕ → ℕ → ℕ → ℕ → List ℕ → List ℕ
payload_with address sub version source destination body =
    0x7E ∷ address_number address ∷ 0x0D ∷ sub ∷ version ∷ ((bytes4 source ++ bytes4 destination) ++ body)

-- Those of a reply to a message: the sub-id and the fields are those of its kind. A field without a place in
-- the format of its version isn't written.
abbrev pub payload : Message → Address → ℕ → ℕ → Kind → List Value → List ℕ
payload message address source destination kind values =
    payload_with address (sub_of kind) (reply_version message) source destination
    (bytes_of_fields (fields_of (format_of (reply_version message)) kind) values)

-- those of a view
abbrev pub payload_of : CiView → List ℕ
payload_of view =
    payload_with view.address view.sub view.version view.source view.destination
    (body_bytes (format_of view.version) view.body)

-- a profile of this block and place that is on, or off
abbrev pub is_listed : Bool → ℕ → Place → (Key × Bool) → Bool
is_listed on block place state =
    state.0.block == block && (same_place state.0.place place && (if on then state.1 else not state.1))

-- its id, if it is
abbrev pub listed : Bool → ℕ → Place → (Key × Bool) → List ℕ
listed on block place state = if is_listed on block place state then state.0.id.bytes else []

-- the ids of the profiles of a place that are on, or off, in the setup's order
abbrev pub ids_of : Bool → ℕ → Place → List (Key × Bool) → List ℕ
ids_of on block place states = flat_map (listed on block place) states

-- the reply to what is answered; 04 is the category of profiles
abbrev pub reply_row : Sender → Received → SaidToResponder → Option (List ℕ)
reply_row sender received (discovery path) =
    Some (payload received.message address.Block sender.muid received.message.source kind.DiscoveryReply
    (list sender.identity.manufacturer ∷ list sender.identity.family ∷ list sender.identity.model
    ∷ list sender.identity.revision ∷ number 4 ∷ number sender.room ∷ number path ∷ number sender.block ∷ []))
reply_row sender received (endpoint status) =
    Some (payload received.message received.message.address sender.muid received.message.source kind.EndpointReply
    (number 0 ∷ list sender.product_id ∷ []))
reply_row sender received profiles =
    Some (payload received.message received.message.address sender.muid received.message.source kind.ProfileReply
    (list (ids_of true sender.block (place_at received.message.address received.group) sender.states)
    ∷ list (ids_of false sender.block (place_at received.message.address received.group) sender.states) ∷ []))
reply_row sender received (switch id true) =
    Some (payload received.message received.message.address sender.muid broadcast kind.EnabledReport
    (list id.bytes ∷ number (channels_of received.message.address) ∷ []))
reply_row sender received (switch id false) =
    Some (payload received.message received.message.address sender.muid broadcast kind.DisabledReport
    (list id.bytes ∷ number (channels_of received.message.address) ∷ []))
reply_row sender received _ = None

-- the old MUID is invalidated for all
abbrev pub invalidation : Sender → Message → List ℕ
invalidation sender message =
    payload message address.Block sender.muid broadcast kind.Invalidate (number sender.muid ∷ [])

-- a NAK: the sub-id of the message that it answers, and nine zeros
abbrev pub nak : Sender → Message → List ℕ
nak sender message =
    payload message message.address sender.muid message.source kind.Nak
    (number message.sub ∷ number 0 ∷ number 0 ∷ list (replicate 5 0) ∷ list [] ∷ [])

-- the first packets of a payload that is sent on a group
abbrev pub first_packets : ℕ → List ℕ → ℕ → List Packet
first_packets group bytes zero = []
first_packets group bytes (suc k) =
    first_packets group bytes k
    ++ packet.Exclusive group (form_at (part_count bytes) k) (slice_chunk bytes 6 k) ∷ []

-- all of them, if there is a payload
abbrev pub packets_of : ℕ → List ℕ → List Packet
packets_of group bytes = first_packets group bytes (part_count bytes)

abbrev pub sent : ℕ → Option (List ℕ) → List Packet
sent group None = []
sent group (Some bytes) = packets_of group bytes

-- the payload of the reply to a message that is heard so
abbrev pub reply_to : Sender → Heard → Received → Option (List ℕ)
reply_to sender heard.Collision received = Some (invalidation sender received.message)
reply_to sender heard.Answered received = reply_row sender received received.message.said
reply_to sender heard.Nak received = Some (nak sender received.message)
reply_to sender _ received = None

-- a message from F0 to F7 for each payload
abbrev pub message_of_payload : List ℕ → List ℕ
message_of_payload bytes = 0xF0 ∷ bytes ++ 0xF7 ∷ []

-- the message that a reply is, if there is one
abbrev pub message_of_reply : Option (List ℕ) → Option (List ℕ)
message_of_reply reply = option_map message_of_payload reply

-- a message that is read without a fault, and has at most 57 packets
abbrev pub IsMessage : List ℕ → Type 0
IsMessage message = IsExclusive message × (ci_fault message ≡ None) × (length message ≤ 344)

-- the payload of the reply, by who replies; there is none without a MUID in force
abbrev pub reply_by : Option Sender → Heard → Received → Option (List ℕ)
reply_by None heard received = None
reply_by (Some sender) heard received = reply_to sender heard received

-- The reply goes out on the message's group.
abbrev pub replies_by : Option Sender → Heard → Received → List Packet
replies_by sender heard received = sent received.group (reply_by sender heard received)
