-- The state of a responder, and what one message does to it.
use Rattle.std.specs.Prelude.{◌≡◌, ◌<◌, ◌≤◌, ◌^◌, ℕ, Bool, ◌+◌, ◌&&◌, nat_le, nat_lt, if◌then◌else◌, List, []}
use Rattle.std.specs.Prelude.{◌∷◌, length, slice_get, position, Option, None, Some, option_map, option_and_then}
use Rattle.std.proofs.Common.{zero, suc}
use Rattle.std.specs.List.{All}
use Rattle.std.specs.Map.{set_value}
use Rattle.ump_grammar.specs.declared.packet.Packet.{Packet}
use Rattle.ci_messages.specs.Fields.{IsData}
use Rattle.function_blocks.specs.declared.setup.Identity.{Identity}
use Rattle.ci_responder.specs.declared.kept.CiBlock.{CiBlock}
use Rattle.ci_responder.specs.declared.heard.Heard.{Heard}
use Rattle.ci_responder.specs.declared.heard.Heard.TheVariants as heard
use Rattle.ci_responder.specs.declared.keys.Key.{Key}
use Rattle.ci_responder.specs.Keys.{same_key}
use Rattle.ci_responder.specs.Messages.{SaidToResponder, Received, switch, key_at}
use Rattle.ci_responder.specs.Rows.{heard_by, loses_muid, names}
use Rattle.ci_responder.specs.Replies.{Sender, message_of_reply, replies_by, reply_by}

-- the blocks by number, the profiles in the setup's order, and what replies say of the device
pub record Held : Type 0 where
  pub blocks : List CiBlock
  pub states : List (Key × Bool)
  pub identity : Identity
  pub product_id : List ℕ
  pub room : ℕ

pub record IsCiBlock (block : CiBlock) : Type 0 where
  pub groups : block.first + block.count ≤ 16
  pub muids : All (λ muid. muid < 0x0FFFFF00) block.muids
  pub few : length block.muids ≤ 16

-- the rules of a setup that the state keeps
pub record IsHeld (held : Held) : Type 0 where
  pub few_blocks : length held.blocks ≤ 32
  pub blocks : All IsCiBlock held.blocks
  pub few_states : length held.states ≤ 64
  pub manufacturer : (length held.identity.manufacturer ≡ 3) × IsData held.identity.manufacturer
  pub family : (length held.identity.family ≡ 2) × IsData held.identity.family
  pub model : (length held.identity.model ≡ 2) × IsData held.identity.model
  pub revision : (length held.identity.revision ≡ 4) × IsData held.identity.revision
  pub short_id : length held.product_id ≤ 42
  pub product_id : IsData held.product_id
  pub room : held.room < 2 ^ 28

-- a block has MIDI-CI, and this group
abbrev pub has_group : ℕ → CiBlock → Bool
has_group group block = block.has_ci && (nat_le block.first group && nat_lt group (block.first + block.count))

-- the number of the block of a group
abbrev pub block_in : List CiBlock → ℕ → Option ℕ
block_in blocks group = position (has_group group) blocks

-- the MUID in force of a block, if it has MIDI-CI and isn't silent
abbrev pub muid_of : CiBlock → Option ℕ
muid_of block = if block.has_ci then slice_get block.muids block.spent else None

abbrev pub muid_in : List CiBlock → ℕ → Option ℕ
muid_in blocks block = option_and_then muid_of (slice_get blocks block)

-- what a message is heard as, by its block, if it has one
abbrev pub heard_for : Held → Received → Option ℕ → Heard
heard_for held received None = heard.NoBlock
heard_for held received (Some block) =
    heard_by (muid_in held.blocks block) (names held.states block received received.message.said) received.message

abbrev pub heard_in : Held → Received → Heard
heard_in held received = heard_for held received (block_in held.blocks received.group)

-- a block that has used up one more MUID
abbrev pub next : CiBlock → CiBlock
next block = record block { spent = block.spent + 1 }

-- the blocks, one of them changed
abbrev pub change_at : (CiBlock → CiBlock) → ℕ → List CiBlock → List CiBlock
change_at change n [] = []
change_at change zero (block ∷ blocks) = change block ∷ blocks
change_at change (suc n) (block ∷ blocks) = block ∷ change_at change n blocks

-- the blocks after a message that one of them heard so
abbrev pub blocks_by : Heard → ℕ → List CiBlock → List CiBlock
blocks_by heard block blocks = if loses_muid heard then change_at next block blocks else blocks

-- the profiles after a message: a switch that is answered switches its own
abbrev pub states_by : Heard → SaidToResponder → ℕ → Received → List (Key × Bool) → List (Key × Bool)
states_by heard.Answered (switch id on) block received states = set_value (same_key (key_at block received id)) states on
states_by _ _ block received states = states

abbrev pub after_for : Held → Received → Option ℕ → Held
after_for held received None = held
after_for held received (Some block) = record held {
  blocks = blocks_by (heard_for held received (Some block)) block held.blocks;
  states = states_by (heard_for held received (Some block)) received.message.said block received held.states;
}

-- the state after a message
abbrev pub after : Held → Received → Held
after held received = after_for held received (block_in held.blocks received.group)

abbrev pub sender_of : Held → ℕ → ℕ → Sender
sender_of held block muid = record {
  identity = held.identity;
  product_id = held.product_id;
  room = held.room;
  block = block;
  muid = muid;
  states = held.states;
}

abbrev pub sender_in : Held → Option ℕ → Option Sender
sender_in held block = option_and_then (λ n. option_map (sender_of held n) (muid_in held.blocks n)) block

-- the payload of the reply to a message
abbrev pub reply_in : Held → Received → Option (List ℕ)
reply_in held received = reply_by (sender_in held (block_in held.blocks received.group)) (heard_in held received) received

-- the reply as a message, if there is one
abbrev pub message_in : Held → Received → Option (List ℕ)
message_in held received = message_of_reply (reply_in held received)

-- the packets of the reply
abbrev pub replies_in : Held → Received → List Packet
replies_in held received = replies_by (sender_in held (block_in held.blocks received.group)) (heard_in held received) received
