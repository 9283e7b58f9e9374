-- What a history of messages says. It lists the messages of all groups, the newest first, and is searched
-- from the newest back.
use Rattle.std.specs.Prelude.{ℕ, Bool, ◌+◌, ◌==◌, ◌&&◌, nat_le, nat_lt, if◌then◌else◌, List, [], ◌∷◌, map}
use Rattle.std.specs.Prelude.{slice_get, position, Option, None, Some, option_map, option_and_then, unwrap_or}
use Rattle.ump_grammar.specs.declared.packet.Packet.{Packet}
use Rattle.function_blocks.specs.declared.setup.Block.{Block}
use Rattle.function_blocks.specs.declared.setup.Profile.{Profile}
use Rattle.function_blocks.specs.Blocks.{has_ci}
use Rattle.function_blocks.specs.Setups.{SetupData, identity_of}
use Rattle.ci_responder.specs.declared.kept.CiBlock.{CiBlock}
use Rattle.ci_responder.specs.declared.heard.Heard.{Heard}
use Rattle.ci_responder.specs.declared.heard.Heard.TheVariants as heard
use Rattle.ci_responder.specs.declared.keys.Key.{Key}
use Rattle.ci_responder.specs.Keys.{same_key, key_of, first_states, state_in}
use Rattle.ci_responder.specs.Messages.{SaidToResponder, Received, switch, key_at}
use Rattle.ci_responder.specs.Rows.{heard_by, loses_muid, names}
use Rattle.ci_responder.specs.Replies.{Sender, replies_by, reply_by}
use Rattle.ci_responder.specs.Held.{Held}

-- a block of the setup has MIDI-CI, and this group
abbrev pub covers : ℕ → Block → Bool
covers group block = has_ci block && (nat_le block.first group && nat_lt group (block.first + block.count))

-- the MUID at a place of the list of a block with MIDI-CI
abbrev pub muid_with : ℕ → Block → Option ℕ
muid_with spent block = if has_ci block then slice_get block.muids spent else None

-- whether an accepted switch is that of a profile, and then what it sets it to
abbrev pub switched : Key → ℕ → Received → SaidToResponder → Option Bool
switched key block received (switch id on) = if same_key (key_at block received id) key then Some on else None
switched key block received _ = None

-- the switch of a profile that a message is, if it is heard so by its block and accepted
abbrev pub accepted_by : Key → Option ℕ → Heard → Received → Option Bool
accepted_by key (Some block) heard.Answered received = switched key block received received.message.said
accepted_by key _ _ received = None

-- the newer of two, if it is there
abbrev pub newer_or : {A : Type 0} → Option A → Option A → Option A
newer_or (Some newer) older = Some newer
newer_or None older = older

-- one more is used up of this block by a message that its block hears as a collision or as moved
abbrev pub spent_more : ℕ → Option ℕ → Heard → ℕ → ℕ
spent_more block None heard spent = spent
spent_more block (Some own) heard spent = if own == block && loses_muid heard then spent + 1 else spent

-- a block that has used up so many MUIDs
abbrev pub kept : ℕ → Block → CiBlock
kept spent block = record { has_ci = has_ci block; first = block.first; count = block.count; muids = block.muids; spent = spent }

-- the blocks from a number on, by how many MUIDs each has used up
abbrev pub kept_from : ℕ → (ℕ → ℕ) → List Block → List CiBlock
kept_from number spent [] = []
kept_from number spent (block ∷ blocks) = kept (spent number) block ∷ kept_from (number + 1) spent blocks

module _ (setup : SetupData) where
  -- the number of the block of a group: the one that is active, has MIDI-CI, and covers it
  abbrev pub block_of : ℕ → Option ℕ
  block_of group = position (covers group) setup.blocks

  -- what a message is heard as by its block, if any, when the blocks have used up so many MUIDs
  abbrev pub heard_with : Option ℕ → (ℕ → ℕ) → Received → Heard
  heard_with None spent received = heard.NoBlock
  heard_with (Some block) spent received =
      heard_by (option_and_then (muid_with (spent block)) (slice_get setup.blocks block))
      (names (first_states setup.profiles) block received received.message.said) received.message

  -- how many MUIDs a block has used up
  abbrev pub spent_at : List Received → ℕ → ℕ
  spent_at [] block = 0
  spent_at (received ∷ past) block =
      spent_more block (block_of received.group) (heard_with (block_of received.group) (spent_at past) received) (spent_at past block)

  -- the MUID in force of a block
  abbrev pub muid_at : List Received → ℕ → Option ℕ
  muid_at past block = option_and_then (muid_with (spent_at past block)) (slice_get setup.blocks block)

  -- what a message that comes after these is heard as
  abbrev pub heard_at : List Received → Received → Heard
  heard_at past received = heard_with (block_of received.group) (spent_at past) received

  -- the switch of a profile that a message after these is, if it is accepted
  abbrev pub accepted_at : List Received → Received → Key → Option Bool
  accepted_at past received key = accepted_by key (block_of received.group) (heard_at past received) received

  -- the last accepted switch of a profile
  abbrev pub last_switch : List Received → Key → Option Bool
  last_switch [] key = None
  last_switch (received ∷ past) key = newer_or (accepted_at past received key) (last_switch past key)

  -- whether a profile is on: by its last accepted switch, else as the setup says; none if the setup doesn't
  -- name it
  abbrev pub on_at : List Received → Key → Option Bool
  on_at past key = option_map (unwrap_or (last_switch past key)) (state_in (first_states setup.profiles) key)

  -- the profiles in the setup's order, each on or off
  abbrev pub states_at : List Received → List Profile → List (Key × Bool)
  states_at past profiles = map (λ p. (key_of p, unwrap_or (last_switch past (key_of p)) p.on)) profiles

  module _ (room : ℕ) where
    -- who replies after these messages: a block with its MUID in force
    abbrev pub sender_at : List Received → ℕ → ℕ → Sender
    sender_at past block muid = record {
      identity = identity_of setup;
      product_id = setup.endpoint.id;
      room = room;
      block = block;
      muid = muid;
      states = states_at past setup.profiles;
    }

    abbrev pub sender_of_block : List Received → Option ℕ → Option Sender
    sender_of_block past block = option_and_then (λ n. option_map (sender_at past n) (muid_at past n)) block

    -- the payload of the reply to a message that comes after these
    abbrev pub reply_at : List Received → Received → Option (List ℕ)
    reply_at past received = reply_by (sender_of_block past (block_of received.group)) (heard_at past received) received

    -- the packets of the reply
    abbrev pub replies_at : List Received → Received → List Packet
    replies_at past received = replies_by (sender_of_block past (block_of received.group)) (heard_at past received) received

    -- what a responder holds after these messages
    abbrev pub responder_at : List Received → Held
    responder_at past = record {
      blocks = kept_from 0 (spent_at past) setup.blocks;
      states = states_at past setup.profiles;
      identity = identity_of setup;
      product_id = setup.endpoint.id;
      room = room;
    }
