-- What holds of all histories of messages, which are listed the newest first.
use Rattle.std.specs.Prelude.{◌≡◌, ℕ, Bool, true, false, List, ◌∷◌, slice_get, Some}
use Rattle.function_blocks.specs.declared.setup.Block.{Block}
use Rattle.function_blocks.specs.Blocks.{are_apart}
use Rattle.function_blocks.specs.Profiles.{profiles_are_distinct}
use Rattle.function_blocks.specs.Setups.{SetupData}
use Rattle.ci_responder.specs.declared.keys.Key.{Key}
use Rattle.ci_messages.specs.declared.view.CiView.{CiView}
use Rattle.ci_messages.specs.Reading.{CiSpells}
use Rattle.ci_responder.specs.Keys.{same_key, state_in}
use Rattle.ci_responder.specs.Messages.{Received, received_of}
use Rattle.ci_responder.specs.Read.{received_in}
use Rattle.ci_responder.specs.Reset.{IsOf}
use Rattle.ci_responder.specs.Held.{Held, after, heard_in, muid_in, replies_in, reply_in}
use Rattle.ci_responder.specs.History.{accepted_at, block_of, covers, heard_at, responder_at, muid_at, on_at, replies_at, reply_at}

-- The state after a history is what the history says: `heard`, `replies`, `muid` and `on` of it are those
-- of the history, and one more message leaves what the longer history says.
pub record HeldIsTheHistory : Type 0 where
  pub heard : (setup : SetupData) (room : ℕ) (past : List Received) (received : Received) →
      heard_in (responder_at setup room past) received ≡ heard_at setup past received
  pub reply : (setup : SetupData) (room : ℕ) (past : List Received) (received : Received) →
      reply_in (responder_at setup room past) received ≡ reply_at setup room past received
  pub replies : (setup : SetupData) (room : ℕ) (past : List Received) (received : Received) →
      replies_in (responder_at setup room past) received ≡ replies_at setup room past received
  pub after : (setup : SetupData) (room : ℕ) (past : List Received) (received : Received) →
      profiles_are_distinct setup.profiles ≡ true →
      after (responder_at setup room past) received ≡ responder_at setup room (received ∷ past)
  pub muid : (setup : SetupData) (room : ℕ) (past : List Received) (block : ℕ) →
      muid_in (responder_at setup room past).blocks block ≡ muid_at setup past block
  pub on : (setup : SetupData) (room : ℕ) (past : List Received) (key : Key) →
      state_in (responder_at setup room past).states key ≡ on_at setup past key

-- an accepted switch of one profile leaves each other as it was
abbrev pub SwitchesStandAlone : Type 0
SwitchesStandAlone =
    (setup : SetupData) (past : List Received) (received : Received) (one other : Key) (on : Bool) →
    accepted_at setup past received one ≡ Some on → same_key one other ≡ false →
    on_at setup (received ∷ past) other ≡ on_at setup past other

-- The block of a group is an active one with MIDI-CI that has the group, and it is the only one.
pub record BlockOfIsTheOne : Type 0 where
  pub has : (setup : SetupData) (group number : ℕ) → block_of setup group ≡ Some number →
      (block : Block) × (slice_get setup.blocks number ≡ Some block) × (covers group block ≡ true)
  pub only : (setup : SetupData) (group number : ℕ) (block : Block) → are_apart setup.blocks ≡ true →
      slice_get setup.blocks number ≡ Some block → covers group block ≡ true →
      block_of setup group ≡ Some number

-- a view says what the bytes say that spell it
abbrev pub ViewsTellTheirBytes : Type 0
ViewsTellTheirBytes =
    (group : ℕ) (message : List ℕ) (view : CiView) → CiSpells view message →
    received_of group view ≡ received_in group message

-- a responder is one of its setup and keeps its room, whatever it hears
pub record StaysOfItsSetup : Type 0 where
  pub room : (held : Held) (received : Received) → (after held received).room ≡ held.room
  pub at : (setup : SetupData) (room : ℕ) (past : List Received) → IsOf setup (responder_at setup room past)
  pub after : (setup : SetupData) (held : Held) (received : Received) → IsOf setup held →
      IsOf setup (after held received)
