-- What holds of all histories of packets, which are listed the newest first.
use Rattle.std.specs.Prelude.{◌≡◌, ◌≤◌, ℕ, true, List, [], ◌∷◌, Some}
use Rattle.std.specs.List.{AllByRecursion}
use Rattle.std.specs.Option.{option_map}
use Rattle.ump_grammar.specs.Ranges.{IsPacket}
use Rattle.ump_grammar.specs.declared.packet.Packet.{Packet}
use Rattle.sysex_groups.specs.Exclusives.{started}
use Rattle.sysex_groups.specs.Table.{begun_in}
use Rattle.function_blocks.specs.Profiles.{profiles_are_distinct}
use Rattle.function_blocks.specs.Setups.{SetupData}
use Rattle.ci_responder.specs.Held.{muid_in}
use Rattle.ci_responder.specs.History.{muid_at, on_at}
use Rattle.ci_responder.specs.Keys.{state_in}
use Rattle.ci_responder.specs.declared.keys.Key.{Key}
use Rattle.listing_terms.specs.Parts.{Placed, part_of, parts_of}
use Rattle.listing_terms.specs.ExclusiveLines.{bad_part}
use Rattle.ump_endpoint.specs.Answers.{packet_listed, packet_outcome, packet_replies, received_in_packets}
use Rattle.ump_endpoint.specs.Held.{after_packet, held_over, listed_in, new_endpoint, outcome_in, refusal_in, replies_in, reset_endpoint}

-- each of these is a packet that some words decode to
abbrev pub ArePackets : List Placed → Type 0
ArePackets past = AllByRecursion (λ placed. IsPacket placed.packet) past

-- The state after packets answers one more as the definitions do that look back over them. The
-- room is at least 6, as an exclusive packet may have that many bytes.
pub record AnswersAreThoseOfTheHistory : Type 0 where
  pub begins : (setup : SetupData) (room : ℕ) → new_endpoint setup room ≡ held_over setup room []
  pub reset : (setup : SetupData) (room : ℕ) (past : List Placed) →
      reset_endpoint (held_over setup room past) ≡ new_endpoint setup room
  pub refusal : (setup : SetupData) (room : ℕ) (past : List Placed) → 6 ≤ room → ArePackets past →
      (packet : Packet) →
      refusal_in (held_over setup room past) packet ≡ bad_part (Some room) (parts_of past) (part_of 0 packet)
  pub replies : (setup : SetupData) (room : ℕ) (past : List Placed) → 6 ≤ room → ArePackets past →
      (placed : Placed) →
      replies_in (held_over setup room past) placed.packet ≡ packet_replies setup room past placed
  pub outcome : (setup : SetupData) (room : ℕ) (past : List Placed) → 6 ≤ room → ArePackets past →
      (placed : Placed) →
      outcome_in (held_over setup room past) placed.packet ≡ packet_outcome setup room past placed
  pub listed : (setup : SetupData) (room : ℕ) (past : List Placed) → 6 ≤ room → ArePackets past →
      (placed : Placed) →
      listed_in (held_over setup room past) placed.offset placed.packet ≡ packet_listed room past placed
  pub after : (setup : SetupData) (room : ℕ) (past : List Placed) → 6 ≤ room → ArePackets past →
      profiles_are_distinct setup.profiles ≡ true → (placed : Placed) →
      after_packet placed.offset placed.packet (held_over setup room past)
      ≡ held_over setup room (placed ∷ past)
  pub begun : (setup : SetupData) (room : ℕ) (past : List Placed) → 6 ≤ room → ArePackets past →
      (group : ℕ) →
      option_map (λ begun. begun.start) (begun_in (held_over setup room past).exclusives group)
      ≡ started (Some room) group (parts_of past)
  pub muid : (setup : SetupData) (room : ℕ) (past : List Placed) (block : ℕ) →
      muid_in (held_over setup room past).responder.blocks block
      ≡ muid_at setup (received_in_packets room past) block
  pub on : (setup : SetupData) (room : ℕ) (past : List Placed) (key : Key) →
      state_in (held_over setup room past).responder.states key
      ≡ on_at setup (received_in_packets room past) key
