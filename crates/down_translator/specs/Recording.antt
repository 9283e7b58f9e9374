-- The translator's answers to the packets of a recording, one after the other. Packets and answers are listed
-- newest first.
use Rattle.std.specs.Prelude.{◌≡◌, ℕ, ◌==◌, if◌then◌else◌, List, [], ◌∷◌, ◌++◌, length, map, Some, None, Bool}
use Rattle.std.specs.List.{AllByRecursion}
use Rattle.std.specs.Option.{option_to_list}
use Rattle.ump_grammar.specs.declared.packet.Packet.{Packet}
use Rattle.sysex_groups.specs.Table.{table_over}
use Rattle.midi_meaning.specs.declared.listed.Listed.{Listed}
use Rattle.midi_meaning.specs.Parts.{Placed, parts_of}
use Rattle.midi_meaning.specs.Packets.{IsInRange}
use Rattle.midi_meaning.specs.Refusal.{bad_step}
use Rattle.midi_meaning.specs.Styles.{Style}
use Rattle.down_translator.specs.declared.carried.Carried.{Carried}
use Rattle.down_translator.specs.Carried.{lane_in, line_in}
use Rattle.down_translator.specs.Held.{DownState, lanes_after_packet}
use Rattle.down_translator.specs.KeptLanes.{KeptLanes, new_lanes}
use Rattle.down_translator.specs.Step.{IsStep}

abbrev pub packets_of : List Placed → List Packet
packets_of past = map (λ placed. placed.packet) past

-- each packet's fields are in range
abbrev pub AreInRange : List Placed → Type 0
AreInRange past = AllByRecursion (λ placed. IsInRange placed.packet) past

-- no packet is refused after those before it
abbrev pub AreAccepted : ℕ → List Placed → Type 0
AreAccepted room [] = Unit {0}
AreAccepted room (placed ∷ past) = (bad_step (Some room) (parts_of past) placed.packet ≡ None) × AreAccepted room past

-- what is put for an answer: nothing if its piece is empty
abbrev pub pair_put : Carried → List (ℕ × List ℕ)
pair_put carried = if length carried.piece.now == 0 then [] else (lane_in carried, carried.piece.now) ∷ []

-- what is put for the answers, in the order in which they came
abbrev pub pairs_put : List Carried → List (ℕ × List ℕ)
pairs_put [] = []
pairs_put (carried ∷ before) = pairs_put before ++ pair_put carried

-- what is listed for them, in the order in which they came
abbrev pub lines_put : List Carried → List Listed
lines_put [] = []
lines_put (carried ∷ before) = lines_put before ++ option_to_list (line_in carried)

module _ (paired : Bool) where
  -- what is kept of the lanes after these packets, and the state after them
  abbrev pub lanes_of : Style → ℕ → List Placed → KeptLanes
  lanes_of style room [] = new_lanes paired style
  lanes_of style room (placed ∷ past) =
      lanes_after_packet placed.packet (record { exclusives = table_over room (parts_of past); lanes = lanes_of style room past })

  abbrev pub state_of : Style → ℕ → List Placed → DownState
  state_of style room past = record { exclusives = table_over room (parts_of past); lanes = lanes_of style room past }

  -- each answer is that of its packet after those before it
  abbrev pub AreSteps : Style → ℕ → List Placed → List Carried → Type 0
  AreSteps style room [] [] = Unit {0}
  AreSteps style room (placed ∷ past) (carried ∷ before) =
      IsStep (state_of style room past) placed.offset placed.packet carried × AreSteps style room past before
  AreSteps style room _ _ = ⊥
