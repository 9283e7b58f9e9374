-- What an exclusive leaves of the lanes, by the answer to its part.
use Rattle.std.proofs.Common.{ℕ, ◌≡◌, refl, List, ◌++◌, length, Option, Some, None, Bool, true, false, cond, is_some}
use Rattle.std.specs.Option.{option_map}
use Rattle.voice_messages.specs.declared.voice2.Form.{Form}
use Rattle.voice_messages.specs.declared.voice2.Form.TheVariants as form
use Rattle.ump_grammar.specs.declared.packet.Packet.TheVariants as packet
use Rattle.sysex_groups.specs.Exclusives.{ended_by, fits, framed}
use Rattle.sysex_groups.specs.Exclusives as exclusives
use Rattle.sysex_groups.specs.Table.{Begun, answer_of, begun_in}
use Rattle.midi_meaning.specs.Styles.{Style, plain_style, compact_style}
use Rattle.midi_meaning.specs.LaneState.{LaneState}
use Rattle.down_translator.specs.Held.{DownState, bad_answer, lanes_after_packet, unless_refused}
use Rattle.down_translator.specs.KeptLanes.{KeptLanes, lane_written, lanes_after, with_exclusive}

abbrev After : KeptLanes → ℕ → Form → List ℕ → exclusives.Answer → Option (List ℕ) → KeptLanes
After lanes group f bytes answer whole =
    lanes_after (unless_refused (bad_answer answer) (lane_written whole (packet.Exclusive group f bytes))) whole
    (packet.Exclusive group f bytes) lanes

abbrev IfEnds : KeptLanes → ℕ → Option (List ℕ) → KeptLanes
IfEnds lanes group whole = cond (is_some whole) (with_exclusive group lanes) lanes

ended : (paired : Bool) (style : Style) (states : List LaneState) (group : ℕ) (f : Form) (bytes whole : List ℕ) →
    lanes_after (Some group) (Some whole) (packet.Exclusive group f bytes) (record { style = style; paired = paired; states = states })
    ≡ with_exclusive group (record { style = style; paired = paired; states = states })
ended paired plain_style states group f bytes whole = refl
ended paired compact_style states group f bytes whole = refl

by_whole : (lanes : KeptLanes) (room : Option ℕ) (begun : Option Begun) (group : ℕ) (f : Form) (bytes : List ℕ) →
    After lanes group f bytes (answer_of room begun f bytes) (ended_by room f (option_map (λ (b : Begun). b.bytes) begun) bytes)
    ≡ IfEnds lanes group (ended_by room f (option_map (λ (b : Begun). b.bytes) begun) bytes)
by_whole lanes room None group form.Complete bytes = ended lanes.paired lanes.style lanes.states group form.Complete bytes bytes
by_whole lanes room (Some b) group form.Complete bytes = ended lanes.paired lanes.style lanes.states group form.Complete bytes bytes
by_whole lanes room None group form.Start bytes = refl
by_whole lanes room (Some b) group form.Start bytes = refl
by_whole lanes room None group form.Continue bytes = refl
by_whole lanes room (Some b) group form.Continue bytes = go (fits room (length (b.bytes ++ bytes)))
  where
    go : (t : Bool) → After lanes group form.Continue bytes (cond t exclusives.held exclusives.too_long) None ≡ lanes
    go true = refl
    go false = refl
by_whole lanes room None group form.End bytes = refl
by_whole lanes room (Some b) group form.End bytes = go (fits room (length (b.bytes ++ bytes)))
  where
    go : (t : Bool)
        → After lanes group form.End bytes (cond t (exclusives.whole (framed (b.bytes ++ bytes))) exclusives.too_long)
        (cond t (Some (b.bytes ++ bytes)) None)
        ≡ IfEnds lanes group (cond t (Some (b.bytes ++ bytes)) None)
    go true = ended lanes.paired lanes.style lanes.states group form.End bytes (b.bytes ++ bytes)
    go false = refl

pub exclusive_lanes : (state : DownState) (group : ℕ) (f : Form) (bytes : List ℕ) →
    lanes_after_packet (packet.Exclusive group f bytes) state
    ≡ cond (is_some (ended_by (Some state.exclusives.room) f (option_map (λ (b : Begun). b.bytes) (begun_in state.exclusives group)) bytes))
    (with_exclusive group state.lanes) state.lanes
exclusive_lanes state group f bytes = by_whole state.lanes (Some state.exclusives.room) (begun_in state.exclusives group) group f bytes

-- in plain style nothing is kept of it
pub plain_part : (paired : Bool) (states : List LaneState) (group : ℕ) (ends : Bool) →
    record { style = plain_style; paired = paired; states = states }
    ≡ cond ends (with_exclusive group (record { style = plain_style; paired = paired; states = states }))
    (record { style = plain_style; paired = paired; states = states })
plain_part paired states group true = refl
plain_part paired states group false = refl
