use Rattle.std.proofs.Common.{◌≡◌, ◌∙◌, ap, Bool, List, ℕ}
use Rattle.ump_grammar.specs.declared.packet.Packet.{Packet}
use Rattle.midi_meaning.specs.Parts.{Placed, group_of}
use Rattle.midi_meaning.specs.Plain.{plain_piece}
use Rattle.midi_meaning.specs.Styles.{plain_style}
use Rattle.down_translator.specs.Held.{DownState, paired_of, whole_in}
use Rattle.down_translator.specs.KeptLanes.{piece_by}
use Rattle.down_translator.specs.Recording.{state_of}
use Rattle.down_translator.specs.Step.{lane_before, piece_of}
use Rattle.down_translator.proofs.HeldLaws.{held-told, held-behind, unchanged}
use Rattle.down_translator.proofs.LaneLaws.{lanes-whole}
use Rattle.down_translator.proofs.StyledLaws.{plain_is}
use Rattle.down_translator.proofs.laws.what_is_held_is_the_definition.Goals as goal

plain_piece_is : (paired : Bool) (room : ℕ) (past : List Placed) (packet : Packet) →
    piece_of (state_of paired plain_style room past) packet
    ≡ plain_piece paired (whole_in (state_of paired plain_style room past) packet) packet
plain_piece_is paired room past packet =
    let state : DownState = state_of paired plain_style room past in
    ap (λ style. piece_by (paired_of state) style (lane_before state (group_of packet)) (whole_in state packet) packet)
    (lanes-whole paired plain_style room past).0
    ∙ ap (λ q. piece_by q plain_style (lane_before state (group_of packet)) (whole_in state packet) packet)
    (lanes-whole paired plain_style room past).2
    ∙ plain_is paired (lane_before state (group_of packet)) (whole_in state packet) packet

pub returns : goal.returns
returns c = λ paired.
    let fed = c.fed_parts_are_the_definition.ensures in
    record {
      style = λ style room past. (lanes-whole paired style room past).0;
      paired_is = λ style room past. (lanes-whole paired style room past).2;
      plain = plain_piece_is paired;
      whole = λ style room past least a packet. (held-told paired fed style room past least a packet).whole;
      begun = λ style room past least a packet. (held-told paired fed style room past least a packet).begun;
      refusal = λ style room past least a packet. (held-told paired fed style room past least a packet).refusal;
      behind = held-behind paired;
      unchanged = unchanged;
    }
