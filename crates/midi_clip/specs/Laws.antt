-- What holds of all clips.
use Rattle.std.specs.Prelude.{◌≡◌, false, List, Some, Err}
use Rattle.ump_grammar.specs.declared.packet.Packet.{Packet}
use Rattle.midi_clip.specs.declared.role.Role.{Role}
use Rattle.midi_clip.specs.declared.step.ClipFault.{ClipFault}
use Rattle.midi_clip.specs.declared.step.Stage.{Stage}
use Rattle.midi_clip.specs.History.{IsEndedAfter, IsStartedBefore, before_end, end_at, is_ended, since_start, step_at, tick_at}
use Rattle.midi_clip.specs.Roles.{role_of}
use Rattle.midi_clip.specs.Stages.{end_of, stage_after, stage_at, stage_over, step_of, ticks_of}

-- At which packets a clip started and ended is what the places of its packets say. Folding the step over any packets is the definition:
-- what one more packet is, the ticks, and at which packet the clip ended. A fault leaves the clip as it was.
pub record ClipsAreTheDefinition : Type 0 where
  pub starts : (past after : List Packet) → IsStartedBefore past after → since_start past ≡ Some after
  pub started : (past after : List Packet) → since_start past ≡ Some after → IsStartedBefore past after
  pub ends : (after within : List Packet) → IsEndedAfter after within → before_end after ≡ Some within
  pub ended : (after within : List Packet) → before_end after ≡ Some within → IsEndedAfter after within
  pub stage : (past : List Packet) → stage_over past ≡ stage_at past
  pub steps : (past : List Packet) (packet : Packet) → step_of (stage_over past) (role_of packet) ≡ step_at past packet
  pub ticks : (past : List Packet) → is_ended past ≡ false → ticks_of (stage_over past) ≡ tick_at past
  pub end : (past : List Packet) → end_of (stage_over past) ≡ end_at past
  pub fault : (stage : Stage) (role : Role) (fault : ClipFault) → step_of stage role ≡ Err fault → stage_after stage role ≡ stage
