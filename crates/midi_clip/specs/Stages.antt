-- How far a clip is, packet by packet.
use Rattle.std.specs.Prelude.{ℕ, ◌+◌, ◌<◌, List, [], ◌∷◌, Option, Some, None, Result, Ok, Err}
use Rattle.ump_grammar.specs.declared.packet.Packet.{Packet}
use Rattle.midi_clip.specs.declared.role.Role.{Role}
use Rattle.midi_clip.specs.declared.role.Role.TheVariants.{StartOfClip, EndOfClip, Resolution, Delta}
use Rattle.midi_clip.specs.declared.step.ClipStep.{ClipStep}
use Rattle.midi_clip.specs.declared.step.ClipFault.{ClipFault}
use Rattle.midi_clip.specs.declared.step.ClipFault.TheVariants.{AfterEnd, NoEnd}
use Rattle.midi_clip.specs.declared.step.Stage.{Stage}
use Rattle.midi_clip.specs.declared.step.Stage.TheVariants.{NotStarted, Started, Ended}
use Rattle.midi_clip.specs.History.{before_end, resolution_at, since_start, step_before, step_within, ticks_given, ticks_in}
use Rattle.midi_clip.specs.Roles.{role_of}

-- no packet has come
abbrev pub new_stage : Stage
new_stage = NotStarted None

-- ticks for a quarter note that are kept are not 0
abbrev pub HasTicks : Stage → Type 0
HasTicks (NotStarted (Some ticks)) = 0 < ticks
HasTicks stage = Unit {0}

-- the ticks so far
abbrev pub ticks_of : Stage → ℕ
ticks_of (NotStarted resolution) = 0
ticks_of (Started ticks) = ticks
ticks_of (Ended ticks) = ticks

-- what one more packet is
abbrev pub step_of : Stage → Role → Result ClipStep ClipFault
step_of (NotStarted resolution) role = step_before resolution role
step_of (Started ticks) role = Ok (step_within ticks role)
step_of (Ended ticks) role = Err AfterEnd

abbrev pub after_waiting : Option ℕ → Role → Stage
after_waiting (Some resolution) StartOfClip = Started 0
after_waiting None StartOfClip = NotStarted None
after_waiting resolution (Resolution ticks) = NotStarted (ticks_given (Resolution ticks))
after_waiting resolution _ = NotStarted resolution

abbrev pub after_started : ℕ → Role → Stage
after_started ticks EndOfClip = Ended ticks
after_started ticks (Delta more) = Started (ticks + more)
after_started ticks _ = Started ticks

-- how far the clip is after it
abbrev pub stage_after : Stage → Role → Stage
stage_after (NotStarted resolution) role = after_waiting resolution role
stage_after (Started ticks) role = after_started ticks role
stage_after (Ended ticks) role = Ended ticks

-- how far it is after these packets, newest first
abbrev pub stage_over : List Packet → Stage
stage_over [] = new_stage
stage_over (packet ∷ past) = stage_after (stage_over past) (role_of packet)

-- the same by the definition that looks back over them
abbrev pub stage_within : Option (List Packet) → List Packet → Stage
stage_within (Some within) after = Ended (ticks_in within)
stage_within None after = Started (ticks_in after)

abbrev pub stage_by : Option ℕ → Option (List Packet) → Stage
stage_by resolution (Some after) = stage_within (before_end after) after
stage_by resolution None = NotStarted resolution

abbrev pub stage_at : List Packet → Stage
stage_at past = stage_by (resolution_at past) (since_start past)

-- the ticks at which it ended
abbrev pub end_of : Stage → Result ℕ ClipFault
end_of (Ended ticks) = Ok ticks
end_of (NotStarted resolution) = Err NoEnd
end_of (Started ticks) = Err NoEnd
