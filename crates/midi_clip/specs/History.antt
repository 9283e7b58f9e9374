-- A clip, looking back over the packets that came (own rule: it starts with the first Start of Clip before which a packet gives the
-- ticks for a quarter note, and ends with the first End of Clip after that). Lists of packets are newest first.
use Rattle.std.specs.Prelude.{◌≡◌, ℕ, ◌==◌, Bool, true, false, ◌&&◌, if◌then◌else◌, List, [], ◌∷◌}
use Rattle.std.specs.Prelude.{◌++◌, find, sum_by, Option, Some, None, is_some, Result, Ok, Err}
use Rattle.std.specs.List.{AllByRecursion}
use Rattle.std.specs.Option.{option_and_then}
use Rattle.ump_grammar.specs.declared.packet.Packet.{Packet}
use Rattle.midi_clip.specs.declared.role.Role.{Role}
use Rattle.midi_clip.specs.declared.role.Role.TheVariants.{StartOfClip, EndOfClip, Resolution, Delta}
use Rattle.midi_clip.specs.declared.step.ClipStep.{ClipStep}
use Rattle.midi_clip.specs.declared.step.ClipStep.TheVariants.{Before, Began, Event, Delta as Stamp, Ended}
use Rattle.midi_clip.specs.declared.step.ClipFault.{ClipFault}
use Rattle.midi_clip.specs.declared.step.ClipFault.TheVariants.{NoResolution, AfterEnd, NoEnd}
use Rattle.midi_clip.specs.Roles.{role_of, is_start, is_end, is_resolution, ticks_added}

-- ---- its start

-- the ticks for a quarter note that this gives, unless they are 0
abbrev pub ticks_given : Role → Option ℕ
ticks_given (Resolution ticks) = if ticks == 0 then None else Some ticks
ticks_given _ = None

-- the ticks for a quarter note: those of the last packet that gives them
abbrev pub resolution_at : List Packet → Option ℕ
resolution_at past = option_and_then (λ packet. ticks_given (role_of packet)) (find (λ packet. is_resolution (role_of packet)) past)

-- whether a packet after these may start a clip: a Start of Clip, and the ticks for a quarter note are known
abbrev pub can_start : List Packet → Packet → Bool
can_start past packet = is_start (role_of packet) && is_some (resolution_at past)

-- the packets since the clip started: since the first that could start it
abbrev pub since_start_by : Option (List Packet) → Bool → Packet → Option (List Packet)
since_start_by (Some after) can packet = Some (packet ∷ after)
since_start_by None true packet = Some []
since_start_by None false packet = None

abbrev pub since_start : List Packet → Option (List Packet)
since_start [] = None
since_start (packet ∷ past) = since_start_by (since_start past) (can_start past packet) packet

-- The clip started, and these came after that, by their places: a packet could start it, and none before it could.
pub record IsStartedBefore (past after : List Packet) : Type 0 where
  pub before : List Packet
  pub start : Packet
  pub split : past ≡ after ++ start ∷ before
  pub starts : can_start before start ≡ true
  pub first : (newer older : List Packet) (packet : Packet) → before ≡ newer ++ packet ∷ older → can_start older packet ≡ false

-- ---- its end

-- of the packets since the start, those before the first End of Clip
abbrev pub before_end_by : Option (List Packet) → Bool → List Packet → Option (List Packet)
before_end_by (Some within) ends after = Some within
before_end_by None true after = Some after
before_end_by None false after = None

abbrev pub before_end : List Packet → Option (List Packet)
before_end [] = None
before_end (packet ∷ after) = before_end_by (before_end after) (is_end (role_of packet)) after

-- The clip ended, and these came before that since its start, by their places: an End of Clip came, and none before it.
pub record IsEndedAfter (after within : List Packet) : Type 0 where
  pub later : List Packet
  pub end : Packet
  pub split : after ≡ later ++ end ∷ within
  pub ends : is_end (role_of end) ≡ true
  pub first : AllByRecursion (λ packet. is_end (role_of packet) ≡ false) within

-- ---- ticks

-- the sum of the Delta Clockstamps among these
abbrev pub ticks_in : List Packet → ℕ
ticks_in packets = sum_by (λ packet. ticks_added (role_of packet)) packets

abbrev pub ticks_since : Option (List Packet) → ℕ
ticks_since None = 0
ticks_since (Some after) = ticks_in after

-- the ticks at which one more packet stands: the sum of the Delta Clockstamps since the start of the clip
abbrev pub tick_at : List Packet → ℕ
tick_at past = ticks_since (since_start past)

-- ---- what a packet is

-- before the clip starts
abbrev pub step_before : Option ℕ → Role → Result ClipStep ClipFault
step_before (Some resolution) StartOfClip = Ok (Began resolution)
step_before None StartOfClip = Err NoResolution
step_before resolution _ = Ok Before

-- in the clip, at so many ticks
abbrev pub step_within : ℕ → Role → ClipStep
step_within ticks EndOfClip = Ended ticks
step_within ticks (Delta more) = Stamp
step_within ticks _ = Event ticks

-- by the ticks for a quarter note, by whether the clip started, by whether it ended, and by the ticks
abbrev pub step_by : Option ℕ → Bool → Bool → ℕ → Role → Result ClipStep ClipFault
step_by resolution false ended ticks role = step_before resolution role
step_by resolution true false ticks role = Ok (step_within ticks role)
step_by resolution true true ticks role = Err AfterEnd

abbrev pub is_started : List Packet → Bool
is_started past = is_some (since_start past)

-- the packets of the clip, if it ended
abbrev pub ended_clip : List Packet → Option (List Packet)
ended_clip past = option_and_then before_end (since_start past)

abbrev pub is_ended : List Packet → Bool
is_ended past = is_some (ended_clip past)

-- what one more packet is to the clip
abbrev pub step_at : List Packet → Packet → Result ClipStep ClipFault
step_at past packet = step_by (resolution_at past) (is_started past) (is_ended past) (tick_at past) (role_of packet)

-- the ticks at which the clip ended
abbrev pub end_by : Option (List Packet) → Result ℕ ClipFault
end_by (Some within) = Ok (ticks_in within)
end_by None = Err NoEnd

abbrev pub end_at : List Packet → Result ℕ ClipFault
end_at past = end_by (ended_clip past)
