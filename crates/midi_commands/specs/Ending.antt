-- What comes after a run: what was gathered is written out, and the last line of a fault at that is put.
use Rattle.std.specs.Prelude.{◌≡◌, ◌≤◌, ◌⊎◌, ℕ, true, List, Option, IsOk, OnErr, Result, MatchOption}
use Rattle.std.specs.Io.KnownBytes.{Keeps}
use Rattle.midi_edge.specs.Adapters.{Accepts}
use Rattle.outside.specs.Outside.{HasCause, Rose}
use Rattle.outside.specs.declared.objects.Failed.{Failed}
use Rattle.outside.specs.declared.objects.Lanes as lanes
use Rattle.outside.specs.declared.objects.Sink as sink
use Rattle.pass_loop.specs.Places.{Counts, places}
use Rattle.midi_commands.specs.ExitCode.{is_fault}
use Rattle.midi_commands.specs.LastLine.{last_line_text}
use Rattle.midi_commands.specs.declared.status.Status.{Status}
use Rattle.midi_commands.specs.declared.status.Status.TheVariants.{LaneFault, OutputFault, NoteFault}

-- the last line of a status is accepted after what was, or at `Err` a front of it; if it has none, nothing
-- fails and what was accepted stays
abbrev pub AcceptsLast : Status → Option (List ℕ) → Option (List ℕ) → Result (Unit {0}) Failed → Type 0
AcceptsLast status old new answer =
    MatchOption (last_line_text status) (IsOk answer × Keeps old new) (λ line. Accepts old new answer line)

-- the last line of a status is put in the notes, or that failed and the count of their faults rose
abbrev pub PutsLast : Status → Option (List ℕ) → Option (List ℕ) → ℕ → ℕ → Type 0
PutsLast status old new before now =
    (answer : Result (Unit {0}) Failed) × HasCause before now answer × AcceptsLast status old new answer

-- the counts of faults of the lanes, the output and the notes
abbrev pub fault_counts : {L W N : Type 0} → lanes.Ghosts L → sink.Ghosts W → sink.Ghosts N → L → W → N →
    Counts
fault_counts L W N l w n = (places L W N l w n).faults

-- The status once all is written out, if it wasn't a fault before: that of the first of the lanes, the output
-- and the notes, in this order, that failed, or the same as before if none did.
abbrev pub WritesOut : Status → Status → Counts → Counts → Type 0
WritesOut status LaneFault old new = Rose old.lanes new.lanes
WritesOut status OutputFault old new = (new.lanes ≡ old.lanes) × Rose old.output new.output
WritesOut status NoteFault old new = (new ≡ record old { notes = new.notes }) × Rose old.notes new.notes
WritesOut status end old new = (end ≡ status) × (new ≡ old)

-- the last line of a status that came when all was written out: a status that is no fault has its line already
abbrev pub AcceptsLate : Status → Option (List ℕ) → Option (List ℕ) → Result (Unit {0}) Failed → Type 0
AcceptsLate LaneFault old new answer = AcceptsLast LaneFault old new answer
AcceptsLate OutputFault old new answer = AcceptsLast OutputFault old new answer
AcceptsLate end old new answer = IsOk answer × Keeps old new

-- How a run that hadn't ended by a fault ends after all is written out. The last line of a fault stands in the
-- notes after what they had accepted, or a front of it, and then the count of their faults rose.
pub record EndsAs (status end : Status) (before now : Counts) (old new : Option (List ℕ)) : Type 0 where
  pub first : WritesOut status end before now
  pub answer : Result (Unit {0}) Failed
  pub failed : OnErr answer (Rose before.notes now.notes)
  pub line : AcceptsLate end old new answer

-- the same of the lanes and the output alone
abbrev pub WritesBoth : Status → Status → ℕ → ℕ → ℕ → ℕ → Type 0
WritesBoth status LaneFault lanes lanes_now output output_now = Rose lanes lanes_now
WritesBoth status OutputFault lanes lanes_now output output_now = (lanes_now ≡ lanes) × Rose output output_now
WritesBoth status end lanes lanes_now output output_now =
    (end ≡ status) × (lanes_now ≡ lanes) × (output_now ≡ output)

-- all of an object is written out, or the count of its faults rose and the status is a fault
abbrev pub IsOutOrFailed : Type 0 → ℕ → ℕ → Status → Type 0
IsOutOrFailed is_out before now status = is_out ⊎ (Rose before now × (is_fault status ≡ true))

-- all of an object is written out, or that failed: the count of its faults rose, and the exit code is a fault's
abbrev pub IsOutOrTold : Type 0 → ℕ → ℕ → ℕ → Type 0
IsOutOrTold is_out before now code = is_out ⊎ (Rose before now × (2 ≤ code) × (code ≤ 6))
