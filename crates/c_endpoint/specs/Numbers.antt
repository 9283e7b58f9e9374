-- The numbers of what became of a message, as the header has them.
use Rattle.std.specs.Prelude.{ℕ, Option, None, Some}
use Rattle.ci_messages.specs.declared.view.CiFault.{CiFault}
use Rattle.ci_messages.specs.declared.view.CiFault.TheVariants as faults
use Rattle.ci_responder.specs.declared.heard.Heard.{Heard}
use Rattle.ci_responder.specs.declared.heard.Heard.TheVariants as heard
use Rattle.ump_endpoint.specs.declared.taken.Outcome.{Outcome}
use Rattle.ump_endpoint.specs.declared.taken.Outcome.TheVariants as outcomes

-- of the first fault of an exclusive
abbrev pub fault_number : CiFault → ℕ
fault_number faults.NotCi = 1
fault_number faults.Short = 2
fault_number faults.BadAddress = 3
fault_number faults.ReservedMuid = 4

-- of how a message of MIDI-CI was heard
abbrev pub hearing_number : Heard → ℕ
hearing_number heard.NoBlock = 5
hearing_number heard.Silent = 6
hearing_number heard.Collision = 7
hearing_number heard.OldVersion = 8
hearing_number heard.NotOurs = 9
hearing_number heard.Moved = 10
hearing_number heard.Report = 11
hearing_number heard.Broadcast = 12
hearing_number heard.Answered = 13
hearing_number heard.Passed = 14
hearing_number heard.Nak = 15

-- of what became of a message, if a packet ended one
abbrev pub heard_number : Option Outcome → ℕ
heard_number None = 0
heard_number (Some (outcomes.Unread fault)) = fault_number fault
heard_number (Some (outcomes.Heard hearing)) = hearing_number hearing
heard_number (Some outcomes.Answered) = 13
heard_number (Some outcomes.NoAnswer) = 16
heard_number (Some outcomes.BadFormat) = 17
