-- The last line of a run: how it ended, unless it is done.
use Rattle.std.specs.Prelude.{ℕ, List, ◌++◌, Option, None, Some, codes, decimal}
use Rattle.std.specs.Option.{option_map, option_to_list}
use Rattle.pass_loop.specs.Put.{Put, in_notes}
use Rattle.pass_loop.specs.declared.ends.Reason.{Reason}
use Rattle.pass_loop.specs.declared.ends.Reason.TheVariants.{Truncated, InputTooLong, BadCount, HighBit}
use Rattle.pass_loop.specs.declared.ends.Reason.TheVariants.{DataIncrement, DataDecrement, ExclusiveTooLong, BadEvent}
use Rattle.pass_loop.specs.declared.ends.Reason.TheVariants.{TooManyMessages, NotClip, NoResolution, AfterEnd, NoEnd}
use Rattle.midi_commands.specs.declared.status.Status.{Status}
use Rattle.midi_commands.specs.declared.status.Status.TheVariants.{Done, Refused, ReadFault, LaneFault, OutputFault, NoteFault}
use Rattle.midi_commands.specs.declared.status.Status.TheVariants.{ShelfFault, Usage, SetupSyntax, SetupField, NoMemory}

abbrev pub reason_text : Reason → List ℕ
reason_text Truncated = codes "Truncated"
reason_text InputTooLong = codes "InputTooLong"
reason_text BadCount = codes "BadCount"
reason_text HighBit = codes "HighBit"
reason_text DataIncrement = codes "DataIncrement"
reason_text DataDecrement = codes "DataDecrement"
reason_text ExclusiveTooLong = codes "ExclusiveTooLong"
reason_text BadEvent = codes "BadEvent"
reason_text TooManyMessages = codes "TooManyMessages"
reason_text NotClip = codes "NotClip"
reason_text NoResolution = codes "NoResolution"
reason_text AfterEnd = codes "AfterEnd"
reason_text NoEnd = codes "NoEnd"

-- the text for a status, without its line feed, or none if there is no last line
abbrev pub last_text : Status → Option (List ℕ)
last_text Done = None
last_text (Refused reason offset) =
    Some (codes "refused " ++ reason_text reason ++ codes " at " ++ decimal offset)
last_text ReadFault = Some (codes "read failed")
last_text LaneFault = Some (codes "lane write failed")
last_text OutputFault = Some (codes "output write failed")
last_text NoteFault = None
last_text ShelfFault = Some (codes "setup read failed")
last_text Usage = Some (codes "usage: translate, show, endpoint or selftest")
last_text SetupSyntax = Some (codes "setup is not TOML")
last_text (SetupField rule) = Some (codes "setup field " ++ decimal rule)
last_text NoMemory = Some (codes "no memory")

-- the last line, if there is one, and its put
abbrev pub last_line_text : Status → Option (List ℕ)
last_line_text status = option_map (λ text. text ++ codes "\n") (last_text status)

abbrev pub last_puts : Status → List Put
last_puts status = option_to_list (option_map in_notes (last_line_text status))
