-- Lines that are ready to begin: their options, and what each end says.
use Rattle.std.specs.Prelude.{◌≡◌, ◌≤◌, Bool, Result, Ok, Err}
use Rattle.sysex_groups.specs.Table.{empty_table}
use Rattle.midi1_bytes.specs.Parsing.{idle}
use Rattle.midi_meaning.specs.Messages.{as_they_come, raised}
use Rattle.voice_state.specs.States.{first_states}
use Rattle.pass_loop.specs.Bytes.{byte_cutting}
use Rattle.pass_loop.specs.Pass.{Ends, IsDoneUnless, Seen}
use Rattle.pass_loop.specs.Refused.{IsRefusedWhere}
use Rattle.pass_loop.specs.declared.ends.RunEnd.{RunEnd}
use Rattle.pass_loop.specs.declared.ends.RunEnd.TheVariants as end
use Rattle.show_pass.specs.KeptState.{Kept, StandsFor}
use Rattle.show_pass.specs.Options.{ShowOptions, of_packets, of_bytes}
use Rattle.packet_input.specs.Packets.{packet_cutting}
use Rattle.show_pass.specs.ShowBytes.{showing_bytes}
use Rattle.show_pass.specs.ShowPackets.{showing}
use Rattle.show_pass.specs.declared.show.Lines.{Lines}
use Rattle.show_pass.specs.declared.show.Lines.TheVariants.{Packets, Bytes}

abbrev pub options_in : Lines → Bool → ShowOptions
options_in (Packets groups order) state = of_packets (record { state = state; order = order; room = groups.room })
options_in (Bytes parser) state = of_bytes (record { state = state; room = parser.room })

-- nothing is open, and what is kept stands for the first states
abbrev pub IsNew : Lines → Kept → Type 0
IsNew (Packets groups order) kept = (groups ≡ empty_table groups.room) × (6 ≤ groups.room) × StandsFor raised kept (first_states raised)
IsNew (Bytes parser) kept = (parser ≡ idle parser.room) × StandsFor as_they_come kept (first_states as_they_come)

-- want of memory is one of the ends
abbrev pub end_of : {E : Type 0} → Result RunEnd E → RunEnd
end_of (Ok end) = end
end_of (Err no_memory) = end.NoMemory

-- what each end of lines says
abbrev pub ShowEnds : ShowOptions → Seen → Seen → RunEnd → Type 0
ShowEnds (of_packets options) old new end = Ends (packet_cutting options.order) (showing options) old new end
ShowEnds (of_bytes options) old new end = Ends byte_cutting (showing_bytes options) old new end

-- if nothing is refused and nothing fails, it is done
abbrev pub IsDoneShowing : ShowOptions → Seen → Seen → RunEnd → Type 0
IsDoneShowing (of_packets options) old new end =
    IsDoneUnless (packet_cutting options.order) (showing options) old new end
IsDoneShowing (of_bytes options) old new end = IsDoneUnless byte_cutting (showing_bytes options) old new end

-- if the input has a first refusal and nothing fails, it ends with exactly that refusal
abbrev pub IsRefusedShowing : ShowOptions → Seen → Seen → RunEnd → Type 0
IsRefusedShowing (of_packets options) old new end =
    IsRefusedWhere (packet_cutting options.order) (showing options) old new end
IsRefusedShowing (of_bytes options) old new end = IsRefusedWhere byte_cutting (showing_bytes options) old new end
