-- How a command is carried out, and by which pass.
use Rattle.std.specs.Prelude.{ℕ, List}
use Rattle.command_line.specs.Asked.{Asked, down, up, back, show, show_bytes, endpoint}
use Rattle.command_line.specs.Asked.{usb_split, usb_pack, sysex8, rehearse, clip, self_test}
use Rattle.command_line.specs.declared.endpoint.EndpointOptions.{EndpointOptions}
use Rattle.command_line.specs.declared.show.ByteLineOptions.{ByteLineOptions}
use Rattle.command_line.specs.declared.show.PacketLineOptions.{PacketLineOptions}
use Rattle.command_line.specs.declared.sysex8.Sysex8Options.{Sysex8Options}
use Rattle.command_line.specs.declared.translate.BackOptions.{BackOptions}
use Rattle.command_line.specs.declared.translate.DownOptions.{DownOptions}
use Rattle.command_line.specs.declared.translate.LaneStyle.{LaneStyle}
use Rattle.command_line.specs.declared.translate.LaneStyle.TheVariants as lane_style
use Rattle.command_line.specs.declared.translate.UpOptions.{UpOptions}
use Rattle.command_line.specs.declared.usb.PackOptions.{PackOptions}
use Rattle.packet_words.specs.declared.words.Framed.{Framed}
use Rattle.packet_words.specs.declared.words.Order.{Order}
use Rattle.ump_grammar.specs.declared.packet.Packet.{Packet}
use Rattle.function_blocks.specs.Setups.{SetupData}
use Rattle.down_translator.specs.KeptLanes.{style_in}
use Rattle.down_translator.specs.declared.style.Style.{Style}
use Rattle.down_translator.specs.declared.style.Style.TheVariants.{Plain, Compact}
use Rattle.pass_loop.specs.Bytes.{byte_cutting}
use Rattle.pass_loop.specs.Pass.{Pass, Work}
use Rattle.clip_pass.specs.Clipping.{clipping}
use Rattle.clip_pass.specs.Cutting.{clip_cutting}
use Rattle.translation_passes.specs.Back.{returning}
use Rattle.translation_passes.specs.Down.{carrying}
use Rattle.translation_passes.specs.Options.{BackOptions as BackPassOptions, DownOptions as DownPassOptions}
use Rattle.translation_passes.specs.Options.{UpOptions as UpPassOptions}
use Rattle.endpoint_pass.specs.Answering.{answering}
use Rattle.endpoint_pass.specs.Options.{EndpointOptions as EndpointPassOptions}
use Rattle.packet_input.specs.Packets.{packet_cutting}
use Rattle.translation_passes.specs.Up.{raising}
use Rattle.show_pass.specs.Options.{ByteLineOptions as ByteLinePassOptions, PacketLineOptions as PacketLinePassOptions}
use Rattle.show_pass.specs.ShowBytes.{showing_bytes}
use Rattle.show_pass.specs.ShowPackets.{showing}
use Rattle.rehearsal_pass.specs.declared.event.CalledEvent.{CalledEvent}
use Rattle.rehearsal_pass.specs.Events.{called_cutting}
use Rattle.rehearsal_pass.specs.Rehearse.{rehearsing}
use Rattle.sysex8_pass.specs.Joining.{joining}
use Rattle.sysex8_pass.specs.Options.{Sysex8Options as Sysex8PassOptions}
use Rattle.usb_midi1.specs.declared.event.Event.{Event}
use Rattle.usb_passes.specs.Events.{event_cutting}
use Rattle.usb_passes.specs.Options.{PackOptions as PackPassOptions}
use Rattle.usb_passes.specs.Pack.{packing}
use Rattle.usb_passes.specs.Split.{splitting}
use Rattle.midi_commands.specs.SelfTest.{self_test_text}

-- the style of the lanes
abbrev pub style_of : LaneStyle → Style
style_of lane_style.Compact = Compact
style_of lane_style.Plain = Plain

-- a pass over packets in this order, over bytes, and over events
abbrev pub packet_pass : Order → Work (Framed × Packet) → Pass
packet_pass order work = record { Item = Framed × Packet; IsCut = packet_cutting order; work = work }

abbrev pub byte_pass : Work (ℕ × ℕ) → Pass
byte_pass work = record { Item = ℕ × ℕ; IsCut = byte_cutting; work = work }

abbrev pub event_pass : Work (ℕ × Event) → Pass
event_pass work = record { Item = ℕ × Event; IsCut = event_cutting; work = work }

-- the options of a pass, by those of its command
abbrev pub down_pass_options : DownOptions → DownPassOptions
down_pass_options options = record {
  paired = options.paired;
  style = style_in (style_of options.style);
  order = options.order;
  room = options.room;
}

abbrev pub up_pass_options : UpOptions → UpPassOptions
up_pass_options options =
    record { paired = options.paired; group = options.group; order = options.order; room = options.room }

abbrev pub back_pass_options : BackOptions → BackPassOptions
back_pass_options options = record { paired = options.paired; group = options.group; room = options.room }

abbrev pub show_pass_options : PacketLineOptions → PacketLinePassOptions
show_pass_options options = record { state = options.state; order = options.order; room = options.room }

abbrev pub show_bytes_pass_options : ByteLineOptions → ByteLinePassOptions
show_bytes_pass_options options = record { state = options.state; room = options.room }

abbrev pub endpoint_pass_options : EndpointOptions → SetupData → EndpointPassOptions
endpoint_pass_options options setup = record { setup = setup; order = options.order; room = options.room }

abbrev pub pack_pass_options : PackOptions → PackPassOptions
pack_pass_options options = record { cable = options.cable; room = options.room }

abbrev pub sysex8_pass_options : Sysex8Options → Sysex8PassOptions
sysex8_pass_options options = record { slots = options.streams; order = options.order; room = options.room }

-- the pass for the options of each command
abbrev pub down_pass : DownOptions → Pass
down_pass options = packet_pass options.order (carrying (down_pass_options options))

abbrev pub up_pass : UpOptions → Pass
up_pass options = byte_pass (raising (up_pass_options options))

abbrev pub back_pass : BackOptions → Pass
back_pass options = byte_pass (returning (back_pass_options options))

abbrev pub show_pass : PacketLineOptions → Pass
show_pass options = packet_pass options.order (showing (show_pass_options options))

abbrev pub show_bytes_pass : ByteLineOptions → Pass
show_bytes_pass options = byte_pass (showing_bytes (show_bytes_pass_options options))

-- of `endpoint` with a setup
abbrev pub endpoint_pass : EndpointOptions → SetupData → Pass
endpoint_pass options setup = packet_pass options.order (answering (endpoint_pass_options options setup))

abbrev pub pack_pass : PackOptions → Pass
pack_pass options = byte_pass (packing (pack_pass_options options))

abbrev pub sysex8_pass : Sysex8Options → Pass
sysex8_pass options = packet_pass options.order (joining (sysex8_pass_options options))

-- the pass over the events of a rehearsal with the responder of a setup
abbrev pub called_event_pass : SetupData → Pass
called_event_pass setup = record { Item = ℕ × CalledEvent; IsCut = called_cutting; work = rehearsing setup }

-- the pass over a clip file
abbrev pub clip_file_pass : Pass
clip_file_pass = record { Item = Framed × Packet; IsCut = clip_cutting; work = clipping }

-- a pass; a pass whose pieces go into a folder; the pass for the setup that the shelf has by a name; the pass
-- over a clip file; or a line in the output, without an input
pub data Plan : Type 1 where
  by_pass : Pass → Plan
  into_folder : List ℕ → Pass → Plan
  with_setup : List ℕ → (SetupData → Pass) → Plan
  over_clip : Plan
  by_line : List ℕ → Plan

-- how each command is carried out
abbrev pub plan_of : Asked → Plan
plan_of (down folder options) = into_folder folder (down_pass options)
plan_of (up options) = by_pass (up_pass options)
plan_of (back options) = by_pass (back_pass options)
plan_of (show options) = by_pass (show_pass options)
plan_of (show_bytes options) = by_pass (show_bytes_pass options)
plan_of (endpoint setup options) = with_setup setup (endpoint_pass options)
plan_of (usb_split folder) = into_folder folder (event_pass splitting)
plan_of (usb_pack options) = by_pass (pack_pass options)
plan_of (sysex8 folder options) = into_folder folder (sysex8_pass options)
plan_of (rehearse setup) = with_setup setup called_event_pass
plan_of clip = over_clip
plan_of (self_test options) = by_line (self_test_text options.seed options.packets)
