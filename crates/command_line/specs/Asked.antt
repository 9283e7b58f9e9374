-- What a command line asks for.
use Rattle.std.specs.Prelude.{ℕ, List}
use Rattle.command_line.specs.declared.command.Command.{Command}
use Rattle.command_line.specs.declared.command.Command.TheVariants.{Down, Up, Back, Show, ShowBytes, Endpoint, UsbSplit}
use Rattle.command_line.specs.declared.command.Command.TheVariants.{UsbPack, Sysex8, Rehearse, Clip, SelfTest}
use Rattle.command_line.specs.declared.endpoint.EndpointOptions.{EndpointOptions}
use Rattle.command_line.specs.declared.self_test.SelfTestOptions.{SelfTestOptions}
use Rattle.command_line.specs.declared.show.ByteLineOptions.{ByteLineOptions}
use Rattle.command_line.specs.declared.show.PacketLineOptions.{PacketLineOptions}
use Rattle.command_line.specs.declared.sysex8.Sysex8Options.{Sysex8Options}
use Rattle.command_line.specs.declared.translate.BackOptions.{BackOptions}
use Rattle.command_line.specs.declared.translate.DownOptions.{DownOptions}
use Rattle.command_line.specs.declared.translate.UpOptions.{UpOptions}
use Rattle.command_line.specs.declared.usb.PackOptions.{PackOptions}

-- the text of each name, and the options
pub data Asked : Type 0 where
  down : List ℕ → DownOptions → Asked
  up : UpOptions → Asked
  back : BackOptions → Asked
  show : PacketLineOptions → Asked
  show_bytes : ByteLineOptions → Asked
  endpoint : List ℕ → EndpointOptions → Asked
  usb_split : List ℕ → Asked
  usb_pack : PackOptions → Asked
  sysex8 : List ℕ → Sysex8Options → Asked
  rehearse : List ℕ → Asked
  clip : Asked
  self_test : SelfTestOptions → Asked

-- what a command asks for
abbrev pub asked_of : Command → Asked
asked_of (Down folder options) = down folder.now options
asked_of (Up options) = up options
asked_of (Back options) = back options
asked_of (Show options) = show options
asked_of (ShowBytes options) = show_bytes options
asked_of (Endpoint setup options) = endpoint setup.now options
asked_of (UsbSplit folder) = usb_split folder.now
asked_of (UsbPack options) = usb_pack options
asked_of (Sysex8 folder options) = sysex8 folder.now options
asked_of (Rehearse setup) = rehearse setup.now
asked_of Clip = clip
asked_of (SelfTest options) = self_test options
