-- What a run that is done leaves, by the whole input.
use Rattle.std.specs.Prelude.{ℕ, List, [], Option, None, Some, IfSome, Ok}
use Rattle.function_blocks.specs.Setups.{SetupData}
use Rattle.command_line.specs.Asked.{Asked, down, up, back, show, show_bytes, endpoint}
use Rattle.command_line.specs.Asked.{usb_split, usb_pack, sysex8, rehearse, clip, self_test}
use Rattle.clip_pass.specs.Laws.{IsShownClip}
use Rattle.endpoint_pass.specs.Laws.{AnswersTheInput}
use Rattle.rehearsal_pass.specs.Laws.{RehearsesTheInput}
use Rattle.sysex8_pass.specs.Laws.{JoinsTheInput}
use Rattle.translation_passes.specs.Laws.{CarriesTheInput, RaisesTheInput, ReturnsTheInput}
use Rattle.show_pass.specs.Laws.{ShowsTheRecording, ShowsTheStream}
use Rattle.usb_passes.specs.Laws.{PacksTheInput, SplitsTheInput}
use Rattle.midi_commands.specs.Command.{back_pass_options, show_bytes_pass_options, down_pass_options, endpoint_pass_options, pack_pass_options}
use Rattle.midi_commands.specs.Command.{show_pass_options, plan_of, sysex8_pass_options, up_pass_options}
use Rattle.midi_commands.specs.Run.{Does, FindsSetup, Objects, PutsLineAlone, opened}
use Rattle.midi_commands.specs.SelfTest.{self_test_text}
use Rattle.midi_commands.specs.declared.status.Status.TheVariants.{Done}

-- what each command leaves of an input of these bytes, in a folder after the lanes are opened there; a self
-- test reads none, and leaves its line
abbrev pub LeavesAll : Asked → List ℕ → Objects → Objects → Type 0
LeavesAll (down folder options) bytes old new =
    CarriesTheInput (down_pass_options options) bytes (opened folder old.seen) new.seen
LeavesAll (up options) bytes old new = RaisesTheInput (up_pass_options options) bytes old.seen new.seen
LeavesAll (back options) bytes old new = ReturnsTheInput (back_pass_options options) bytes old.seen new.seen
LeavesAll (show options) bytes old new = ShowsTheRecording (show_pass_options options) bytes old.seen new.seen
LeavesAll (show_bytes options) bytes old new =
    ShowsTheStream (show_bytes_pass_options options) bytes old.seen new.seen
LeavesAll (endpoint name options) bytes old new =
    (setup : SetupData) × FindsSetup name old.shelf new.shelf (Ok setup)
    × AnswersTheInput (endpoint_pass_options options setup) bytes old.seen new.seen
LeavesAll (usb_split folder) bytes old new = SplitsTheInput bytes (opened folder old.seen) new.seen
LeavesAll (usb_pack options) bytes old new = PacksTheInput (pack_pass_options options) bytes old.seen new.seen
LeavesAll (sysex8 folder options) bytes old new =
    JoinsTheInput (sysex8_pass_options options) bytes (opened folder old.seen) new.seen
LeavesAll (rehearse name) bytes old new =
    (setup : SetupData) × FindsSetup name old.shelf new.shelf (Ok setup)
    × RehearsesTheInput setup bytes old.seen new.seen
LeavesAll clip bytes old new = IsShownClip bytes old.seen.places new.seen.places
LeavesAll (self_test options) bytes old new =
    PutsLineAlone (self_test_text options.seed options.packets) old new Done

-- the bytes of the input that a command reads, if a contract can see them; a self test reads none
abbrev pub input_of : Asked → Objects → Option (List ℕ)
input_of (self_test options) old = Some []
input_of _ old = old.seen.left

-- the words are a command, and it leaves what it leaves of the whole input, if a contract can see its bytes
abbrev pub LeavesTheWhole : Option Asked → Objects → Objects → Type 0
LeavesTheWhole None old new = ⊥
LeavesTheWhole (Some asked) old new = IfSome (input_of asked old) (λ bytes. LeavesAll asked bytes old new)

-- a command that is done leaves it
abbrev pub DoneLeavesTheWhole : Type 0
DoneLeavesTheWhole =
    (asked : Asked) (old new : Objects) → Does (plan_of asked) old new Done → LeavesTheWhole (Some asked) old new
