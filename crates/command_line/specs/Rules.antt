-- The command that `clap` reads, the words that it takes, and the command of the words.
use Rattle.std.specs.Prelude.{Bool, true, List, [], ◌∷◌, codes, Option, Some, None, option_and_then, if◌then◌else◌}
use Rattle.std.specs.Str.{bytes_eq}
use Rattle.clap.specs.Walk.{Text, Row, is_empty}
use Rattle.clap.specs.Simple.{App, new_app, subcommand_of}
use Rattle.clap.specs.Faults.{fault_of}
use Rattle.command_line.specs.Asked.{Asked, down, up, back, show, show_bytes, endpoint}
use Rattle.command_line.specs.Asked.{usb_split, usb_pack, sysex8, rehearse, clip, self_test}
use Rattle.command_line.specs.Endpoint.{IsEndpoint, endpoint_app, endpoint_by}
use Rattle.command_line.specs.Rehearse.{rehearse_app, rehearse_by}
use Rattle.command_line.specs.SelfTest.{IsSelfTest, self_test_app, self_test_by}
use Rattle.command_line.specs.Show.{IsShow, IsShowBytes, show_app, show_by}
use Rattle.command_line.specs.Sysex8.{IsSysex8, sysex8_app, sysex8_by}
use Rattle.command_line.specs.Translate.{IsBack, IsDown, IsUp, translate_app, translate_by}
use Rattle.command_line.specs.Usb.{IsPack, usb_app, usb_by}
use Rattle.command_line.specs.Words.{with_shapes}

-- clip
abbrev pub clip_app : App
clip_app = new_app (codes "clip")

-- the words come without the program's name, and a subcommand must be among them
abbrev pub bare_app : App
bare_app = let a = new_app (codes "larboardyuzu") in record a { top = record a.top { no_binary_name = true; subcommand_required = true } }

unfoldable pub cli : App
cli =
    with_shapes bare_app (translate_app.top ∷ show_app.top ∷ endpoint_app.top ∷ usb_app.top ∷ sysex8_app.top ∷ rehearse_app.top
    ∷ clip_app.top ∷ self_test_app.top ∷ [])

-- `clap`, by what it states of this command, takes the words
abbrev pub is_taken : List Text → Bool
is_taken words = is_empty (fault_of cli words)

-- each number is in its range
abbrev pub IsInRange : Asked → Type 0
IsInRange (down folder options) = IsDown options
IsInRange (up options) = IsUp options
IsInRange (back options) = IsBack options
IsInRange (show options) = IsShow options
IsInRange (show_bytes options) = IsShowBytes options
IsInRange (endpoint setup options) = IsEndpoint options
IsInRange (usb_split folder) = Unit {0}
IsInRange (usb_pack options) = IsPack options
IsInRange (sysex8 folder options) = IsSysex8 options
IsInRange (rehearse setup) = Unit {0}
IsInRange clip = Unit {0}
IsInRange (self_test options) = IsSelfTest options

-- what a subcommand with its rows asks for that is none of `translate`, `show`, `endpoint` and `usb`
abbrev pub asked_in_rest : Text → List Row → Option Asked
asked_in_rest name rows =
    if bytes_eq name (codes "sysex8") then sysex8_by rows
    else (if bytes_eq name (codes "rehearse") then rehearse_by rows
    else (if bytes_eq name (codes "clip") then Some clip
    else (if bytes_eq name (codes "selftest") then self_test_by rows
    else None)))

-- what a subcommand with its rows asks for
abbrev pub asked_in : Text → List Row → Option Asked
asked_in name rows =
    if bytes_eq name (codes "translate") then translate_by rows
    else (if bytes_eq name (codes "show") then show_by rows
    else (if bytes_eq name (codes "endpoint") then endpoint_by rows
    else (if bytes_eq name (codes "usb") then usb_by rows
    else asked_in_rest name rows)))

-- what the matches of the words ask for
abbrev pub asked_by : List Text → Option Asked
asked_by words = option_and_then (λ p. asked_in p.0 p.1) (subcommand_of cli words)

-- the command of the words, or none if `clap` doesn't take them or a rule is broken
unfoldable pub command_of : List Text → Option Asked
command_of words = if is_taken words then asked_by words else None
