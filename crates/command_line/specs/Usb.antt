-- The words of `usb`, and what they ask for.
use Rattle.std.specs.Prelude.{◌<◌, ◌||◌, List, [], ◌∷◌, codes, Option, None, option_map, option_and_then, if◌then◌else◌}
use Rattle.std.specs.Str.{bytes_eq}
use Rattle.clap.specs.Walk.{Row, first_of}
use Rattle.clap.specs.Simple.{App, new_app}
use Rattle.command_line.specs.Asked.{Asked, usb_split, usb_pack}
use Rattle.command_line.specs.Numbers.{IsRoom, cable_in, room_in}
use Rattle.command_line.specs.Words.{positional, option, with_rules, is_given}
use Rattle.command_line.specs.declared.usb.PackOptions.{PackOptions}

-- usb DIRECTION [--folder F] [--cable C] [--room R]
abbrev pub usb_app : App
usb_app = with_rules (new_app (codes "usb")) (positional (codes "direction") ∷ option (codes "folder") ∷ option (codes "cable")
    ∷ option (codes "room") ∷ [])

-- the numbers are in their ranges
abbrev pub IsPack : PackOptions → Type 0
IsPack options = (options.cable < 16) × IsRoom options.room

-- split: with a folder, and neither a cable nor a room
abbrev pub split_by : List Row → Option Asked
split_by rows =
    if is_given (codes "cable") rows || is_given (codes "room") rows then None
    else option_map (λ folder. usb_split folder) (first_of (codes "folder") rows)

-- pack: without a folder
abbrev pub pack_by : List Row → Option Asked
pack_by rows =
    if is_given (codes "folder") rows then None
    else option_and_then (λ cable. option_map (λ room. usb_pack (record { cable = cable; room = room }))
    (room_in (first_of (codes "room") rows))) (cable_in (first_of (codes "cable") rows))

-- what the words of `usb` ask for, by the direction
abbrev pub usb_by : List Row → Option Asked
usb_by rows =
    option_and_then (λ direction.
    if bytes_eq direction (codes "split") then split_by rows
    else (if bytes_eq direction (codes "pack") then pack_by rows else None))
    (first_of (codes "direction") rows)
