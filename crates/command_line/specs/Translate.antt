-- The words of `translate`, and what they ask for.
use Rattle.std.specs.Prelude.{◌<◌, ◌||◌, List, [], ◌∷◌, codes, Option, None, option_map, option_and_then, if◌then◌else◌}
use Rattle.std.specs.Str.{bytes_eq}
use Rattle.clap.specs.Walk.{Row, first_of}
use Rattle.clap.specs.Simple.{App, new_app}
use Rattle.command_line.specs.Asked.{Asked, down, up, back}
use Rattle.command_line.specs.Numbers.{IsRoom, group_in, room_in}
use Rattle.command_line.specs.Words.{positional, option, flag, with_rules, is_given, is_set, word_order}
use Rattle.command_line.specs.declared.translate.BackOptions.{BackOptions}
use Rattle.command_line.specs.declared.translate.DownOptions.{DownOptions}
use Rattle.command_line.specs.declared.translate.LaneStyle.{LaneStyle}
use Rattle.command_line.specs.declared.translate.LaneStyle.TheVariants.{Plain, Compact}
use Rattle.command_line.specs.declared.translate.UpOptions.{UpOptions}

-- translate DIRECTION [--folder F] [--group G] [--compact] [--paired] [--little] [--room R]
abbrev pub translate_app : App
translate_app = with_rules (new_app (codes "translate")) (positional (codes "direction") ∷ option (codes "folder") ∷ option (codes "group")
    ∷ flag (codes "compact") ∷ flag (codes "paired") ∷ flag (codes "little") ∷ option (codes "room") ∷ [])

-- the numbers are in their ranges
abbrev pub IsDown : DownOptions → Type 0
IsDown options = IsRoom options.room

abbrev pub IsUp : UpOptions → Type 0
IsUp options = (options.group < 16) × IsRoom options.room

abbrev pub IsBack : BackOptions → Type 0
IsBack options = (options.group < 16) × IsRoom options.room

-- plain, or compact with `--compact`
abbrev pub lane_style : List Row → LaneStyle
lane_style rows = if is_set (codes "compact") rows then Compact else Plain

-- down: with a folder, without a group
abbrev pub down_by : List Row → Option Asked
down_by rows =
    if is_given (codes "group") rows then None
    else option_and_then (λ folder. option_map (λ room. down folder (record {
      style = lane_style rows;
      paired = is_set (codes "paired") rows;
      order = word_order rows;
      room = room;
    })) (room_in (first_of (codes "room") rows))) (first_of (codes "folder") rows)

-- up: without a folder, and not compact
abbrev pub up_by : List Row → Option Asked
up_by rows =
    if is_given (codes "folder") rows || is_set (codes "compact") rows then None
    else option_and_then (λ group. option_map (λ room. up (record {
      group = group;
      paired = is_set (codes "paired") rows;
      order = word_order rows;
      room = room;
    })) (room_in (first_of (codes "room") rows))) (group_in (first_of (codes "group") rows))

-- back: without a folder, and neither compact nor little
abbrev pub back_by : List Row → Option Asked
back_by rows =
    if is_given (codes "folder") rows || (is_set (codes "compact") rows || is_set (codes "little") rows) then None
    else option_and_then (λ group. option_map (λ room. back (record {
      group = group;
      paired = is_set (codes "paired") rows;
      room = room;
    })) (room_in (first_of (codes "room") rows))) (group_in (first_of (codes "group") rows))

-- what the words of `translate` ask for, by the direction
abbrev pub translate_by : List Row → Option Asked
translate_by rows =
    option_and_then (λ direction.
    if bytes_eq direction (codes "down") then down_by rows
    else (if bytes_eq direction (codes "up") then up_by rows
    else (if bytes_eq direction (codes "back") then back_by rows else None)))
    (first_of (codes "direction") rows)
