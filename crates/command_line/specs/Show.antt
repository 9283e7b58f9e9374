-- The words of `show`, and what they ask for.
use Rattle.std.specs.Prelude.{List, [], ◌∷◌, codes, Option, None, option_map, if◌then◌else◌}
use Rattle.clap.specs.Walk.{Row, first_of}
use Rattle.clap.specs.Simple.{App, new_app}
use Rattle.command_line.specs.Asked.{Asked, show, show_bytes}
use Rattle.command_line.specs.Numbers.{IsRoom, room_in}
use Rattle.command_line.specs.Words.{option, flag, with_rules, is_set, word_order}
use Rattle.command_line.specs.declared.show.ByteLineOptions.{ByteLineOptions}
use Rattle.command_line.specs.declared.show.PacketLineOptions.{PacketLineOptions}

-- show [--bytes] [--state] [--little] [--room R]
abbrev pub show_app : App
show_app =
    with_rules (new_app (codes "show")) (flag (codes "bytes") ∷ flag (codes "state") ∷ flag (codes "little") ∷ option (codes "room") ∷ [])

-- the numbers are in their ranges
abbrev pub IsShow : PacketLineOptions → Type 0
IsShow options = IsRoom options.room

abbrev pub IsShowBytes : ByteLineOptions → Type 0
IsShowBytes options = IsRoom options.room

-- the lines of packets
abbrev pub packets_by : List Row → Option Asked
packets_by rows =
    option_map (λ room. show (record {
      state = is_set (codes "state") rows;
      order = word_order rows;
      room = room;
    })) (room_in (first_of (codes "room") rows))

-- the lines of bytes, which have no words: not little
abbrev pub bytes_by : List Row → Option Asked
bytes_by rows =
    if is_set (codes "little") rows then None
    else option_map (λ room. show_bytes (record {
      state = is_set (codes "state") rows;
      room = room;
    })) (room_in (first_of (codes "room") rows))

-- what the words of `show` ask for
abbrev pub show_by : List Row → Option Asked
show_by rows = if is_set (codes "bytes") rows then bytes_by rows else packets_by rows
