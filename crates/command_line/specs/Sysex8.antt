-- The words of `sysex8`, and what they ask for.
use Rattle.std.specs.Prelude.{◌≤◌, ℕ, List, [], ◌∷◌, codes, Option, option_map, option_and_then}
use Rattle.clap.specs.Walk.{Text, Row, first_of}
use Rattle.clap.specs.Simple.{App, new_app}
use Rattle.command_line.specs.Asked.{Asked, sysex8}
use Rattle.command_line.specs.Numbers.{number_or}
use Rattle.command_line.specs.Words.{option, flag, with_rules, word_order}
use Rattle.command_line.specs.declared.sysex8.Sysex8Options.{Sysex8Options}

-- sysex8 --folder F [--streams N] [--little] [--room R]
abbrev pub sysex8_app : App
sysex8_app = with_rules (new_app (codes "sysex8")) (option (codes "folder") ∷ option (codes "streams") ∷ flag (codes "little")
    ∷ option (codes "room") ∷ [])

-- the most streams at once: 1 to 64, at first 16
abbrev pub streams_in : Option Text → Option ℕ
streams_in = number_or 1 64 16

abbrev pub IsStreamCount : ℕ → Type 0
IsStreamCount streams = (1 ≤ streams) × (streams ≤ 64)

-- the room for an 8-bit exclusive: 13 to 1,048,576 bytes, at first the greatest
abbrev pub room8_in : Option Text → Option ℕ
room8_in = number_or 13 1048576 1048576

abbrev pub IsRoom8 : ℕ → Type 0
IsRoom8 room = (13 ≤ room) × (room ≤ 1048576)

-- the numbers are in their ranges
abbrev pub IsSysex8 : Sysex8Options → Type 0
IsSysex8 options = IsStreamCount options.streams × IsRoom8 options.room

-- with a folder
abbrev pub sysex8_by : List Row → Option Asked
sysex8_by rows =
    option_and_then (λ folder. option_and_then (λ streams. option_map (λ room. sysex8 folder (record {
      streams = streams;
      order = word_order rows;
      room = room;
    })) (room8_in (first_of (codes "room") rows))) (streams_in (first_of (codes "streams") rows))) (first_of (codes "folder") rows)
