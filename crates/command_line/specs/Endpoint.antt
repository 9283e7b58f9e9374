-- The words of `endpoint`, and what they ask for.
use Rattle.std.specs.Prelude.{List, [], ◌∷◌, codes, Option, option_map, option_and_then}
use Rattle.clap.specs.Walk.{Row, first_of}
use Rattle.clap.specs.Simple.{App, new_app}
use Rattle.command_line.specs.Asked.{Asked, endpoint}
use Rattle.command_line.specs.Numbers.{IsRoom, room_in}
use Rattle.command_line.specs.Words.{positional, option, flag, with_rules, word_order}
use Rattle.command_line.specs.declared.endpoint.EndpointOptions.{EndpointOptions}

-- endpoint SETUP [--little] [--room R]
abbrev pub endpoint_app : App
endpoint_app = with_rules (new_app (codes "endpoint")) (positional (codes "setup") ∷ flag (codes "little") ∷ option (codes "room") ∷ [])

-- the numbers are in their ranges
abbrev pub IsEndpoint : EndpointOptions → Type 0
IsEndpoint options = IsRoom options.room

-- a setup may have any name
abbrev pub endpoint_by : List Row → Option Asked
endpoint_by rows =
    option_and_then (λ setup. option_map (λ room. endpoint setup (record { order = word_order rows; room = room }))
    (room_in (first_of (codes "room") rows))) (first_of (codes "setup") rows)
