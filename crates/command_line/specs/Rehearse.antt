-- The words of `rehearse`, and what they ask for.
use Rattle.std.specs.Prelude.{List, [], ◌∷◌, codes, Option, option_map}
use Rattle.clap.specs.Walk.{Row, first_of}
use Rattle.clap.specs.Simple.{App, new_app}
use Rattle.command_line.specs.Asked.{Asked, rehearse}
use Rattle.command_line.specs.Words.{positional, with_rules}

-- rehearse SETUP
abbrev pub rehearse_app : App
rehearse_app = with_rules (new_app (codes "rehearse")) (positional (codes "setup") ∷ [])

-- a setup may have any name
abbrev pub rehearse_by : List Row → Option Asked
rehearse_by rows = option_map (λ setup. rehearse setup) (first_of (codes "setup") rows)
