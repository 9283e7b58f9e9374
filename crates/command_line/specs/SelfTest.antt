-- The words of `selftest`, and what they ask for.
use Rattle.std.specs.Prelude.{◌≤◌, ◌<◌, ◌^◌, ℕ, List, [], ◌∷◌, codes, Option, option_map, option_and_then}
use Rattle.clap.specs.Walk.{Text, Row, first_of}
use Rattle.clap.specs.Simple.{App, new_app}
use Rattle.command_line.specs.Asked.{Asked, self_test}
use Rattle.command_line.specs.Numbers.{number_of, number_or}
use Rattle.command_line.specs.Words.{positional, option, with_rules}
use Rattle.command_line.specs.declared.self_test.SelfTestOptions.{SelfTestOptions}

-- selftest SEED [--packets P]
abbrev pub self_test_app : App
self_test_app = with_rules (new_app (codes "selftest")) (positional (codes "seed") ∷ option (codes "packets") ∷ [])

-- a seed: a number of 32 bits
abbrev pub seed_in : Text → Option ℕ
seed_in = number_of 0 4294967295

-- the number of packets: 1 to 1,000,000, at first 10,000
abbrev pub packets_in : Option Text → Option ℕ
packets_in = number_or 1 1000000 10000

abbrev pub IsPacketCount : ℕ → Type 0
IsPacketCount n = (1 ≤ n) × (n ≤ 1000000)

-- the numbers are in their ranges
abbrev pub IsSelfTest : SelfTestOptions → Type 0
IsSelfTest options = (options.seed < 2 ^ 32) × IsPacketCount options.packets

abbrev pub self_test_by : List Row → Option Asked
self_test_by rows =
    option_and_then (λ text. option_and_then (λ seed. option_map (λ packets. self_test (record { seed = seed; packets = packets }))
    (packets_in (first_of (codes "packets") rows))) (seed_in text)) (first_of (codes "seed") rows)
