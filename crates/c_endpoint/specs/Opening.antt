-- The outcome of the text of a setup.
use Rattle.std.specs.Prelude.{◌≡◌, ◌⊎◌, ℕ, Result, Ok, Err, MatchResult}
use Rattle.function_blocks.specs.Rules.{Read}
use Rattle.function_blocks.specs.Setups.{SetupData}
use Rattle.function_blocks.specs.declared.rules.SetupFault.{SetupFault}
use Rattle.function_blocks.specs.declared.rules.SetupFault.TheVariants as faults
use Rattle.ump_endpoint.specs.Held.{EndpointState, new_endpoint}
use Rattle.c_answers.specs.declared.status.Status.{Status}
use Rattle.c_answers.specs.declared.status.Status.TheVariants as statuses

-- what a fault of a setup is called
abbrev pub status_of_fault : SetupFault → Status
status_of_fault faults.Syntax = statuses.SetupSyntax
status_of_fault (faults.Field rule) = statuses.SetupRule
status_of_fault faults.NoMemory = statuses.NoMemory

-- the number of the rule that it breaks, or what stood there before
abbrev pub rule_in : SetupFault → ℕ → ℕ
rule_in (faults.Field rule) old = rule
rule_in _ old = old

-- an endpoint of the setup, or the fault of its text; or there was no memory
abbrev pub OpensBy : Read SetupData → ℕ → Result EndpointState Status → ℕ → ℕ → Type 0
OpensBy (Ok setup) room result old new =
    MatchResult result (λ held. held ≡ new_endpoint setup room) (λ why. why ≡ statuses.NoMemory) × (new ≡ old)
OpensBy (Err fault) room result old new =
    ((result ≡ Err statuses.NoMemory) × (new ≡ old)) ⊎ ((result ≡ Err (status_of_fault fault)) × (new ≡ rule_in fault old))
