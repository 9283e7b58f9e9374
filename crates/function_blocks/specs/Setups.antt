-- The setup of a text.
use Rattle.std.specs.Prelude.{◌≡◌, ◌⊎◌, ◌≤◌, ℕ, true, List, [], ◌∷◌, length, Option, Some, None}
use Rattle.std.specs.Prelude.{Result, Ok, Err, MatchResult, if◌then◌else◌, nat_le, ◌/◌, ◌%◌}
use Rattle.std.specs.List.{All}
use Rattle.std.specs.Str.{is_utf8}
use Rattle.toml.specs.Data.{Members}
use Rattle.toml.specs.Parse.{parse_document}
use Rattle.function_blocks.specs.declared.rules.Rule.TheVariants as rule
use Rattle.function_blocks.specs.declared.rules.SetupFault.{SetupFault}
use Rattle.function_blocks.specs.declared.rules.SetupFault.TheVariants.{Syntax, NoMemory}
use Rattle.function_blocks.specs.declared.setup.Block.{Block}
use Rattle.function_blocks.specs.declared.setup.Endpoint.{Endpoint}
use Rattle.function_blocks.specs.declared.setup.Identity.{Identity}
use Rattle.function_blocks.specs.declared.setup.Profile.{Profile}
use Rattle.function_blocks.specs.Blocks.{IsBlock, blocks_of, are_apart, are_distinct, muids_of}
use Rattle.function_blocks.specs.Endpoints.{IsEndpoint, endpoint_of}
use Rattle.function_blocks.specs.Profiles.{IsProfile, profiles_of, profiles_are_distinct}
use Rattle.function_blocks.specs.Rules.{Read, and_then, holds}

-- what a setup says
pub record SetupData : Type 0 where
  pub endpoint : Endpoint
  pub blocks : List Block
  pub profiles : List Profile

-- by the rules in their order
abbrev pub setup_in : Members → Read SetupData
setup_in members =
    and_then (endpoint_of members) (λ endpoint.
    and_then (blocks_of members) (λ blocks.
    holds rule.BlocksThatHaveCiShareNoGroup (are_apart blocks) (
    holds rule.MuidsAreDistinct (are_distinct (muids_of blocks)) (
    and_then (profiles_of blocks members) (λ profiles.
    holds rule.ProfilesAreDistinct (profiles_are_distinct profiles) (
    Ok (record { endpoint = endpoint; blocks = blocks; profiles = profiles })))))))

-- the tree of a text, if it is UTF-8 and `toml` gives one
abbrev pub tree_of : List ℕ → Option Members
tree_of text = if is_utf8 text then parse_document text else None

abbrev pub setup_at : Option Members → Read SetupData
setup_at None = Err Syntax
setup_at (Some members) = setup_in members

abbrev pub setup_of : List ℕ → Read SetupData
setup_of text = holds rule.TextIsShort (nat_le (length text) 65536) (setup_at (tree_of text))

-- the setup or the fault that was read, unless memory ran out
abbrev pub MeetsRead : Read SetupData → Result SetupData SetupFault → Type 0
MeetsRead read result = MatchResult result (λ setup. read ≡ Ok setup) (λ e. (e ≡ NoMemory) ⊎ (read ≡ Err e))

-- a setup keeps the rules that are named here
pub record IsSetup (facts : SetupData) : Type 0 where
  pub endpoint : IsEndpoint facts.endpoint
  pub few_blocks : length facts.blocks ≤ 32
  pub blocks : All IsBlock facts.blocks
  pub apart : are_apart facts.blocks ≡ true
  pub distinct_muids : are_distinct (muids_of facts.blocks) ≡ true
  pub few_profiles : length facts.profiles ≤ 64
  pub profiles : All (IsProfile facts.blocks) facts.profiles
  pub distinct : profiles_are_distinct facts.profiles ≡ true

-- two bytes of seven bits, the lowest first
abbrev pub in_two_bytes : ℕ → List ℕ
in_two_bytes n = n % 128 ∷ n / 128 ∷ []

abbrev pub identity_of : SetupData → Identity
identity_of facts = record {
  manufacturer = facts.endpoint.manufacturer;
  family = in_two_bytes facts.endpoint.family;
  model = in_two_bytes facts.endpoint.model;
  revision = facts.endpoint.revision;
}
