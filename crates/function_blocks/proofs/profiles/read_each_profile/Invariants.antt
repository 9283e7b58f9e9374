use Rattle.std.proofs.Common.{◌≡◌, drop, map, length}
use Rattle.std.specs.List.{All}
use Rattle.toml.specs.View.{view}
use Rattle.function_blocks.specs.Keys.{each}
use Rattle.function_blocks.specs.Profiles.{IsProfile, profile_of}
use Rattle.function_blocks.specs.declared.rules.Rule.TheVariants as rule
use Rattle.function_blocks.proofs.KeyLaws.{read_on}
use Rattle.function_blocks.proofs.profiles.read_each_profile.Given as goal

abbrev pub invariant-loop-value : goal.invariant-loop-value
invariant-loop-value l = record {
  count : length l.profiles.items ≡ l.value-index;
  fits : All (IsProfile l.blocks) l.profiles.items;
  rest : read_on l.profiles.items (each rule.ProfilesAreTables (profile_of l.blocks) (map view (drop l.value-index l.values)))
      ≡ each rule.ProfilesAreTables (profile_of l.blocks) (map view l.values);
}
