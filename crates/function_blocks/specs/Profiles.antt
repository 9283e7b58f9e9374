-- The profiles of a setup.
use Rattle.std.specs.Prelude.{ℕ, ◌≡◌, ◌<◌, ◌+◌, ◌-◌, nat_le, nat_lt, length, Bool, true, false, ◌==◌, ◌&&◌, not, List}
use Rattle.std.specs.Prelude.{[], ◌∷◌, codes, Option, Some, None, is_some, option_and_then, if◌then◌else◌, slice_get, Ok}
use Rattle.std.specs.List.{list_any}
use Rattle.std.specs.Str.{bytes_eq}
use Rattle.toml.specs.Data.{Members}
use Rattle.function_blocks.specs.Keys.{text_at, numbers_at, number_at, flag_at, entries_at, each}
use Rattle.function_blocks.specs.Rules.{Read, needs, and_then}
use Rattle.function_blocks.specs.declared.rules.Rule.TheVariants as rule
use Rattle.function_blocks.specs.declared.setup.Block.{Block}
use Rattle.function_blocks.specs.declared.setup.Place.{Place}
use Rattle.function_blocks.specs.declared.setup.Place.TheVariants as place
use Rattle.function_blocks.specs.declared.setup.Profile.{Profile}
use Rattle.function_blocks.specs.declared.profiles.PlaceKind.{PlaceKind}
use Rattle.function_blocks.specs.declared.profiles.PlaceKind.TheVariants as kind

-- the block of a number, if its `ci` isn't 0
abbrev pub naming_ci : Block → Option Block
naming_ci block = if block.ci == 0 then None else Some block

abbrev pub block_naming_ci : List Block → ℕ → Option Block
block_naming_ci blocks number = option_and_then naming_ci (slice_get blocks number)

-- the kind of a place, by its word
abbrev pub kind_of : List ℕ → Option PlaceKind
kind_of word =
    if bytes_eq word (codes "function") then Some kind.Function
    else if bytes_eq word (codes "group") then Some kind.Group
    else if bytes_eq word (codes "channel") then Some kind.Channel
    else None

-- a group of the block
abbrev pub group_of : Block → Members → Option ℕ
group_of block table = number_at block.first (block.first + block.count - 1) (codes "group") table

abbrev pub place_of : Block → Members → PlaceKind → Read Place
place_of block table kind.Function = Ok place.Function
place_of block table kind.Group = needs rule.GroupIsOfTheBlock (group_of block table) (λ group. Ok (place.Group group))
place_of block table kind.Channel =
    needs rule.GroupIsOfTheBlock (group_of block table) (λ group.
    needs rule.ChannelIsInRange (number_at 0 15 (codes "channel") table) (λ channel.
    Ok (place.Channel group channel)))

-- there are at most 32 blocks, so no number above 31 is that of a block
abbrev pub profile_of : List Block → Members → Read Profile
profile_of blocks table =
    needs rule.ProfileBlockNamesCi (number_at 0 31 (codes "block") table) (λ number.
    needs rule.ProfileBlockNamesCi (block_naming_ci blocks number) (λ block.
    needs rule.PlaceIsKnown (option_and_then kind_of (text_at (codes "place") table)) (λ kind.
    and_then (place_of block table kind) (λ place.
    needs rule.ProfileIdIsFiveNumbers (numbers_at 5 127 (codes "id") table) (λ id.
    needs rule.OnIsAFlag (flag_at (codes "on") table) (λ on.
    Ok (record { block = number; place = place; id = id; on = on })))))))

-- the profiles, one after the other
abbrev pub profiles_of : List Block → Members → Read (List Profile)
profiles_of blocks setup =
    and_then (entries_at rule.ProfilesAreTables 64 (codes "profile") setup) (each rule.ProfilesAreTables (profile_of blocks))

abbrev pub same_place : Place → Place → Bool
same_place place.Function place.Function = true
same_place (place.Group group) (place.Group other) = group == other
same_place (place.Channel group channel) (place.Channel other_group other_channel) = group == other_group && channel == other_channel
same_place _ _ = false

-- a group of a block
abbrev pub has_group : Block → ℕ → Bool
has_group block group = nat_le block.first group && nat_lt group (block.first + block.count)

-- the group that a place names, if any, is one of the block
abbrev pub has_place : Block → Place → Bool
has_place block place.Function = true
has_place block (place.Group group) = has_group block group
has_place block (place.Channel group channel) = has_group block group

abbrev pub has_place_in : Option Block → Place → Bool
has_place_in None place = false
has_place_in (Some block) place = has_place block place

-- a profile keeps the rules that its block is there, with a `ci` that isn't 0, and that its place is one of
-- that block
pub record IsProfile (blocks : List Block) (profile : Profile) : Type 0 where
  pub block : profile.block < length blocks
  pub names_ci : is_some (block_naming_ci blocks profile.block) ≡ true
  pub placed : has_place_in (slice_get blocks profile.block) profile.place ≡ true

-- two profiles of the same block, place and id
abbrev pub is_same_profile : Profile → Profile → Bool
is_same_profile one other = one.block == other.block && (same_place one.place other.place && bytes_eq one.id other.id)

abbrev pub profiles_are_distinct : List Profile → Bool
profiles_are_distinct [] = true
profiles_are_distinct (profile ∷ profiles) = not (list_any (is_same_profile profile) profiles) && profiles_are_distinct profiles
