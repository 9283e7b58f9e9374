-- Profiles by their keys.
use Rattle.std.specs.Prelude.{Bool, ◌==◌, ◌&&◌, List, map, Option}
use Rattle.std.specs.Map.{lookup}
use Rattle.std.specs.Str.{bytes_eq}
use Rattle.function_blocks.specs.declared.setup.Profile.{Profile}
use Rattle.function_blocks.specs.Profiles.{same_place}
use Rattle.ci_responder.specs.declared.keys.Key.{Key}

abbrev pub same_key : Key → Key → Bool
same_key one other = one.block == other.block && (same_place one.place other.place && bytes_eq one.id.bytes other.id.bytes)

-- the key of a profile of the setup
abbrev pub key_of : Profile → Key
key_of profile = record { block = profile.block; place = profile.place; id = record { bytes = profile.id } }

-- profiles by their keys, each on or off, as the setup has them and in its order
abbrev pub first_states : List Profile → List (Key × Bool)
first_states profiles = map (λ profile. (key_of profile, profile.on)) profiles

-- whether a profile is on; none if it isn't named
abbrev pub state_in : List (Key × Bool) → Key → Option Bool
state_in profiles key = lookup (same_key key) profiles
