-- A profile of the setup as a caller gets it.
use Rattle.std.specs.Prelude.{ℕ, Bool, false, [], ◌∷◌}
use Rattle.function_blocks.specs.declared.setup.Place.{Place}
use Rattle.function_blocks.specs.declared.setup.Place.TheVariants as place
use Rattle.function_blocks.specs.declared.setup.Profile.{Profile}
use Rattle.c_endpoint.specs.declared.profile.EndpointProfile.{EndpointProfile}

abbrev pub no_profile : EndpointProfile
no_profile = record { block = 255; group = 255; channel = 255; id = 0 ∷ 0 ∷ 0 ∷ 0 ∷ 0 ∷ []; is_on = false }

-- the group and the channel of a place; 255 if it has none
abbrev pub group_in : Place → ℕ
group_in place.Function = 255
group_in (place.Group group) = group
group_in (place.Channel group channel) = group

abbrev pub channel_in : Place → ℕ
channel_in (place.Channel group channel) = channel
channel_in _ = 255

abbrev pub profile_of : Profile → Bool → EndpointProfile
profile_of profile is_on =
    record {
      block = profile.block;
      group = group_in profile.place;
      channel = channel_in profile.place;
      id = profile.id;
      is_on = is_on;
    }
