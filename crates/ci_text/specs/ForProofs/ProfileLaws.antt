-- The place in which the lines of profiles are put, and on what they depend.
use Rattle.std.proofs.Common.{◌≡◌, ℕ, ◌+◌, Bool, true, List, [], ◌∷◌, ◌++◌, Option, refl, ap, ◌∙◌}
use Rattle.std.specs.Prelude.{unwrap_or}
use Rattle.function_blocks.specs.declared.setup.Profile.{Profile}
use Rattle.ci_responder.specs.declared.keys.Key.{Key}
use Rattle.ci_responder.specs.Keys.{key_of}
use Rattle.endpoint_lines.specs.EndpointLines.{profile_text}
use Rattle.pass_loop.specs.Each.{for_each}
use Rattle.pass_loop.specs.Named.{AreNamed, Named, is_named}
use Rattle.ci_text.specs.declared.profiles.LinePlace.{LinePlace}
use Rattle.ci_text.specs.Profiles.{profile_line_of, profile_lines, put_at}

module _ (names : Named) (place : LinePlace) (named : (text : List ℕ) → is_named names (put_at place text) ≡ true) (on : Key → Option Bool)
  where
    named-from : (number : ℕ) (profiles : List Profile) → AreNamed names (for_each (profile_line_of place on) number profiles)
    named-from number [] = tt
    named-from number (profile ∷ profiles) =
        (named (profile_text profile (unwrap_or (on (key_of profile)) profile.on)), named-from (number + 1) profiles)

    pub profiles_named : (profiles : List Profile) → AreNamed names (profile_lines place on profiles)
    profiles_named profiles = named-from 0 profiles

-- the same lines are put if the same is known of each key
module _ (place : LinePlace) (on other : Key → Option Bool) (same : (key : Key) → on key ≡ other key) where
  same-from : (number : ℕ) (profiles : List Profile)
      → for_each (profile_line_of place on) number profiles ≡ for_each (profile_line_of place other) number profiles
  same-from number [] = refl
  same-from number (profile ∷ profiles) =
      ap (λ o. put_at place (profile_text profile (unwrap_or o profile.on)) ∷ for_each (profile_line_of place on) (number + 1) profiles)
      (same (key_of profile))
      ∙ ap (λ puts. profile_line_of place other number profile ++ puts) (same-from (number + 1) profiles)

  pub same_profiles : (profiles : List Profile) → profile_lines place on profiles ≡ profile_lines place other profiles
  same_profiles profiles = same-from 0 profiles
