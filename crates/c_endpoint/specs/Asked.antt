-- What the calls that read an endpoint's state answer.
use Rattle.std.specs.Prelude.{◌≡◌, ℕ, nat_lt, Bool, true, false, Option, Some, None, slice_get, unwrap_or}
use Rattle.std.specs.Option.{option_map}
use Rattle.function_blocks.specs.declared.setup.Profile.{Profile}
use Rattle.ci_responder.specs.Held.{muid_in}
use Rattle.ci_responder.specs.Keys.{key_of, state_in}
use Rattle.sysex_groups.specs.Table.{begun_in}
use Rattle.ump_endpoint.specs.Held.{EndpointState}
use Rattle.c_answers.specs.Numbers.{number_of}
use Rattle.c_answers.specs.declared.status.Status.TheVariants as statuses
use Rattle.c_endpoint.specs.Profiles.{no_profile, profile_of}
use Rattle.c_endpoint.specs.declared.profile.EndpointProfile.{EndpointProfile}

-- what is found is written; otherwise there is none
abbrev pub tells : Option ℕ → ℕ → ℕ → ℕ → Type 0
tells None status old new = (status ≡ number_of statuses.Nothing) × (new ≡ old)
tells (Some found) status old new = (status ≡ number_of statuses.Done) × (new ≡ found)

-- the MUID in force of a block
abbrev pub IsMuid : EndpointState → ℕ → ℕ → ℕ → ℕ → Type 0
IsMuid held block status old new = tells (muid_in held.responder.blocks block) status old new

-- the start of the exclusive that a group has open
abbrev pub begins : Bool → EndpointState → ℕ → ℕ → ℕ → ℕ → Type 0
begins false held group status old new = (status ≡ number_of statuses.BadGroup) × (new ≡ old)
begins true held group status old new = tells (option_map (λ begun. begun.start) (begun_in held.exclusives group)) status old new

abbrev pub IsBegun : EndpointState → ℕ → ℕ → ℕ → ℕ → Type 0
IsBegun held group status old new = begins (nat_lt group 16) held group status old new

-- whether a profile is on: as the setup says, if no switch was accepted
abbrev pub is_on_in : EndpointState → Profile → Bool
is_on_in held profile = unwrap_or (state_in held.responder.states (key_of profile)) profile.on

abbrev pub tells_profile : Option Profile → EndpointState → ℕ → EndpointProfile → Type 0
tells_profile None held status new = (status ≡ number_of statuses.Nothing) × (new ≡ no_profile)
tells_profile (Some profile) held status new =
    (status ≡ number_of statuses.Done) × (new ≡ profile_of profile (is_on_in held profile))

abbrev pub IsProfile : EndpointState → ℕ → ℕ → EndpointProfile → Type 0
IsProfile held index status new = tells_profile (slice_get held.setup.profiles index) held status new
