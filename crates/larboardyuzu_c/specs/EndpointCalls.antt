-- What the calls of the endpoint answer, by what the handle holds.
use Rattle.std.specs.Prelude.{◌≡◌, ◌⊎◌, ℕ, Bool, true, false, List, Option, Some, None, Ok, Err, MatchOption}
use Rattle.function_blocks.specs.Rules.{Read}
use Rattle.function_blocks.specs.Setups.{SetupData, setup_of}
use Rattle.ump_endpoint.specs.Held.{EndpointState, new_endpoint, reset_endpoint}
use Rattle.c_answers.specs.Blocks.{nothing_taken}
use Rattle.c_answers.specs.Numbers.{number_of}
use Rattle.c_answers.specs.declared.block.Block.{Block}
use Rattle.c_answers.specs.declared.status.Status.{Status}
use Rattle.c_answers.specs.declared.status.Status.TheVariants as statuses
use Rattle.c_endpoint.specs.Asked.{IsBegun, IsMuid, IsProfile}
use Rattle.c_endpoint.specs.Opening.{rule_in, status_of_fault}
use Rattle.c_endpoint.specs.Packets.{AreAnswered, IsPacketAnswered, no_replies}
use Rattle.c_endpoint.specs.Profiles.{no_profile}
use Rattle.c_endpoint.specs.declared.profile.EndpointProfile.{EndpointProfile}
use Rattle.c_endpoint.specs.declared.replies.PacketReplies.{PacketReplies}
use Rattle.c_handles.specs.declared.engine.Engine.{Engine}
use Rattle.c_handles.specs.declared.engine.Engine.TheVariants as engine
use Rattle.larboardyuzu_c.specs.Held.{is_room}

-- the handle holds an endpoint of which `IsSo` holds
abbrev pub HoldsEndpoint : Option Engine → (EndpointState → Type 0) → Type 0
HoldsEndpoint (Some (engine.Endpoint held)) IsSo = IsSo held
HoldsEndpoint _ IsSo = ⊥

-- a handle that is closed holds an endpoint of the setup, or nothing if its text has a fault or if there
-- isn't enough memory
abbrev pub Makes : Read SetupData → ℕ → ℕ → ℕ → ℕ → Option Engine → Type 0
Makes (Ok setup) room status old new after =
    MatchOption after (status ≡ number_of statuses.NoMemory)
    (λ held. (held ≡ engine.Endpoint (new_endpoint setup room)) × (status ≡ number_of statuses.Done))
    × (new ≡ old)
Makes (Err fault) room status old new after =
    (((status ≡ number_of statuses.NoMemory) × (new ≡ old)) ⊎ ((status ≡ number_of (status_of_fault fault)) × (new ≡ rule_in fault old)))
    × (after ≡ None)

-- nothing is opened, and no rule is written
abbrev pub IsUnopened : Status → Option Engine → ℕ → ℕ → ℕ → Option Engine → Type 0
IsUnopened why before status old new after = (status ≡ number_of why) × (after ≡ before) × (new ≡ old)

abbrev pub opens : Bool → Option Engine → Read SetupData → ℕ → ℕ → ℕ → ℕ → Option Engine → Type 0
opens false before read room status old new after = IsUnopened statuses.BadRoom before status old new after
opens true (Some held) read room status old new after = IsUnopened statuses.AlreadyOpen (Some held) status old new after
opens true None read room status old new after = Makes read room status old new after

abbrev pub IsOpened : Option Engine → List ℕ → ℕ → ℕ → ℕ → ℕ → Option Engine → Type 0
IsOpened before text room status old new after = opens (is_room room) before (setup_of text) room status old new after

-- nothing is taken
abbrev pub IsUntaken : Status → List ℕ → ℕ → PacketReplies → List ℕ → Type 0
IsUntaken why old status replies new = (status ≡ number_of why) × (replies ≡ no_replies) × (new ≡ old)

abbrev pub IsTaken : Option Engine → List ℕ → ℕ → List ℕ → ℕ → PacketReplies → List ℕ → Option Engine → Type 0
IsTaken None words offset old status replies new after = IsUntaken statuses.HandleClosed old status replies new × (after ≡ None)
IsTaken (Some (engine.Endpoint held)) words offset old status replies new after =
    HoldsEndpoint after (λ later. IsPacketAnswered held words offset old status replies new later)
IsTaken (Some other) words offset old status replies new after =
    IsUntaken statuses.OtherKind old status replies new × (after ≡ Some other)

-- no packet is taken
abbrev pub AreUntaken : Status → List ℕ → List PacketReplies → ℕ → Block → List ℕ → List PacketReplies → Type 0
AreUntaken why old old_replies status block new replies =
    (status ≡ number_of why) × (block ≡ nothing_taken) × (new ≡ old) × (replies ≡ old_replies)

abbrev pub AreTaken : Option Engine → List ℕ → ℕ → List ℕ → List PacketReplies → ℕ → Block → List ℕ → List PacketReplies
    → Option Engine → Type 0
AreTaken None words offset old old_replies status block new replies after =
    AreUntaken statuses.HandleClosed old old_replies status block new replies × (after ≡ None)
AreTaken (Some (engine.Endpoint held)) words offset old old_replies status block new replies after =
    HoldsEndpoint after (λ later. AreAnswered held words offset old old_replies status block new replies later)
AreTaken (Some other) words offset old old_replies status block new replies after =
    AreUntaken statuses.OtherKind old old_replies status block new replies × (after ≡ Some other)

-- nothing is written
abbrev pub IsUntold : Status → ℕ → ℕ → ℕ → Type 0
IsUntold why status old new = (status ≡ number_of why) × (new ≡ old)

abbrev pub HasProtocol : Option Engine → ℕ → ℕ → ℕ → Type 0
HasProtocol None status old new = IsUntold statuses.HandleClosed status old new
HasProtocol (Some (engine.Endpoint held)) status old new = (status ≡ number_of statuses.Done) × (new ≡ held.protocol)
HasProtocol (Some other) status old new = IsUntold statuses.OtherKind status old new

abbrev pub HasMuid : Option Engine → ℕ → ℕ → ℕ → ℕ → Type 0
HasMuid None block status old new = IsUntold statuses.HandleClosed status old new
HasMuid (Some (engine.Endpoint held)) block status old new = IsMuid held block status old new
HasMuid (Some other) block status old new = IsUntold statuses.OtherKind status old new

abbrev pub HasBegun : Option Engine → ℕ → ℕ → ℕ → ℕ → Type 0
HasBegun None group status old new = IsUntold statuses.HandleClosed status old new
HasBegun (Some (engine.Endpoint held)) group status old new = IsBegun held group status old new
HasBegun (Some other) group status old new = IsUntold statuses.OtherKind status old new

abbrev pub HasProfile : Option Engine → ℕ → ℕ → EndpointProfile → Type 0
HasProfile None index status new = (status ≡ number_of statuses.HandleClosed) × (new ≡ no_profile)
HasProfile (Some (engine.Endpoint held)) index status new = IsProfile held index status new
HasProfile (Some other) index status new = (status ≡ number_of statuses.OtherKind) × (new ≡ no_profile)

-- the endpoint begins again
abbrev pub IsReset : Option Engine → ℕ → Option Engine → Type 0
IsReset None status after = (status ≡ number_of statuses.HandleClosed) × (after ≡ None)
IsReset (Some (engine.Endpoint held)) status after =
    (status ≡ number_of statuses.Done) × (after ≡ Some (engine.Endpoint (reset_endpoint held)))
IsReset (Some other) status after = (status ≡ number_of statuses.OtherKind) × (after ≡ Some other)
