-- What an initiator takes from a setup to rehearse with its responder.
use Rattle.std.specs.Prelude.{◌≡◌, ℕ, ◌+◌, ◌<◌, ◌≤◌, ◌==◌, Bool, true, false, if◌then◌else◌}
use Rattle.std.specs.Prelude.{List, [], ◌∷◌, length, slice_get, Option, Some, None}
use Rattle.std.proofs.Common.{zero, suc}
use Rattle.std.specs.List.{All, flat_map, list_any}
use Rattle.ci_messages.specs.declared.view.Address.TheVariants as address
use Rattle.function_blocks.specs.declared.setup.Block.{Block}
use Rattle.function_blocks.specs.declared.setup.Place.{Place}
use Rattle.function_blocks.specs.declared.setup.Place.TheVariants as place
use Rattle.function_blocks.specs.declared.setup.Profile.{Profile}
use Rattle.function_blocks.specs.Blocks.{has_ci, muids_of}
use Rattle.function_blocks.specs.Setups.{SetupData}
use Rattle.ci_initiator.specs.declared.watch.Watch.{Watch}

-- a block of the setup names a MUID, whether it uses it or not
abbrev pub names_muid : ℕ → Block → Bool
names_muid muid block = list_any (λ named. named == muid) block.muids

abbrev pub is_named : List Block → ℕ → Bool
is_named blocks muid = list_any (names_muid muid) blocks

-- the first number that isn't named, from a number on, within so many
abbrev pub first_unnamed : List Block → ℕ → ℕ → ℕ
first_unnamed blocks zero muid = muid
first_unnamed blocks (suc tries) muid = if is_named blocks muid then first_unnamed blocks tries (muid + 1) else muid

-- The initiator's MUID: the first from 1 on. Among one number more than there are MUIDs, one isn't named.
unfoldable pub own_muid : List Block → ℕ
own_muid blocks = first_unnamed blocks (length (muids_of blocks)) 1

-- a number from 1 on that no block names, though all before it are named
pub record IsLeastUnnamed (blocks : List Block) (muid : ℕ) : Type 0 where
  pub some : 1 ≤ muid
  pub unnamed : is_named blocks muid ≡ false
  pub least : (n : ℕ) → 1 ≤ n → n < muid → is_named blocks n ≡ true

-- the number of a block with MIDI-CI
abbrev pub has_ci_in : Option Block → Bool
has_ci_in None = false
has_ci_in (Some block) = has_ci block

abbrev pub has_ci_at : List Block → ℕ → Bool
has_ci_at blocks number = has_ci_in (slice_get blocks number)

-- the block that is watched: that of the first profile whose block has MIDI-CI
abbrev pub watched_block : List Block → List Profile → Option ℕ
watched_block blocks [] = None
watched_block blocks (profile ∷ profiles) =
    if has_ci_at blocks profile.block then Some profile.block else watched_block blocks profiles

-- the watch of a profile, by its place; one of the function block is watched on the block's first group
abbrev pub watch_at : ℕ → Place → List ℕ → Watch
watch_at first place.Function id = record { group = first; address = address.Block; id = record { bytes = id } }
watch_at first (place.Group group) id = record { group = group; address = address.Group; id = record { bytes = id } }
watch_at first (place.Channel group channel) id =
    record { group = group; address = address.Channel channel; id = record { bytes = id } }

-- the watch of a profile, if it is of the watched block, which has this first group
abbrev pub watch_where : Option ℕ → ℕ → Profile → List Watch
watch_where None first profile = []
watch_where (Some number) first profile =
    if profile.block == number then watch_at first profile.place profile.id ∷ [] else []

abbrev pub first_group_of : Option Block → ℕ
first_group_of None = 0
first_group_of (Some block) = block.first

abbrev pub first_group : List Block → Option ℕ → ℕ
first_group blocks None = 0
first_group blocks (Some number) = first_group_of (slice_get blocks number)

-- the watches of the profiles of the watched block, in the setup's order
abbrev pub watches_of_block : List Block → List Profile → Option ℕ → List Watch
watches_of_block blocks profiles watched = flat_map (watch_where watched (first_group blocks watched)) profiles

abbrev pub watches_of_setup : SetupData → List Watch
watches_of_setup setup = watches_of_block setup.blocks setup.profiles (watched_block setup.blocks setup.profiles)

-- ids of profiles have five bytes
abbrev pub HasIds : List Profile → Type 0
HasIds profiles = All (λ profile. length profile.id ≡ 5) profiles
