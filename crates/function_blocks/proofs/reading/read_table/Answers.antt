use Rattle.std.proofs.Common.{◌≡◌, ◌⊎◌, inl, inr, true, refl, sym, subst, List}
use Rattle.std.specs.Prelude.{Ok, Err}
use Rattle.std.proofs.lemmas.Result.{err_from_is_err_and}
use Rattle.toml.specs.Data.{Members}
use Rattle.toml.specs.View.{table_view}
use Rattle.function_blocks.specs.declared.rules.SetupFault.{SetupFault}
use Rattle.function_blocks.specs.declared.rules.SetupFault.TheVariants.{NoMemory}
use Rattle.function_blocks.specs.declared.setup.Block.{Block}
use Rattle.function_blocks.specs.declared.setup.Endpoint.{Endpoint}
use Rattle.function_blocks.specs.Blocks.{are_apart, are_distinct, blocks_of, muids_of}
use Rattle.function_blocks.specs.Endpoints.{endpoint_of}
use Rattle.function_blocks.specs.Profiles.{profiles_of}
use Rattle.function_blocks.specs.Setups.{setup_in}
use Rattle.function_blocks.proofs.reading.read_table.Goals as goal

-- the fault of the profiles is the setup's, after all that comes before them
profiles_missing : (keys : Members) (endpoint : Endpoint) (blocks : List Block) (e : SetupFault)
    → Ok endpoint ≡ endpoint_of keys → blocks_of keys ≡ Ok blocks → true ≡ are_apart blocks
    → true ≡ are_distinct (muids_of blocks) → (e ≡ NoMemory) ⊎ (profiles_of blocks keys ≡ Err e)
    → (e ≡ NoMemory) ⊎ (setup_in keys ≡ Err e)
profiles_missing keys endpoint blocks e own given apart distinct (inl memory) = inl memory
profiles_missing keys endpoint blocks e own given apart distinct (inr missing) =
    inr (rw (sym own, given, sym apart, sym distinct, missing) refl)

pub returns-in_err-profiles-clause-setup : goal.returns-in_err-profiles-clause-setup
returns-in_err-profiles-clause-setup c =
    let members = table_view c.args.table.now in
    let blocks : List Block = c.in_ok-blocks.blocks.items in
    let e : SetupFault = c.in_err-profiles.field-0.0 in
    let apart : true ≡ are_apart blocks = search in
    let distinct : true ≡ are_distinct (muids_of blocks) = search in
    let F : List Block → Type 0 = λ b. (e ≡ NoMemory) ⊎ (profiles_of b members ≡ Err e) in
    let missing : F blocks = subst F c.as_slice-3.ensures.value c.in_err-profiles.ensures.value in
    let p = err_from_is_err_and c.from_residual-in_err-profiles.result c.from_residual-in_err-profiles.ensures.1 in
    rw (p.1, p.2) (profiles_missing members c.in_ok-endpoint.endpoint blocks e c.in_ok-endpoint.ensures.value
    c.in_ok-blocks.ensures.value apart distinct missing)
