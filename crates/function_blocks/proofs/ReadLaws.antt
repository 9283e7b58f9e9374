-- What the rules leave of a setup that was read.
use Rattle.std.proofs.Common.{ℕ, ◌≡◌, ◌≤◌, ◌∙◌, ap, sym, subst, suc, List, [], ◌∷◌, length, arith, Option, Some, None}
use Rattle.std.specs.Prelude.{Ok, Err, codes, nat_le}
use Rattle.std.specs.List.{All, list_all}
use Rattle.std.proofs.lemmas.Bool.{leb-true}
use Rattle.toml.specs.Data.{Data, Members, as_table, get_member}
use Rattle.function_blocks.specs.declared.rules.Rule.{Rule}
use Rattle.function_blocks.specs.declared.rules.Rule.TheVariants as rule
use Rattle.function_blocks.specs.declared.rules.SetupFault.TheVariants.{Syntax}
use Rattle.function_blocks.specs.Blocks.{IsBlock, are_apart, are_distinct, block_in, blocks_of, muids_of}
use Rattle.function_blocks.specs.Endpoints.{endpoint_of}
use Rattle.function_blocks.specs.Keys.{are_tables, each, entries_at, entries_in, entries_of, is_table}
use Rattle.function_blocks.specs.Profiles.{IsProfile, profile_of, profiles_are_distinct, profiles_of}
use Rattle.function_blocks.specs.Rules.{Read, and_then, holds, in_front, needs}
use Rattle.function_blocks.specs.Setups.{SetupData, IsSetup, setup_at, setup_in, setup_of, tree_of}
use Rattle.function_blocks.proofs.FitLaws.{left}
use Rattle.function_blocks.proofs.RuleLaws.{asked_for, block-fits, each-fits, endpoint-fits, held, in_front_of, profile-fits}
use Rattle.function_blocks.proofs.RuleLaws.{read_first, same_read}

-- ---- the entries of a list

few_of : (r : Rule) (most : ℕ) (o : Option Data) (values : List Data) → entries_of r most o ≡ Ok values → length values ≤ most
few_of r most None values is = omega (arith, ap length (same_read [] values is))
few_of r most (Some value) values is =
    let list = asked_for r (entries_in value) (λ vs. holds r (are_tables most vs) (Ok vs)) values is in
    let tables = held r (are_tables most list.0) (Ok list.0) values list.2 in
    let few : length list.0 ≤ most =
    leb-true (length list.0) most (left (nat_le (length list.0) most) (list_all is_table list.0) tables.0) in
    omega (arith, few, ap length (same_read list.0 values tables.1))

each_counted : {A : Type 0} (r : Rule) (read : Members → Read A) (values : List Data) (xs : List A) → each r read values ≡ Ok xs
    → length xs ≡ length values
each_counted r read [] xs is = sym (ap length (same_read [] xs is))
each_counted r read (value ∷ values) xs is =
    let one = read_first (needs r (as_table value) read) (λ x. in_front x (each r read values)) xs is in
    let rest = in_front_of one.0 (each r read values) xs one.2 in
    sym (ap length rest.2) ∙ ap suc (each_counted r read values rest.0 rest.1)

few_read : {A : Type 0} (r : Rule) (most : ℕ) (key : List ℕ) (members : Members) (read : Members → Read A) (xs : List A)
    → and_then (entries_at r most key members) (each r read) ≡ Ok xs → length xs ≤ most
few_read r most key members read xs is =
    let values = read_first (entries_at r most key members) (each r read) xs is in
    omega (arith, few_of r most (get_member key members) values.0 values.1, each_counted r read values.0 xs values.2)

-- what was read of each entry fits, and there are at most so many
entries_read : {A : Type 0} (Fits : A → Type 0) (r : Rule) (most : ℕ) (key : List ℕ) (members : Members) (read : Members → Read A)
    → ((table : Members) (x : A) → read table ≡ Ok x → Fits x)
    → (xs : List A) → and_then (entries_at r most key members) (each r read) ≡ Ok xs → (length xs ≤ most) × All Fits xs
entries_read Fits r most key members read fits xs is =
    let values = read_first (entries_at r most key members) (each r read) xs is in
    (few_read r most key members read xs is, each-fits Fits r read fits values.0 xs values.2)

-- ---- the setup

rules_of : (members : Members) (setup : SetupData) → setup_in members ≡ Ok setup → IsSetup setup
rules_of members setup is =
    let endpoint = read_first (endpoint_of members) _ setup is in
    let blocks = read_first (blocks_of members) _ setup endpoint.2 in
    let apart = held rule.BlocksThatHaveCiShareNoGroup (are_apart blocks.0) _ setup blocks.2 in
    let muids = held rule.MuidsAreDistinct (are_distinct (muids_of blocks.0)) _ setup apart.1 in
    let profiles = read_first (profiles_of blocks.0 members) _ setup muids.1 in
    let distinct =
    held rule.ProfilesAreDistinct (profiles_are_distinct profiles.0)
    (Ok (record { endpoint = endpoint.0; blocks = blocks.0; profiles = profiles.0 })) setup profiles.2 in
    let whole : SetupData = record { endpoint = endpoint.0; blocks = blocks.0; profiles = profiles.0 } in
    let blocks_fit : (length blocks.0 ≤ 32) × All (λ b. IsBlock b) blocks.0 =
    entries_read (λ b. IsBlock b) rule.BlocksAreTables 32 (codes "block") members block_in block-fits blocks.0 blocks.1 in
    let profiles_fit : (length profiles.0 ≤ 64) × All (λ p. IsProfile blocks.0 p) profiles.0 =
    entries_read (λ p. IsProfile blocks.0 p) rule.ProfilesAreTables 64 (codes "profile") members (profile_of blocks.0)
    (profile-fits blocks.0 blocks_fit.1) profiles.0 profiles.1 in
    let kept : IsSetup whole = record {
      endpoint = endpoint-fits members endpoint.0 endpoint.1;
      few_blocks = blocks_fit.0;
      blocks = blocks_fit.1;
      apart = apart.0;
      distinct_muids = muids.0;
      few_profiles = profiles_fit.0;
      profiles = profiles_fit.1;
      distinct = distinct.0;
    } in
    subst (λ s. IsSetup s) (same_read whole setup distinct.1) kept

rules_at : (tree : Option Members) (setup : SetupData) → setup_at tree ≡ Ok setup → IsSetup setup
rules_at (Some members) setup is = rules_of members setup is
rules_at None setup is = absurd (let e : Err Syntax ≡ Ok setup = is in cc)

pub consistent_of : (text : List ℕ) (setup : SetupData) → setup_of text ≡ Ok setup → IsSetup setup
consistent_of text setup is = rules_at (tree_of text) setup (held rule.TextIsShort (nat_le (length text) 65536) (setup_at (tree_of text)) setup is).1
