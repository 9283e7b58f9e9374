-- The function blocks of a setup.
use Rattle.std.specs.Prelude.{ℕ, ◌≡◌, ◌⊎◌, ◌+◌, ◌<◌, ◌≤◌, Bool, true, ◌==◌, ◌&&◌, ◌||◌, not, nat_le, nat_lt}
use Rattle.std.specs.Prelude.{List, [], ◌∷◌, ◌++◌, length, codes, Result, Ok, Err, MatchResult, Vec}
use Rattle.std.specs.declared.alloc.Global.{Global}
use Rattle.std.specs.List.{All, list_all, list_any, flat_map}
use Rattle.std.specs.Str.{IsUtf8}
use Rattle.toml.specs.Data.{Members}
use Rattle.function_blocks.specs.Keys.{limited_text_at, short_numbers_at, number_at, flag_at, entries_at, each}
use Rattle.function_blocks.specs.Rules.{Read, needs, holds, and_then}
use Rattle.function_blocks.specs.declared.rules.Rule.TheVariants as rule
use Rattle.function_blocks.specs.declared.rules.SetupFault.{SetupFault}
use Rattle.function_blocks.specs.declared.rules.SetupFault.TheVariants.{NoMemory}
use Rattle.function_blocks.specs.declared.setup.Block.{Block}

-- a block that names a version of MIDI-CI has a MUID
abbrev pub has_muid : ℕ → List ℕ → Bool
has_muid ci muids = ci == 0 || not (length muids == 0)

abbrev pub block_in : Members → Read Block
block_in table =
    needs rule.ActiveIsAFlag (flag_at (codes "active") table) (λ active.
    needs rule.BlockNameIsShort (limited_text_at 91 (codes "name") table) (λ name.
    needs rule.HintIsInRange (number_at 0 3 (codes "hint") table) (λ hint.
    needs rule.Midi1IsInRange (number_at 0 2 (codes "midi1") table) (λ midi1.
    needs rule.DirectionIsInRange (number_at 1 3 (codes "direction") table) (λ direction.
    needs rule.FirstIsAGroup (number_at 0 15 (codes "first") table) (λ first.
    needs rule.GroupsEndWithinSixteen (number_at 1 16 (codes "count") table) (λ count.
    holds rule.GroupsEndWithinSixteen (nat_le (first + count) 16) (
    needs rule.CiIsInRange (number_at 0 2 (codes "ci") table) (λ ci.
    needs rule.Sysex8IsInRange (number_at 0 255 (codes "sysex8") table) (λ sysex8.
    needs rule.MuidsAreInRange (short_numbers_at 16 268435199 (codes "muids") table) (λ muids.
    holds rule.MuidsAreInRange (has_muid ci muids) (
    Ok (record {
      active = active;
      name = name;
      hint = hint;
      midi1 = midi1;
      direction = direction;
      first = first;
      count = count;
      ci = ci;
      sysex8 = sysex8;
      muids = muids;
    })))))))))))))

-- the blocks, one after the other
abbrev pub blocks_of : Members → Read (List Block)
blocks_of setup = and_then (entries_at rule.BlocksAreTables 32 (codes "block") setup) (each rule.BlocksAreTables block_in)

-- a block has MIDI-CI if it is active and names a version
abbrev pub has_ci : Block → Bool
has_ci block = block.active && not (block.ci == 0)

-- both have MIDI-CI, and some group is in both
abbrev pub shares_group : Block → Block → Bool
shares_group one other =
    (has_ci one && has_ci other) && (nat_lt one.first (other.first + other.count) && nat_lt other.first (one.first + one.count))

-- no two active blocks with MIDI-CI share a group
abbrev pub are_apart : List Block → Bool
are_apart [] = true
are_apart (block ∷ blocks) = list_all (λ other. not (shares_group block other)) blocks && are_apart blocks

-- the MUIDs of all blocks
abbrev pub muids_of : List Block → List ℕ
muids_of blocks = flat_map (λ block. block.muids) blocks

-- no number appears twice
abbrev pub are_distinct : List ℕ → Bool
are_distinct [] = true
are_distinct (n ∷ ns) = not (list_any (λ m. m == n) ns) && are_distinct ns

-- a block's keys keep the rules that are named here
pub record IsBlock (b : Block) : Type 0 where
  pub named : (0 < length b.name) × (length b.name ≤ 91)
  pub utf8 : IsUtf8 b.name
  pub hint : b.hint ≤ 3
  pub midi1 : b.midi1 ≤ 2
  pub direction : (1 ≤ b.direction) × (b.direction ≤ 3)
  pub groups : (0 < b.count) × (b.first + b.count ≤ 16)
  pub ci : b.ci ≤ 2
  pub muids : All (λ muid. muid ≤ 268435199) b.muids
  pub few_muids : length b.muids ≤ 16
  pub some_muid : has_muid b.ci b.muids ≡ true

-- the items or the fault that was read, unless memory ran out
abbrev pub Gives : {A : Type 0} → Read (List A) → Result (Vec A Global) SetupFault → Type 0
Gives read result = MatchResult result (λ v. read ≡ Ok v.items) (λ e. (e ≡ NoMemory) ⊎ (read ≡ Err e))

-- One more item that meets a condition is read and added at the end, or nothing is added: the fault was read,
-- or memory ran out.
abbrev pub AddsRead : {A : Type 0} → Read A → (A → Type 0) → List A → List A → Result (Unit {0}) SetupFault → Type 0
AddsRead {A} read Fits old new (Ok done) = (x : A) × (Ok x ≡ read) × Fits x × (new ≡ old ++ x ∷ [])
AddsRead read Fits old new (Err e) = ((e ≡ NoMemory) ⊎ (read ≡ Err e)) × (new ≡ old)
