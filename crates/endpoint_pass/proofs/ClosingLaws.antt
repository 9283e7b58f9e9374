-- The lines of the blocks are the same if each block has the same MUID.
use Rattle.std.proofs.Common.{◌≡◌, ℕ, List, [], ◌∷◌, ◌++◌, ◌+◌, Option, refl, ap, ◌∙◌}
use Rattle.std.specs.Prelude.{if◌then◌else◌}
use Rattle.function_blocks.specs.Blocks.{has_ci}
use Rattle.function_blocks.specs.declared.setup.Block.{Block}
use Rattle.endpoint_lines.specs.EndpointLines.{block_text}
use Rattle.pass_loop.specs.Each.{for_each}
use Rattle.pass_loop.specs.Put.{Put, in_notes}
use Rattle.endpoint_pass.specs.Answering.{block_line_of}

-- the same is put for each, if the same is put for one
same_for_each : {X : Type 0} (one other : ℕ → X → List Put) → ((n : ℕ) (x : X) → one n x ≡ other n x) → (number : ℕ) (xs : List X)
    → for_each one number xs ≡ for_each other number xs
same_for_each one other same number [] = refl
same_for_each one other same number (x ∷ xs) =
    ap (λ ps. ps ++ for_each one (number + 1) xs) (same number x)
    ∙ ap (λ ps. other number x ++ ps) (same_for_each one other same (number + 1) xs)

pub blocks_are : (muid other : ℕ → Option ℕ) → ((n : ℕ) → muid n ≡ other n) → (blocks : List Block)
    → for_each (block_line_of muid) 0 blocks ≡ for_each (block_line_of other) 0 blocks
blocks_are muid other same blocks =
    same_for_each (block_line_of muid) (block_line_of other)
    (λ n block. ap (λ m. if has_ci block then in_notes (block_text n m) ∷ [] else []) (same n)) 0 blocks
