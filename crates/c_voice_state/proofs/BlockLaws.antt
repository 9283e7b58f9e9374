-- Packets or bytes that a state takes one after another.
use Rattle.std.proofs.Common.{ℕ, ◌≡◌, ◌≤◌, ◌<◌, ◌+◌, ◌*◌, ◌%◌, ◌^◌, refl, ap, subst, arith}
use Rattle.std.proofs.Common.{List, [], length, take, drop}
use Rattle.c_answers.specs.Blocks.{Taking, nothing_taken, with_item}
use Rattle.c_answers.specs.declared.block.Block.{Block}
use Rattle.c_answers.specs.declared.status.Status.{Status}
use Rattle.c_answers.proofs.BlockLaws as laws
use Rattle.c_answers.proofs.ItemLaws.{HasRoom, IsNext, taken_silent}
use Rattle.c_voice_state.specs.Kept.{alone}

same_offset : (n : ℕ) → (0 + 0 * n) % 2 ^ 64 ≡ 0
same_offset n = let e : 0 + 0 * n ≡ 0 = omega arith in ap (λ m. m % 2 ^ 64) e

module _ {Held : Type 0} (size_of : ℕ → ℕ) (Takes : Held → List ℕ → Held → Type 0) (Refuses : Held → List ℕ → Status → Held → Type 0)
    (held : Held) (input : List ℕ) where
  abbrev taking : Taking Held (Unit {0})
  taking = alone size_of Takes Refuses

  abbrev pub AreSoFar : Block → Held → Type 0
  AreSoFar block now = laws.AreSoFar taking (λ it. Unit {0}) held 0 input [] [] block 0 now [] []

  pub none_yet : AreSoFar nothing_taken held
  none_yet = laws.none_yet taking (λ it. Unit {0}) held 0 input [] [] tt

  module _ (block : Block) (now : Held) (are : AreSoFar block now) (some : block.taken < length input) where
    -- no place is ever missing
    pub has_room : HasRoom taking (λ it. Unit {0}) held 0 input [] [] block 0 now [] []
    has_room =
        record {
          are = are;
          some = some;
          room = laws.room_left taking (λ it. Unit {0}) held 0 input [] [] block 0 now [] [] are (omega arith) (omega arith);
        }

    -- one more item
    pub one_more : (left : List ℕ) (count : ℕ) (after : Held) (out : Block) → left ≡ drop block.taken input → IsNext taking left count
        → Takes now (take count left) after → out ≡ with_item block count 0 0 → AreSoFar out after
    one_more left count after out left_is is takes out_is =
        subst (λ next. laws.AreSoFar taking (λ it. Unit {0}) held 0 input [] [] out next after [] []) (same_offset count)
        (taken_silent has_room left_is is (refl, refl, takes) tt out_is)
