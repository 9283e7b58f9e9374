-- The end that there must be if an input is refused.
use Rattle.std.specs.Prelude.{◌≡◌, ◌⊎◌, ℕ, Bool, true, false, List, reverse, IfSome}
use Rattle.pass_loop.specs.Pass.{AreAccepted, Cutting, IsFirstRefusal, NothingFails, Seen, Work}
use Rattle.pass_loop.specs.declared.ends.Reason.{Reason}
use Rattle.pass_loop.specs.declared.ends.RunEnd.{RunEnd}
use Rattle.pass_loop.specs.declared.ends.RunEnd.TheVariants.{Refused, NoMemory}

-- after items that are accepted these bytes are refused, or the next item is, for this reason and at this offset
abbrev pub HasFirstRefusal : {Item : Type 0} → Cutting Item → Work Item → List ℕ → Reason → ℕ → Type 0
HasFirstRefusal {Item} IsCut work bytes reason offset =
    (items : List Item) × AreAccepted work (reverse items) × IsFirstRefusal IsCut work bytes items reason offset

-- it is refused for this reason and at this offset; a pass that takes memory while it runs may have found none
abbrev pub IsRefusedIn : Bool → Reason → ℕ → RunEnd → Type 0
IsRefusedIn false reason offset end = end ≡ Refused reason offset
IsRefusedIn true reason offset end = (end ≡ Refused reason offset) ⊎ (end ≡ NoMemory)

-- if the input has a first refusal and nothing fails, the pass ends with exactly that refusal
abbrev pub IsRefusedWhere : {Item : Type 0} → Cutting Item → Work Item → Seen → Seen → RunEnd → Type 0
IsRefusedWhere IsCut work old new end =
    IfSome old.left (λ bytes. (reason : Reason) (offset : ℕ) → HasFirstRefusal IsCut work bytes reason offset →
    NothingFails old new → IsRefusedIn work.grows reason offset end)
