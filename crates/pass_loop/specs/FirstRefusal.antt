-- An input has one first refusal: the items before it, its reason and its offset.
use Rattle.std.specs.Prelude.{◌≡◌, ℕ, List, Some, reverse}
use Rattle.pass_loop.specs.Pass.{Tail, Cutting, Work, AreAccepted, IsFirstRefusal}
use Rattle.pass_loop.specs.declared.ends.Reason.{Reason}

abbrev pub refused_at : Reason → ℕ → Tail
refused_at reason offset = Some (reason, offset)

-- after items that are accepted the bytes are refused, or the next item is, in one place and for one reason
abbrev pub HasOneFirstRefusal : {Item : Type 0} → Cutting Item → Work Item → Type 0
HasOneFirstRefusal {Item} IsCut work =
    (bytes : List ℕ) (items others : List Item) (reason reason' : Reason) (offset offset' : ℕ)
    → AreAccepted work (reverse items) → AreAccepted work (reverse others)
    → IsFirstRefusal IsCut work bytes items reason offset → IsFirstRefusal IsCut work bytes others reason' offset'
    → (items ≡ others) × (refused_at reason offset ≡ refused_at reason' offset')
