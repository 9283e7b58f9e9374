-- What a reader of items gives next.
use Rattle.std.specs.Prelude.{◌≡◌, ℕ, ◌<◌, ◌≤◌, List, [], ◌∷◌, ◌++◌, reverse, Option, None, Some, IfSome}
use Rattle.item_reader.specs.SoFar.{Given}
use Rattle.outside.specs.Outside.{Rose}
use Rattle.pass_loop.specs.Pass.{Cutting, IsFront, HasGivenUp}
use Rattle.pass_loop.specs.declared.pass.Next.{Next}
use Rattle.pass_loop.specs.declared.pass.Next.TheVariants.{Item, End, Refused, Failed}
use Rattle.pass_loop.specs.declared.pass.Found.{Found}
use Rattle.pass_loop.specs.declared.pass.Found.TheVariants as found
use Rattle.pass_loop.specs.declared.pass.More.{More}
use Rattle.pass_loop.specs.declared.pass.More.TheVariants as more

-- By what was given before: an item, which is given then, as it promises; or the items end, with the bytes or with a refusal; or a
-- read failed, and the same is given still, so that a later call goes on from there. What is left is what the call leaves.
abbrev pub GivesNext : {A I : Type 0} → Cutting (A × I) → (List (A × I) → A × I → Type 0) →
    (Given (A × I) → Type 0) → Given (A × I) → Next A I → Type 0
GivesNext IsCut Promises HasGiven so_far (Item at item) =
    HasGiven (record so_far { items = so_far.items ++ (at, item) ∷ [] }) × Promises (reverse so_far.items) (at, item)
    × IfSome so_far.all (λ bytes. IsFront IsCut bytes (so_far.items ++ (at, item) ∷ []))
GivesNext IsCut Promises HasGiven so_far End =
    IfSome so_far.all (λ bytes. IsCut bytes so_far.items None × (so_far.left ≡ Some []))
GivesNext IsCut Promises HasGiven so_far (Refused reason offset) =
    IfSome so_far.all (λ bytes. IsCut bytes so_far.items (Some (reason, offset)))
GivesNext IsCut Promises HasGiven so_far Failed =
    HasGiven so_far × IfSome so_far.all (λ bytes. HasGivenUp IsCut bytes so_far.left so_far.items)

-- the source's count rose if a read failed, and else stayed
abbrev pub NextCause : {A I : Type 0} → ℕ → ℕ → Next A I → Type 0
NextCause before now Failed = Rose before now
NextCause before now _ = now ≡ before

-- each item brings the end nearer
abbrev pub ComesNearer : {A I : Type 0} → ℕ → ℕ → Next A I → Type 0
ComesNearer before now (Item at item) = now < before
ComesNearer before now _ = Unit {0}

-- ---- from the bytes that a reader keeps

-- what begins at a place, by what was given before it: as above, in which an item is given once the reader has passed it
abbrev pub GivesFound : {A I : Type 0} → Cutting (A × I) → (List (A × I) → A × I → Type 0) →
    (ℕ → Given (A × I) → Type 0) → Given (A × I) → Found A I → Type 0
GivesFound IsCut Promises HasGivenAt so_far (found.Item at item next) =
    GivesNext IsCut Promises (HasGivenAt next) so_far (Item at item)
GivesFound IsCut Promises HasGivenAt so_far (found.Refused reason offset) =
    IfSome so_far.all (λ bytes. IsCut bytes so_far.items (Some (reason, offset)))

-- by what was given before a place, what begins there, if a whole item does
abbrev pub GivesFoundAt : {Reader A I : Type 0} → Cutting (A × I) → (List (A × I) → A × I → Type 0) →
    (Reader → Given (A × I) → Type 0) → (ℕ → Reader → Reader) → Reader → Given (A × I) → Option (Found A I) → Type 0
GivesFoundAt IsCut Promises HasGiven passed reader so_far result =
    IfSome result (λ found. GivesFound IsCut Promises (λ next. HasGiven (passed next reader)) so_far found)

-- the item after this place is within the bytes that are held, and brings the end nearer
abbrev pub IsFurther : {A I : Type 0} → (ℕ → ℕ) → ℕ → ℕ → Found A I → Type 0
IsFurther to_go_at held place (found.Item at item next) = (next ≤ held) × (to_go_at next < to_go_at place)
IsFurther to_go_at held place (found.Refused reason offset) = Unit {0}

-- what reading brought, by what was given before: the same is given still, or the items end, or a read failed
abbrev pub GivesMore : {Item : Type 0} → Cutting Item → (Given Item → Type 0) → Given Item → More → Type 0
GivesMore IsCut HasGiven so_far more.Held = HasGiven so_far
GivesMore IsCut HasGiven so_far more.End = IfSome so_far.all (λ bytes. IsCut bytes so_far.items None × (so_far.left ≡ Some []))
GivesMore IsCut HasGiven so_far (more.Refused reason offset) =
    IfSome so_far.all (λ bytes. IsCut bytes so_far.items (Some (reason, offset)))
GivesMore IsCut HasGiven so_far more.Failed =
    HasGiven so_far × IfSome so_far.all (λ bytes. HasGivenUp IsCut bytes so_far.left so_far.items)

-- the source's count rose if a read failed, and else stayed
abbrev pub MoreCause : ℕ → ℕ → More → Type 0
MoreCause before now more.Failed = Rose before now
MoreCause before now _ = now ≡ before
