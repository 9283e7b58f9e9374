-- A pass under way: what it has done so far, and what the work on the items that are held makes of that.
use Rattle.std.specs.Prelude.{◌≡◌, ◌⊎◌, ◌<◌, ◌≤◌, ℕ, List, Some, Result, Ok, Err}
use Rattle.std.proofs.Common.{subst}
use Rattle.item_reader.specs.SoFar.{Given, given}
use Rattle.pass_loop.specs.ForProofs.PassLaws.{SoFar}
use Rattle.pass_loop.specs.Next.{GivesFound, GivesFoundAt}
use Rattle.pass_loop.specs.Pass.{Cutting, Ends, Seen, Work}
use Rattle.pass_loop.specs.Places.{Places}
use Rattle.pass_loop.specs.declared.ends.RunEnd.{RunEnd}
use Rattle.pass_loop.specs.declared.pass.Found.{Found}

-- what is seen, with these places
abbrev pub with_places : Seen → Places → Seen
with_places seen places = record seen { places = places }

module _ {Reader Engine Item : Type 0} (work : Engine → Work Item) (HasGiven : Reader → Reader → Given Item → Type 0)
    (Holds : Engine → Engine → List Item → Type 0) where
  -- By these first ones, from what was seen at first: this reader and engine have done the work on what was given.
  abbrev pub IsSoFar : Reader → Engine → Seen → Seen → Reader → Engine → Type 0
  IsSoFar first begun old now reader engine =
      SoFar (work begun) (λ items. HasGiven first reader (given old.left now.left items)) (λ past. Holds begun engine past) old now

  abbrev pub IsUnderWay : Reader → Engine → Places → Type 0
  IsUnderWay reader engine places =
      (first : Reader) × (begun : Engine) × (old : Seen) × (now : Seen) × IsSoFar first begun old (with_places now places) reader engine

module _ {Reader Engine Item : Type 0} (IsCut : Reader → Cutting Item) (work : Engine → Work Item)
    (HasGiven : Reader → Reader → Given Item → Type 0) (Holds : Engine → Engine → List Item → Type 0)
    (passed : ℕ → Reader → Reader) (reader : Reader) where
  -- after the items that are held the pass is under way still, or it ended
  abbrev pub GoesOnAs : Reader → Engine → Seen → Seen → Engine → Result ℕ RunEnd → Type 0
  GoesOnAs first begun old new engine (Ok count) = IsSoFar work HasGiven Holds first begun old new (passed count reader) engine
  GoesOnAs first begun old new engine (Err end) = Ends (IsCut first) (work begun) old new end

  abbrev pub StaysUnderWay : Engine → Engine → Places → Places → Result ℕ RunEnd → Type 0
  StaysUnderWay before after places_before places_after result =
      (first : Reader) (begun : Engine) (old now : Seen) →
      IsSoFar work HasGiven Holds first begun old (with_places now places_before) reader before →
      GoesOnAs first begun old (with_places now places_after) after result

-- how many bytes were taken: none only if no whole item is held, and else the end is nearer
abbrev pub TakesHeld : {Reader : Type 0} → (Reader → ℕ) → (ℕ → Reader → Reader) → (ℕ → Reader → Type 0) → ℕ → Reader →
    Result ℕ RunEnd → Type 0
TakesHeld to_go passed IsHeld held reader (Ok count) =
    (count ≤ held) × (((count ≡ 0) × (IsHeld 0 reader → ⊥)) ⊎ (to_go (passed count reader) < to_go reader))
TakesHeld to_go passed IsHeld held reader (Err end) = Unit {0}

-- what begins at a place, once it is known what that is
pub found_at : {Reader A I : Type 0} (IsCut : Reader → Cutting (A × I)) (Promises : List (A × I) → A × I → Type 0)
    (HasGiven : Reader → Reader → Given (A × I) → Type 0) (passed : ℕ → Reader → Reader) (first reader : Reader) (so_far : Given (A × I))
    (found other : Found A I) → found ≡ other
    → GivesFoundAt (IsCut first) Promises (HasGiven first) passed reader so_far (Some found)
    → GivesFound (IsCut first) Promises (λ next. HasGiven first (passed next reader)) so_far other
found_at {A = A} {I = I} IsCut Promises HasGiven passed first reader so_far found other same gives =
    let F : Found A I → Type 0 = λ f. GivesFound (IsCut first) Promises (λ next. HasGiven first (passed next reader)) so_far f in
    subst F same gives
