-- What the calls of the outside do to what an object holds or has left, if it tells it, and to its count of faults.
use Rattle.std.specs.Prelude.{◌≡◌, ◌⊎◌, ℕ, ◌+◌, ◌-◌, ◌^◌, ◌<◌, ◌≤◌, min, List, [], ◌∷◌, ◌++◌, length}
use Rattle.std.specs.Prelude.{take, Result, Option, None, Some, OnOk, OnErr, IfErr, MatchResult}
use Rattle.outside.specs.declared.objects.OpenFault.{OpenFault}
use Rattle.outside.specs.declared.objects.OpenFault.TheVariants.{Failed, NoMemory}

-- a count of faults is larger at the end of a call than at its start, or stands at the last value of its type
abbrev pub Rose : ℕ → ℕ → Type 0
Rose before now = min (before + 1) (2 ^ 64 - 1) ≤ now

-- the count never falls, stays at `Ok`, and rose at `Err`
pub record HasCause {T E : Type 0} (before now : ℕ) (result : Result T E) : Type 0 where
  pub later : before ≤ now
  pub kept : OnOk result (now ≡ before)
  pub rose : OnErr result (Rose before now)

-- an opening that found no memory leaves the count as it was
abbrev pub OpenCause : OpenFault → ℕ → ℕ → Type 0
OpenCause Failed before now = Rose before now
OpenCause NoMemory before now = now ≡ before

pub record HasOpenCause {T : Type 0} (before now : ℕ) (result : Result T OpenFault) : Type 0 where
  pub later : before ≤ now
  pub kept : OnOk result (now ≡ before)
  pub failed : IfErr result (λ e. OpenCause e before now)

-- what is told begins with these, and loses them; what isn't told stays untold
abbrev pub Loses : Option (List ℕ) → Option (List ℕ) → List ℕ → Type 0
Loses None None bytes = Unit {0}
Loses (Some old) (Some new) bytes = old ≡ bytes ++ new
Loses None (Some new) bytes = ⊥
Loses (Some old) None bytes = ⊥

-- what is told gains these at its end
abbrev pub Gains : {A : Type 0} → Option (List A) → Option (List A) → List A → Type 0
Gains None None items = Unit {0}
Gains (Some old) (Some new) items = new ≡ old ++ items
Gains None (Some new) items = ⊥
Gains (Some old) None items = ⊥

-- what is told is nothing
abbrev pub IsUsedUp : Option (List ℕ) → Type 0
IsUsedUp None = Unit {0}
IsUsedUp (Some bytes) = bytes ≡ []

-- a `take` gives the first bytes of what is left, none only at the end, and nothing at `Err`
abbrev pub Takes : {E : Type 0} → Option (List ℕ) → Option (List ℕ) → Result ℕ E → List ℕ → Type 0
Takes old new result buf =
    MatchResult result (λ n. Loses old new (take n buf) × (n ≡ 0 → IsUsedUp old)) (λ _. new ≡ old)

-- what is told gains a front of the piece that isn't all of it
abbrev pub GainsPart : Option (List ℕ) → Option (List ℕ) → List ℕ → Type 0
GainsPart old new piece = (n : ℕ) × (n < length piece) × Gains old new (take n piece)

-- a `put` adds the piece, or at `Err` a front of it
abbrev pub PutsPiece : {T E : Type 0} → Option (List ℕ) → Option (List ℕ) → Result T E → List ℕ → Type 0
PutsPiece old new result piece =
    MatchResult result (λ _. Gains old new piece) (λ _. GainsPart old new piece)

-- what is told gains nothing, or one pair of the lane and a front of the piece that is neither empty nor all of it
abbrev pub GainsPartOf : Option (List (ℕ × List ℕ)) → Option (List (ℕ × List ℕ)) → ℕ → List ℕ → Type 0
GainsPartOf old new lane piece =
    Gains old new [] ⊎ ((n : ℕ) × (0 < n) × (n < length piece) × Gains old new ((lane, take n piece) ∷ []))

-- a `put` to a lane adds the pair, or at `Err` nothing or a part of it
abbrev pub PutsPair : {T E : Type 0} → Option (List (ℕ × List ℕ)) → Option (List (ℕ × List ℕ)) → Result T E → ℕ → List ℕ → Type 0
PutsPair old new result lane piece =
    MatchResult result (λ _. Gains old new ((lane, piece) ∷ [])) (λ _. GainsPartOf old new lane piece)

-- the bytes of a folder or a name that an object keeps: the first 4,096
abbrev pub kept_bytes : List ℕ → List ℕ
kept_bytes text = take 4096 text

-- the first bytes of the named text, at most this many, are added
abbrev pub Fetches : Option (List ℕ → Option (List ℕ)) → List ℕ → ℕ → List ℕ → List ℕ → Type 0
Fetches None name limit old new = Unit {0}
Fetches (Some texts) name limit old new = (text : List ℕ) × (texts name ≡ Some text) × (new ≡ old ++ take limit text)

-- these bytes, and then what is left, if it is told
abbrev pub ahead : List ℕ → Option (List ℕ) → Option (List ℕ)
ahead bytes None = None
ahead bytes (Some left) = Some (bytes ++ left)
