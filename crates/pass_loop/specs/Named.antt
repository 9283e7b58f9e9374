-- The places that a pass names, and what it leaves of the others.
use Rattle.std.specs.Prelude.{◌≡◌, ◌≢◌, Bool, true, false, List, [], ◌∷◌, ◌++◌}
use Rattle.std.specs.List.{AllByRecursion}
use Rattle.pass_loop.specs.Places.{Places}
use Rattle.pass_loop.specs.Put.{Put, in_lane, in_output, in_notes}
use Rattle.pass_loop.specs.declared.ends.RunEnd.{RunEnd}
use Rattle.pass_loop.specs.declared.ends.RunEnd.TheVariants.{LaneFault, OutputFault, NoteFault}

-- which places a pass may write to
pub record Named : Type 0 where
  pub lanes : Bool
  pub output : Bool
  pub notes : Bool

-- whether a put goes to one of them
abbrev pub is_named : Named → Put → Bool
is_named named (in_lane lane piece) = named.lanes
is_named named (in_output text) = named.output
is_named named (in_notes text) = named.notes

abbrev pub AreNamed : Named → List Put → Type 0
AreNamed named puts = AllByRecursion (λ put. is_named named put ≡ true) puts

pub named-then : (named : Named) (ps qs : List Put) → AreNamed named ps → AreNamed named qs → AreNamed named (ps ++ qs)
named-then named [] qs are more = more
named-then named (p ∷ ps) qs are more = (are.0, named-then named ps qs are.1 more)

-- the content and the count of faults of the lanes stay, and the end is no fault of theirs; so with the
-- output and the notes
abbrev pub SparesLanes : RunEnd → Places → Places → Type 0
SparesLanes end old new = (new.pieces ≡ old.pieces) × (new.faults.lanes ≡ old.faults.lanes) × (end ≢ LaneFault)

abbrev pub SparesOutput : RunEnd → Places → Places → Type 0
SparesOutput end old new = (new.output ≡ old.output) × (new.faults.output ≡ old.faults.output) × (end ≢ OutputFault)

abbrev pub SparesNotes : RunEnd → Places → Places → Type 0
SparesNotes end old new = (new.notes ≡ old.notes) × (new.faults.notes ≡ old.faults.notes) × (end ≢ NoteFault)

-- what isn't named is unchanged
abbrev pub SparesOthers : Named → RunEnd → Places → Places → Type 0
SparesOthers named end old new =
    (named.lanes ≡ false → SparesLanes end old new) × (named.output ≡ false → SparesOutput end old new)
    × (named.notes ≡ false → SparesNotes end old new)
