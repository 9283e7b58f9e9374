-- The places that a pass writes to: their content, as far as a contract can see it, their counts of faults,
-- and what puts do to them.
use Rattle.std.specs.Prelude.{◌≡◌, ℕ, Bool, List, ◌∷◌, ◌++◌, Option, None, Some, Result, Ok, Err}
use Rattle.outside.specs.Outside.{Rose}
use Rattle.outside.specs.declared.objects.Lanes as lanes
use Rattle.outside.specs.declared.objects.Sink as sink
use Rattle.pass_loop.specs.Put.{Put, pairs_in, output_in, notes_in, IsPartOf, fault_of}
use Rattle.pass_loop.specs.declared.ends.RunEnd.{RunEnd}
use Rattle.pass_loop.specs.declared.ends.RunEnd.TheVariants.{Done, Refused, ReadFault, LaneFault, OutputFault, NoteFault, NoMemory}

-- the counts of faults of the lanes, the output and the notes
pub record Counts : Type 0 where
  pub lanes : ℕ
  pub output : ℕ
  pub notes : ℕ

-- their content, if a contract can see it, and their counts; and the names of the borrows, if they are
-- borrowed, which show that they stay the same objects
pub record Places : Type 0 where
  pub begun : Bool
  pub folder : Option (List ℕ)
  pub pieces : Option (List (ℕ × List ℕ))
  pub output : Option (List ℕ)
  pub notes : Option (List ℕ)
  pub faults : Counts
  pub borrows : ℕ × ℕ × ℕ

abbrev pub places : {L W N : Type 0} → lanes.Ghosts L → sink.Ghosts W → sink.Ghosts N → L → W → N → Places
places L W N l w n =
    record {
      begun = L.begun l;
      folder = L.folder l;
      pieces = L.pieces l;
      output = W.held w;
      notes = N.held n;
      faults = record { lanes = L.faults l; output = W.faults w; notes = N.faults n };
      borrows = (0, 0, 0);
    }

abbrev pub borrowed : ℕ × ℕ × ℕ → Places → Places
borrowed borrows s = record s { borrows = borrows }

-- a content that can be seen, with these after it
abbrev pub with_more : {A : Type 0} → Option (List A) → List A → Option (List A)
with_more None items = None
with_more (Some old) items = Some (old ++ items)

-- the places once these are put: each gained its own, in order, and nothing else changed
abbrev pub over_puts : List Put → Places → Places
over_puts puts old =
    record old {
      pieces = with_more old.pieces (pairs_in puts);
      output = with_more old.output (output_in puts);
      notes = with_more old.notes (notes_in puts);
    }

-- the same with these counts of faults
abbrev pub with_faults : Counts → Places → Places
with_faults faults old = record old { faults = faults }

-- the count of the place that failed rose, and the others stayed
abbrev pub Fails : RunEnd → Counts → Counts → Type 0
Fails LaneFault old new = Rose old.lanes new.lanes × (new ≡ record old { lanes = new.lanes })
Fails OutputFault old new = Rose old.output new.output × (new ≡ record old { output = new.output })
Fails NoteFault old new = Rose old.notes new.notes × (new ≡ record old { notes = new.notes })
Fails Done old new = ⊥
Fails (Refused reason offset) old new = ⊥
Fails ReadFault old new = ⊥
Fails NoMemory old new = ⊥

-- One of these failed: those before it are put, and of it perhaps a part; its place's count rose, and nothing else changed.
pub record FailsAt (puts : List Put) (end : RunEnd) (old new : Places) : Type 0 where
  pub before : List Put
  pub failed : Put
  pub after : List Put
  pub parts : puts ≡ before ++ failed ∷ after
  pub part : List Put
  pub is_part : IsPartOf failed part
  pub end_is : end ≡ fault_of failed
  pub stands : new ≡ with_faults new.faults (over_puts (before ++ part) old)
  pub counts : Fails end old.faults new.faults

-- they are put, or one of them failed
abbrev pub Puts : List Put → Places → Places → Result (Unit {0}) RunEnd → Type 0
Puts puts old new (Ok done) = new ≡ over_puts puts old
Puts puts old new (Err end) = FailsAt puts end old new
