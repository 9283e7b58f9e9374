-- Sinks of which the first ones have been flushed, and the others stand as they were.
use Rattle.std.proofs.Common.{◌≡◌, ℕ, zero, suc, ◌+◌, ◌≤◌, List, [], ◌∷◌, length, refl}
use Rattle.std.proofs.Common.{subst, arith, add-one, inl, inr, slice_index_or, slice_set}
use Rattle.std.specs.Prelude.{◌⊎◌, Result, Ok, Err, OnOk, OnErr}
use Rattle.outside.specs.Outside.{Rose}
use Rattle.midi_edge.specs.Adapters.{TriesEach, unwritten}
use Rattle.midi_edge.specs.declared.adapters.write_sink.WriteSink.{WriteSink}

-- the sink has nothing left to write out, or its own count of faults rose
abbrev pub IsTried : {W : Type 0} → WriteSink W → WriteSink W → Type 0
IsTried before after = (unwritten after ≡ []) ⊎ Rose before.faults after.faults

-- this many sinks have been tried, and the others are the same as before
abbrev pub TriesFirst : {W : Type 0} → ℕ → List (WriteSink W) → List (WriteSink W) → Type 0
TriesFirst count [] [] = Unit {0}
TriesFirst count [] (now ∷ nows) = ⊥
TriesFirst count (old ∷ olds) [] = ⊥
TriesFirst zero (old ∷ olds) (now ∷ nows) = (now ≡ old) × TriesFirst zero olds nows
TriesFirst (suc count) (old ∷ olds) (now ∷ nows) = IsTried old now × TriesFirst count olds nows

is_tried : {T E W : Type 0} (before after : WriteSink W) (answer : Result T E)
    → OnOk answer (unwritten after ≡ []) → OnErr answer (Rose before.faults after.faults) → IsTried before after
is_tried before after (Ok x) written rose = inl written
is_tried before after (Err e) written rose = inr rose

pub TriesFirst-none : {W : Type 0} (sinks : List (WriteSink W)) → TriesFirst 0 sinks sinks
TriesFirst-none [] = tt
TriesFirst-none (sink ∷ sinks) = (refl, TriesFirst-none sinks)

next : {W : Type 0} (old now : List (WriteSink W)) (i : ℕ) (default after : WriteSink W) → TriesFirst i old now
    → IsTried (slice_index_or now i default) after → TriesFirst (suc i) old (slice_set now i after)
next [] [] i default after first tried = tt
next [] (now ∷ nows) i default after first tried = absurd first
next (old ∷ olds) [] i default after first tried = absurd first
next (old ∷ olds) (now ∷ nows) zero default after first tried = (subst (λ before. IsTried before after) first.0 tried, first.1)
next (old ∷ olds) (now ∷ nows) (suc i) default after first tried = (first.0, next olds nows i default after first.1 tried)

-- one more sink, which gives this answer
pub TriesFirst-more : {T E W : Type 0} (old now : List (WriteSink W)) (i : ℕ) (default after : WriteSink W) (answer : Result T E)
    → TriesFirst i old now
    → OnOk answer (unwritten after ≡ []) → OnErr answer (Rose (slice_index_or now i default).faults after.faults)
    → TriesFirst (i + 1) old (slice_set now i after)
TriesFirst-more old now i default after answer first written rose =
    rw add-one (next old now i default after first (is_tried (slice_index_or now i default) after answer written rose))

pub TriesFirst-all : {W : Type 0} (old now : List (WriteSink W)) (i : ℕ) → length now ≤ i → TriesFirst i old now → TriesEach old now
TriesFirst-all [] [] i within first = tt
TriesFirst-all [] (now ∷ nows) i within first = absurd first
TriesFirst-all (old ∷ olds) [] i within first = absurd first
TriesFirst-all (old ∷ olds) (now ∷ nows) zero within first = absurd (omega arith)
TriesFirst-all (old ∷ olds) (now ∷ nows) (suc i) within first = (first.0, TriesFirst-all olds nows i (omega arith) first.1)
