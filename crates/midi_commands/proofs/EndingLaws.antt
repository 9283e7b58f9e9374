-- The last line after what was accepted, and how a run that was done ends.
use Rattle.std.proofs.Common.{◌≡◌, ◌≤◌, ℕ, true, false, List, Option, None, Some, refl, ap, sym, ◌∙◌, subst, arith}
use Rattle.std.specs.Prelude.{Result, Ok, Err, IsOk, OnErr, OnOk, MatchOption}
use Rattle.std.specs.Io.KnownBytes.{Keeps}
use Rattle.std.proofs.KnownBytes.{Appends-kept, Keeps-refl, Keeps-trans}
use Rattle.midi_edge.specs.Adapters.{Accepts, accepted}
use Rattle.midi_edge.specs.declared.adapters.write_sink.WriteSink.{WriteSink}
use Rattle.outside.specs.Outside.{HasCause, Rose}
use Rattle.outside.specs.declared.objects.Failed.{Failed}
use Rattle.pass_loop.specs.Places.{Counts}
use Rattle.midi_commands.specs.Ending.{AcceptsLast, EndsAs, PutsLast, WritesBoth}
use Rattle.midi_commands.specs.ExitCode.{is_fault}
use Rattle.midi_commands.specs.LastLine.{last_line_text}
use Rattle.midi_commands.specs.declared.status.Status.{Status}
use Rattle.midi_commands.specs.declared.status.Status.TheVariants.{Done, Refused, ReadFault, LaneFault, OutputFault, NoteFault}
use Rattle.midi_commands.specs.declared.status.Status.TheVariants.{ShelfFault, Usage, SetupSyntax, SetupField, NoMemory}

-- a status with this last line, which is put as this piece
pub accepts_line : (status : Status) (old new : Option (List ℕ)) (answer : Result (Unit {0}) Failed) (line piece : List ℕ)
    → Some line ≡ last_line_text status → piece ≡ line → Accepts old new answer piece → AcceptsLast status old new answer
accepts_line status old new answer line piece is same accepts =
    let L : Option (List ℕ) → Type 0 = λ text. MatchOption text (IsOk answer × Keeps old new) (λ line. Accepts old new answer line) in
    subst L is (subst (Accepts old new answer) same accepts)

-- nothing failed
abbrev pub well : Result (Unit {0}) Failed
well = Ok tt

-- a status without one
pub accepts_no_line : (status : Status) (old : Option (List ℕ)) → None ≡ last_line_text status → AcceptsLast status old old well
accepts_no_line status old is =
    let L : Option (List ℕ) → Type 0 = λ text. MatchOption text (IsOk well × Keeps old old) (λ line. Accepts old old well line) in
    subst L is (refl, Keeps-refl old)

-- a put that isn't made counts no fault
pub not_put : (count : ℕ) → HasCause count count well
not_put count = record { later = omega (arith); kept = refl; rose = tt }

-- what was accepted stays
still_accepts : (old told new : Option (List ℕ)) (answer : Result (Unit {0}) Failed) (line : List ℕ) → Accepts old told answer line
    → Keeps told new → Accepts old new answer line
still_accepts old told new (Ok done) line accepts keeps = Appends-kept old told new line accepts keeps
still_accepts old told new (Err fault) line accepts keeps = (accepts.0, accepts.1, Appends-kept old told new _ accepts.2 keeps)

still_accepts_last : (status : Status) (old told new : Option (List ℕ)) (answer : Result (Unit {0}) Failed)
    → AcceptsLast status old told answer → Keeps told new → AcceptsLast status old new answer
still_accepts_last status old told new answer accepts keeps = by_line (last_line_text status) accepts
  where
    by_line : (text : Option (List ℕ)) → MatchOption text (IsOk answer × Keeps old told) (λ line. Accepts old told answer line)
        → MatchOption text (IsOk answer × Keeps old new) (λ line. Accepts old new answer line)
    by_line None accepts = (accepts.0, Keeps-trans old told new accepts.1 keeps)
    by_line (Some line) accepts = still_accepts old told new answer line accepts keeps

-- a count that rose is risen later too
rose_still : (before mid now : ℕ) (answer : Result (Unit {0}) Failed) → OnErr answer (Rose before mid) → mid ≤ now
    → OnErr answer (Rose before now)
rose_still before mid now (Ok done) rose later = tt
rose_still before mid now (Err fault) rose later = omega (arith, rose, later)

true_is_not_false : true ≡ false → ⊥
true_is_not_false same = cc

counts_are : (before now : Counts) → now.lanes ≡ before.lanes → now.output ≡ before.output → now.notes ≡ before.notes → now ≡ before
counts_are before now lanes output notes =
    ap (λ x. made x now.output now.notes) lanes
    ∙ ap (λ x. made before.lanes x now.notes) output
    ∙ ap (made before.lanes before.output) notes
  where
    made : ℕ → ℕ → ℕ → Counts
    made lanes output notes = record { lanes = lanes; output = output; notes = notes }

-- a status that is no fault, and stays
stays_so : (status end : Status) (before now : Counts) (old new : Option (List ℕ)) → is_fault end ≡ false → end ≡ status → now ≡ before
    → Keeps old new → EndsAs status end before now old new
stays_so status Done before now old new is same kept keeps =
    record { first = (same, kept); answer = well; failed = tt; line = (refl, keeps) }
stays_so status (Refused reason offset) before now old new is same kept keeps =
    record { first = (same, kept); answer = well; failed = tt; line = (refl, keeps) }
stays_so status Usage before now old new is same kept keeps =
    record { first = (same, kept); answer = well; failed = tt; line = (refl, keeps) }
stays_so status SetupSyntax before now old new is same kept keeps =
    record { first = (same, kept); answer = well; failed = tt; line = (refl, keeps) }
stays_so status (SetupField rule) before now old new is same kept keeps =
    record { first = (same, kept); answer = well; failed = tt; line = (refl, keeps) }
stays_so status NoMemory before now old new is same kept keeps =
    record { first = (same, kept); answer = well; failed = tt; line = (refl, keeps) }
stays_so status ReadFault before now old new is same kept keeps = absurd cc
stays_so status LaneFault before now old new is same kept keeps = absurd cc
stays_so status OutputFault before now old new is same kept keeps = absurd cc
stays_so status NoteFault before now old new is same kept keeps = absurd cc
stays_so status ShelfFault before now old new is same kept keeps = absurd cc

-- the lanes and the output are written out, and then the notes, in which nothing was put
quietly : (written status final : Status) (flush : Result (Unit {0}) Failed) (before now : Counts) (old new : Option (List ℕ))
    → is_fault written ≡ false → written ≡ status → now.lanes ≡ before.lanes → now.output ≡ before.output
    → HasCause before.notes now.notes flush → Keeps old new → OnOk flush (final ≡ written) → OnErr flush (final ≡ NoteFault)
    → EndsAs status final before now old new
quietly written status final (Ok done) before now old new is stays lanes output cause keeps same fault =
    subst (λ s. EndsAs status s before now old new) (sym same)
    (stays_so status written before now old new is stays (counts_are before now lanes output cause.kept) keeps)
quietly written status final (Err failed) before now old new is stays lanes output cause keeps same fault =
    subst (λ s. EndsAs status s before now old new) (sym fault)
    (record {
      first = (counts_are (record before { notes = now.notes }) now lanes output refl, cause.rose);
      answer = well;
      failed = tt;
      line = (refl, keeps);
    })

-- The status after the lanes and the output are written out and its line is put, if it is a new fault, and then
-- the one after the notes are written out.
pub ends_as : (status written final : Status) (flush : Result (Unit {0}) Failed) (before now : Counts) (mid : ℕ)
    (old told new : Option (List ℕ))
    → is_fault status ≡ false → WritesBoth status written before.lanes now.lanes before.output now.output
    → (is_fault written ≡ true → PutsLast written old told before.notes mid)
    → (is_fault written ≡ false → HasCause before.notes now.notes flush × Keeps old new)
    → HasCause mid now.notes flush → Keeps told new
    → OnOk flush (final ≡ written) → (is_fault written ≡ false → OnErr flush (final ≡ NoteFault))
    → (is_fault written ≡ true → final ≡ written)
    → EndsAs status final before now old new
ends_as status LaneFault final flush before now mid old told new is both put quiet cause keeps same fault stays =
    let line = put refl in
    subst (λ s. EndsAs status s before now old new) (sym (stays refl))
    (record {
      first = both;
      answer = line.0;
      failed = rose_still before.notes mid now.notes line.0 line.1.rose cause.later;
      line = still_accepts_last LaneFault old told new line.0 line.2 keeps;
    })
ends_as status OutputFault final flush before now mid old told new is both put quiet cause keeps same fault stays =
    let line = put refl in
    subst (λ s. EndsAs status s before now old new) (sym (stays refl))
    (record {
      first = both;
      answer = line.0;
      failed = rose_still before.notes mid now.notes line.0 line.1.rose cause.later;
      line = still_accepts_last OutputFault old told new line.0 line.2 keeps;
    })
ends_as status ReadFault final flush before now mid old told new is both put quiet cause keeps same fault stays =
    absurd (true_is_not_false (subst (λ s. is_fault s ≡ false) (sym both.0) is))
ends_as status NoteFault final flush before now mid old told new is both put quiet cause keeps same fault stays =
    absurd (true_is_not_false (subst (λ s. is_fault s ≡ false) (sym both.0) is))
ends_as status ShelfFault final flush before now mid old told new is both put quiet cause keeps same fault stays =
    absurd (true_is_not_false (subst (λ s. is_fault s ≡ false) (sym both.0) is))
ends_as status Done final flush before now mid old told new is both put quiet cause keeps same fault stays =
    quietly Done status final flush before now old new refl both.0 both.1 both.2 (quiet refl).0 (quiet refl).1 same (fault refl)
ends_as status (Refused reason offset) final flush before now mid old told new is both put quiet cause keeps same fault stays =
    quietly (Refused reason offset) status final flush before now old new refl both.0 both.1 both.2 (quiet refl).0 (quiet refl).1 same (fault refl)
ends_as status Usage final flush before now mid old told new is both put quiet cause keeps same fault stays =
    quietly Usage status final flush before now old new refl both.0 both.1 both.2 (quiet refl).0 (quiet refl).1 same (fault refl)
ends_as status SetupSyntax final flush before now mid old told new is both put quiet cause keeps same fault stays =
    quietly SetupSyntax status final flush before now old new refl both.0 both.1 both.2 (quiet refl).0 (quiet refl).1 same (fault refl)
ends_as status (SetupField rule) final flush before now mid old told new is both put quiet cause keeps same fault stays =
    quietly (SetupField rule) status final flush before now old new refl both.0 both.1 both.2 (quiet refl).0 (quiet refl).1 same (fault refl)
ends_as status NoMemory final flush before now mid old told new is both put quiet cause keeps same fault stays =
    quietly NoMemory status final flush before now old new refl both.0 both.1 both.2 (quiet refl).0 (quiet refl).1 same (fault refl)

-- notes in which nothing was put are as they were when they are written out
pub quiet_notes : {W : Type 0} (contents : W → Option (List ℕ)) (old told new : WriteSink W) (flush : Result (Unit {0}) Failed)
    → told ≡ old → HasCause told.faults new.faults flush → Keeps (accepted contents told) (accepted contents new)
    → HasCause old.faults new.faults flush × Keeps (accepted contents old) (accepted contents new)
quiet_notes contents old told new flush same cause keeps =
    subst (λ s. HasCause s.faults new.faults flush × Keeps (accepted contents s) (accepted contents new)) same (cause, keeps)
