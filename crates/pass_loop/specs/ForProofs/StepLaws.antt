-- What the code of a step does is a step of the work.
use Rattle.std.proofs.Common.{◌≡◌, List, None, Some, refl, sym, ◌∙◌, subst}
use Rattle.std.proofs.lemmas.Bool.{false≢true}
use Rattle.std.specs.Prelude.{Bool, true, false, IfOk, Result, Ok, Err}
use Rattle.pass_loop.specs.Pass.{Tail, Work, StepEnds, Steps, Takes}
use Rattle.pass_loop.specs.Places.{Places, FailsAt, Puts}
use Rattle.pass_loop.specs.Put.{Put, in_lane, in_output, in_notes, fault_of}
use Rattle.pass_loop.specs.declared.ends.RunEnd.{RunEnd}
use Rattle.pass_loop.specs.declared.ends.RunEnd.TheVariants.{Done, Refused, ReadFault, LaneFault, OutputFault, NoteFault, NoMemory}

-- whether a failed put ends a run so; what stands then is `FailsAt`
abbrev pub is_put_fault : RunEnd → Bool
is_put_fault LaneFault = true
is_put_fault OutputFault = true
is_put_fault NoteFault = true
is_put_fault Done = false
is_put_fault ReadFault = false
is_put_fault (Refused reason offset) = false
is_put_fault NoMemory = false

fault_of-is : (put : Put) → is_put_fault (fault_of put) ≡ true
fault_of-is (in_lane lane piece) = refl
fault_of-is (in_output text) = refl
fault_of-is (in_notes text) = refl

-- if a put failed, no other end comes
pub no_other_end : (puts : List Put) (end : RunEnd) (old new : Places) → FailsAt puts end old new → is_put_fault end ≡ false → ⊥
no_other_end puts end old new stops other =
    false≢true (sym other ∙ subst (λ e. is_put_fault e ≡ true) (sym stops.end_is) (fault_of-is stops.failed))

-- what the code of a step does is a step of the work, and at `Ok` what holds then holds
pub takes_steps : {I : Type 0} (work : Work I) (past : List I) (item : I) (old new : Places) (Then : Type 0)
    (result : Result (Unit {0}) RunEnd) (puts : List Put)
    → Takes (work.refusal past item) puts old new result → (work.refusal past item ≡ None → work.IsPut past item puts × Then)
    → Steps work past old new item result × IfOk result (λ done. Then)
takes_steps work past item old new Then result puts takes fine = by_refusal (work.refusal past item) refl takes
  where
    by_end : (end : RunEnd) → work.refusal past item ≡ None → FailsAt puts end old new → StepEnds work past old new item end
    by_end (Refused reason offset) e stops = absurd (no_other_end puts (Refused reason offset) old new stops refl)
    by_end NoMemory e stops = absurd (no_other_end puts NoMemory old new stops refl)
    by_end Done e stops = (e, (puts, (fine e).0, stops))
    by_end ReadFault e stops = (e, (puts, (fine e).0, stops))
    by_end LaneFault e stops = (e, (puts, (fine e).0, stops))
    by_end OutputFault e stops = (e, (puts, (fine e).0, stops))
    by_end NoteFault e stops = (e, (puts, (fine e).0, stops))

    by_result : (r : Result (Unit {0}) RunEnd) → work.refusal past item ≡ None → Puts puts old new r
        → Steps work past old new item r × IfOk r (λ done. Then)
    by_result (Ok done) e now = ((e, (puts, (fine e).0, now)), (fine e).1)
    by_result (Err end) e stops = (by_end end e stops, tt)

    by_refusal : (refusal : Tail) → work.refusal past item ≡ refusal → Takes refusal puts old new result
        → Steps work past old new item result × IfOk result (λ done. Then)
    by_refusal (Some refusal) e takes =
        let R : Result (Unit {0}) RunEnd → Type 0 = λ r. Steps work past old new item r × IfOk r (λ done. Then) in
        subst R (sym takes.0) ((e, takes.1), tt)
    by_refusal None e takes = by_result result e takes
