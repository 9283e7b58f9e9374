-- Folding the step over any packets is the definition that looks back over them.
use Rattle.std.proofs.Common.{ℕ, ◌≡◌, ◌+◌, ◌∙◌, ap, sym, refl, subst, arith, List, []}
use Rattle.std.proofs.Common.{◌∷◌, ◌++◌, Option, Some, None, Bool, true, false, is_some}
use Rattle.std.specs.Prelude.{find, Err, ◌&&◌, if◌then◌else◌}
use Rattle.std.proofs.lemmas.List.Sums.{sum_by-cons}
use Rattle.std.specs.List.{AllByRecursion}
use Rattle.std.specs.Option.{option_and_then}
use Rattle.ump_grammar.specs.declared.packet.Packet.{Packet}
use Rattle.midi_clip.specs.declared.role.Role.{Role}
use Rattle.midi_clip.specs.declared.role.Role.TheVariants.{StartOfClip, EndOfClip, Resolution, Delta, Other}
use Rattle.midi_clip.specs.declared.step.ClipFault.{ClipFault}
use Rattle.midi_clip.specs.declared.step.Stage.{Stage}
use Rattle.midi_clip.specs.declared.step.Stage.TheVariants.{NotStarted, Started, Ended}
use Rattle.midi_clip.specs.History.{IsEndedAfter, IsStartedBefore, before_end, before_end_by, can_start}
use Rattle.midi_clip.specs.History.{end_at, end_by, is_ended, resolution_at, since_start, since_start_by}
use Rattle.midi_clip.specs.History.{step_at, step_by, tick_at, ticks_given, ticks_in, ticks_since}
use Rattle.midi_clip.specs.Roles.{is_end, is_resolution, is_start, role_of, ticks_added}
use Rattle.midi_clip.specs.Stages.{after_waiting, end_of, stage_after, stage_at, stage_over, stage_by, stage_within, step_of, ticks_of}

abbrev list_or : List Packet → Option (List Packet) → List Packet
list_or other None = other
list_or other (Some packets) = packets

some-same : (xs ys : List Packet) → Some xs ≡ Some ys → xs ≡ ys
some-same xs ys e = ap (list_or []) e

abbrev IsNone : Option (List Packet) → Type 0
IsNone None = Unit {0}
IsNone (Some packets) = ⊥

none-some : (xs : List Packet) → None ≡ Some xs → ⊥
none-some xs e = subst IsNone e tt

false-true : false ≡ true → ⊥
false-true e = cc

-- ---- its start

abbrev CannotStart : List Packet → Type 0
CannotStart past = (newer older : List Packet) (packet : Packet) → past ≡ newer ++ packet ∷ older → can_start older packet ≡ false

-- none of these packets can start a clip
not-started : (past : List Packet) → CannotStart past → since_start past ≡ None
not-started [] first = refl
not-started (packet ∷ past) first =
    let earlier : since_start past ≡ None =
    not-started past (λ newer older p e. first (packet ∷ newer) older p (ap (λ xs. packet ∷ xs) e)) in
    ap (λ since. since_start_by since (can_start past packet) packet) earlier
    ∙ ap (λ can. since_start_by None can packet) (first [] past packet refl)

starts-behind : (after before : List Packet) (start : Packet) → since_start before ≡ None → can_start before start ≡ true
    → since_start (after ++ start ∷ before) ≡ Some after
starts-behind [] before start none can =
    ap (λ since. since_start_by since (can_start before start) start) none ∙ ap (λ b. since_start_by None b start) can
starts-behind (packet ∷ after) before start none can =
    ap (λ since. since_start_by since (can_start (after ++ start ∷ before) packet) packet) (starts-behind after before start none can)

pub starts : (past after : List Packet) → IsStartedBefore past after → since_start past ≡ Some after
starts past after is = ap since_start is.split ∙ starts-behind after is.before is.start (not-started is.before is.first) is.starts

-- the newest of packets of which none started a clip, and those before it
none-first : (since : Option (List Packet)) (can : Bool) (packet : Packet) → since_start_by since can packet ≡ None
    → (since ≡ None) × (can ≡ false)
none-first None false packet e = (refl, refl)
none-first None true packet e = absurd (none-some [] (sym e))
none-first (Some after) can packet e = absurd (none-some (packet ∷ after) (sym e))

cannot-start : (past : List Packet) → since_start past ≡ None → CannotStart past
cannot-start past none [] older packet e =
    let S : List Packet → Type 0 = λ xs. since_start xs ≡ None in
    (none-first (since_start older) (can_start older packet) packet (subst S e none)).1
cannot-start past none (p ∷ newer) older packet e =
    let S : List Packet → Type 0 = λ xs. since_start xs ≡ None in
    let rest : List Packet = newer ++ packet ∷ older in
    cannot-start rest (none-first (since_start rest) (can_start rest p) p (subst S e none)).0 newer older packet refl

pub started : (past after : List Packet) → since_start past ≡ Some after → IsStartedBefore past after
started [] after e = absurd (none-some after e)
started (packet ∷ past) after e = by_since (started past) (since_start past) refl e
  where
    at_first : (can : Bool) → can_start past packet ≡ can → since_start past ≡ None → since_start_by None can packet ≡ Some after
        → IsStartedBefore (packet ∷ past) after
    at_first true can none e =
        let I : List Packet → Type 0 = λ xs. IsStartedBefore (packet ∷ past) xs in
        subst I (some-same [] after e)
        (record { before = past; start = packet; split = refl; starts = can; first = cannot-start past none })
    at_first false can none e = absurd (none-some after e)

    by_since : ((more : List Packet) → since_start past ≡ Some more → IsStartedBefore past more) → (since : Option (List Packet))
        → since_start past ≡ since → since_start_by since (can_start past packet) packet ≡ Some after
        → IsStartedBefore (packet ∷ past) after
    by_since earlier None none e = at_first (can_start past packet) refl none e
    by_since earlier (Some more) some e =
        let before = earlier more some in
        let I : List Packet → Type 0 = λ xs. IsStartedBefore (packet ∷ past) xs in
        subst I (some-same (packet ∷ more) after e)
        (record {
          before = before.before;
          start = before.start;
          split = ap (λ xs. packet ∷ xs) before.split;
          starts = before.starts;
          first = before.first;
        })

-- ---- its end

abbrev IsNoEnd : Packet → Type 0
IsNoEnd packet = is_end (role_of packet) ≡ false

not-ended : (within : List Packet) → AllByRecursion IsNoEnd within → before_end within ≡ None
not-ended [] none = refl
not-ended (packet ∷ within) none =
    ap (λ ended. before_end_by ended (is_end (role_of packet)) within) (not-ended within none.1)
    ∙ ap (λ b. before_end_by None b within) none.0

ends-behind : (later within : List Packet) (end : Packet) → before_end within ≡ None → is_end (role_of end) ≡ true
    → before_end (later ++ end ∷ within) ≡ Some within
ends-behind [] within end none is =
    ap (λ ended. before_end_by ended (is_end (role_of end)) within) none ∙ ap (λ b. before_end_by None b within) is
ends-behind (packet ∷ later) within end none is =
    ap (λ ended. before_end_by ended (is_end (role_of packet)) (later ++ end ∷ within)) (ends-behind later within end none is)

pub ends : (after within : List Packet) → IsEndedAfter after within → before_end after ≡ Some within
ends after within is = ap before_end is.split ∙ ends-behind is.later within is.end (not-ended within is.first) is.ends

none-ended : (ended : Option (List Packet)) (is : Bool) (after : List Packet) → before_end_by ended is after ≡ None
    → (ended ≡ None) × (is ≡ false)
none-ended None false after e = (refl, refl)
none-ended None true after e = absurd (none-some after (sym e))
none-ended (Some within) is after e = absurd (none-some within (sym e))

no-end : (within : List Packet) → before_end within ≡ None → AllByRecursion IsNoEnd within
no-end [] none = tt
no-end (packet ∷ within) none =
    let both = none-ended (before_end within) (is_end (role_of packet)) within none in
    (both.1, no-end within both.0)

pub ended : (after within : List Packet) → before_end after ≡ Some within → IsEndedAfter after within
ended [] within e = absurd (none-some within e)
ended (packet ∷ after) within e = by_ended (ended after) (before_end after) refl e
  where
    at_first : (is : Bool) → is_end (role_of packet) ≡ is → before_end after ≡ None → before_end_by None is after ≡ Some within
        → IsEndedAfter (packet ∷ after) within
    at_first true is none e =
        let I : List Packet → Type 0 = λ xs. IsEndedAfter (packet ∷ after) xs in
        subst I (some-same after within e) (record { later = []; end = packet; split = refl; ends = is; first = no-end after none })
    at_first false is none e = absurd (none-some within e)

    by_ended : ((more : List Packet) → before_end after ≡ Some more → IsEndedAfter after more) → (sooner : Option (List Packet))
        → before_end after ≡ sooner → before_end_by sooner (is_end (role_of packet)) after ≡ Some within
        → IsEndedAfter (packet ∷ after) within
    by_ended earlier None none e = at_first (is_end (role_of packet)) refl none e
    by_ended earlier (Some more) some e =
        let before = earlier more some in
        let I : List Packet → Type 0 = λ xs. IsEndedAfter (packet ∷ after) xs in
        subst I (some-same more within e)
        (record {
          later = packet ∷ before.later;
          end = before.end;
          split = ap (λ xs. packet ∷ xs) before.split;
          ends = before.ends;
          first = before.first;
        })

-- ---- one more packet

abbrev resolution_by : Role → Option ℕ → Option ℕ
resolution_by (Resolution ticks) before = ticks_given (Resolution ticks)
resolution_by StartOfClip before = before
resolution_by EndOfClip before = before
resolution_by (Delta ticks) before = before
resolution_by Other before = before

resolution-more : (packet : Packet) (past : List Packet)
    → resolution_at (packet ∷ past) ≡ resolution_by (role_of packet) (resolution_at past)
resolution-more packet past = go (role_of packet) refl
  where
    found : Option Packet
    found = find (λ p. is_resolution (role_of p)) past

    go : (role : Role) → role_of packet ≡ role
        → option_and_then (λ p. ticks_given (role_of p)) (if is_resolution role then Some packet else found)
        ≡ resolution_by role (option_and_then (λ p. ticks_given (role_of p)) found)
    go (Resolution ticks) is = ap ticks_given is
    go StartOfClip is = refl
    go EndOfClip is = refl
    go (Delta ticks) is = refl
    go Other is = refl

ticks-more : (packet : Packet) (after : List Packet) (more : ℕ) → ticks_added (role_of packet) ≡ more
    → ticks_in after + more ≡ ticks_in (packet ∷ after)
ticks-more packet after more is = omega (arith, is, sum_by-cons (λ (p : Packet). ticks_added (role_of p)) packet after)

within-more : (role : Role) (packet : Packet) (after : List Packet) (ended : Option (List Packet)) → role_of packet ≡ role
    → stage_after (stage_within ended after) role ≡ stage_within (before_end_by ended (is_end role) after) (packet ∷ after)
within-more role packet after (Some within) is = refl
within-more EndOfClip packet after None is = refl
within-more (Delta more) packet after None is = ap Started (ticks-more packet after more (ap ticks_added is))
within-more StartOfClip packet after None is = ap Started (omega (arith, ticks-more packet after 0 (ap ticks_added is)))
within-more (Resolution ticks) packet after None is = ap Started (omega (arith, ticks-more packet after 0 (ap ticks_added is)))
within-more Other packet after None is = ap Started (omega (arith, ticks-more packet after 0 (ap ticks_added is)))

waiting-more : (role : Role) (resolution : Option ℕ) (packet : Packet)
    → after_waiting resolution role
    ≡ stage_by (resolution_by role resolution) (since_start_by None (is_start role && is_some resolution) packet)
waiting-more StartOfClip None packet = refl
waiting-more StartOfClip (Some n) packet = refl
waiting-more EndOfClip None packet = refl
waiting-more EndOfClip (Some n) packet = refl
waiting-more (Resolution ticks) None packet = refl
waiting-more (Resolution ticks) (Some n) packet = refl
waiting-more (Delta ticks) None packet = refl
waiting-more (Delta ticks) (Some n) packet = refl
waiting-more Other None packet = refl
waiting-more Other (Some n) packet = refl

one-more : (role : Role) (packet : Packet) (resolution : Option ℕ) (since : Option (List Packet)) → role_of packet ≡ role
    → stage_after (stage_by resolution since) role
    ≡ stage_by (resolution_by role resolution) (since_start_by since (is_start role && is_some resolution) packet)
one-more role packet resolution None is = waiting-more role resolution packet
one-more role packet resolution (Some after) is =
    within-more role packet after (before_end after) is
    ∙ ap (λ r. stage_within (before_end_by (before_end after) (is_end r) after) (packet ∷ after)) (sym is)

pub stage-is : (past : List Packet) → stage_over past ≡ stage_at past
stage-is [] = refl
stage-is (packet ∷ past) =
    ap (λ stage. stage_after stage (role_of packet)) (stage-is past)
    ∙ one-more (role_of packet) packet (resolution_at past) (since_start past) refl
    ∙ ap (λ resolution. stage_by resolution (since_start (packet ∷ past))) (sym (resolution-more packet past))

-- ---- what follows

step-by : (resolution : Option ℕ) (since : Option (List Packet)) (role : Role)
    → step_of (stage_by resolution since) role
    ≡ step_by resolution (is_some since) (is_some (option_and_then before_end since)) (ticks_since since) role
step-by resolution None role = refl
step-by resolution (Some after) role = go (before_end after)
  where
    go : (ended : Option (List Packet))
        → step_of (stage_within ended after) role ≡ step_by resolution true (is_some ended) (ticks_in after) role
    go None = refl
    go (Some within) = refl

pub steps-are : (past : List Packet) (packet : Packet) → step_of (stage_over past) (role_of packet) ≡ step_at past packet
steps-are past packet =
    ap (λ stage. step_of stage (role_of packet)) (stage-is past) ∙ step-by (resolution_at past) (since_start past) (role_of packet)

ticks-by : (resolution : Option ℕ) (since : Option (List Packet)) → is_some (option_and_then before_end since) ≡ false
    → ticks_of (stage_by resolution since) ≡ ticks_since since
ticks-by resolution None going = refl
ticks-by resolution (Some after) going = go (before_end after) going
  where
    go : (ended : Option (List Packet)) → is_some ended ≡ false → ticks_of (stage_within ended after) ≡ ticks_in after
    go None e = refl
    go (Some within) e = absurd (false-true (sym e))

pub ticks-are : (past : List Packet) → is_ended past ≡ false → ticks_of (stage_over past) ≡ tick_at past
ticks-are past going = ap ticks_of (stage-is past) ∙ ticks-by (resolution_at past) (since_start past) going

end-by : (resolution : Option ℕ) (since : Option (List Packet))
    → end_of (stage_by resolution since) ≡ end_by (option_and_then before_end since)
end-by resolution None = refl
end-by resolution (Some after) = go (before_end after)
  where
    go : (ended : Option (List Packet)) → end_of (stage_within ended after) ≡ end_by ended
    go None = refl
    go (Some within) = refl

pub end-is : (past : List Packet) → end_of (stage_over past) ≡ end_at past
end-is past = ap end_of (stage-is past) ∙ end-by (resolution_at past) (since_start past)

pub fault-leaves : (stage : Stage) (role : Role) (fault : ClipFault) → step_of stage role ≡ Err fault → stage_after stage role ≡ stage
fault-leaves (NotStarted None) StartOfClip fault e = refl
fault-leaves (NotStarted (Some n)) StartOfClip fault e = absurd cc
fault-leaves (NotStarted None) EndOfClip fault e = refl
fault-leaves (NotStarted (Some n)) EndOfClip fault e = refl
fault-leaves (NotStarted None) (Resolution ticks) fault e = absurd cc
fault-leaves (NotStarted (Some n)) (Resolution ticks) fault e = absurd cc
fault-leaves (NotStarted None) (Delta ticks) fault e = refl
fault-leaves (NotStarted (Some n)) (Delta ticks) fault e = refl
fault-leaves (NotStarted None) Other fault e = refl
fault-leaves (NotStarted (Some n)) Other fault e = refl
fault-leaves (Started ticks) EndOfClip fault e = absurd cc
fault-leaves (Started ticks) StartOfClip fault e = refl
fault-leaves (Started ticks) (Resolution n) fault e = refl
fault-leaves (Started ticks) (Delta n) fault e = absurd cc
fault-leaves (Started ticks) Other fault e = refl
fault-leaves (Ended ticks) role fault e = refl
