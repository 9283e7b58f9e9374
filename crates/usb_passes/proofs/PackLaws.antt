-- One more byte of a stream that is packed.
use Rattle.std.proofs.Common.{◌≡◌, ◌≢◌, ◌<◌, ◌≤◌, ◌+◌, ◌*◌, ℕ, List, [], ◌∷◌, ◌++◌}
use Rattle.std.proofs.Common.{length, drop, None, Some, refl, ap, sym, ◌∙◌, subst, arith}
use Rattle.std.specs.Prelude.{Option, IfSome, Result, Err}
use Rattle.std.proofs.lemmas.List.{append_assoc, append-nil, length-append, length-drop, map-append}
use Rattle.midi1_bytes.specs.Messages.{Message, voice, common, exclusive, real_time}
use Rattle.midi1_bytes.specs.Steps.{Step, completed_by, held, completes, stray, undefined, cut, too_long}
use Rattle.pass_loop.specs.Pass.{Tail, Takes}
use Rattle.pass_loop.specs.Places.{FailsAt, Places, Puts, over_puts}
use Rattle.pass_loop.specs.Put.{Put, in_output}
use Rattle.pass_loop.specs.ForProofs.PutLaws.{over_puts-none, stops_more, then_put, then_stops}
use Rattle.pass_loop.specs.declared.ends.Reason.TheVariants.{ExclusiveTooLong}
use Rattle.pass_loop.specs.declared.ends.RunEnd.{RunEnd}
use Rattle.pass_loop.specs.declared.ends.RunEnd.TheVariants.{Refused}
use Rattle.usb_midi1.specs.Laws.{ExclusiveEventsComeInOrder}
use Rattle.listing_terms.specs.ByteLines.{lines_in}
use Rattle.usb_midi1.specs.Packed.{IsPacked, cable_in, events_from, events_in, whole_in, whole_of}
use Rattle.usb_midi1.specs.Packing.{events_by, exclusive_events, first_event}
use Rattle.usb_midi1.specs.declared.packed.Packed.{Packed}
use Rattle.listing_lines.specs.Lines.{line_puts}
use Rattle.listing_lines.specs.Refusal.{refusal_of}
use Rattle.usb_passes.specs.Pack.{event_puts, packed_puts}

-- ---- steps within the room

pub step_within : (step : Step) (offset : ℕ) → refusal_of step offset ≡ None → step ≢ too_long
step_within step offset fine = λ is. let e : refusal_of too_long offset ≡ None = subst (λ s. refusal_of s offset ≡ None) is fine in cc

fine_within : (step : Step) (offset : ℕ) → step ≢ too_long → refusal_of step offset ≡ None
fine_within too_long offset within = absurd (within refl)
fine_within held offset within = refl
fine_within (completes message) offset within = refl
fine_within stray offset within = refl
fine_within undefined offset within = refl
fine_within (cut start what after) offset within = refl

-- ---- what a byte answers

-- an exclusive that is lent has its F0 and its F7
both_ends : (message : Option Message) → IfSome (whole_of message) (λ whole. 2 ≤ length whole)
both_ends None = tt
both_ends (Some (voice message)) = tt
both_ends (Some (common message)) = tt
both_ends (Some (real_time message)) = tt
both_ends (Some (exclusive bytes)) = omega (arith, length-append bytes (0xf7 ∷ []))

pub has_both_ends : (packed : Packed) (cable offset : ℕ) (step : Step) → IsPacked cable offset step packed
    → IfSome (whole_in packed) (λ whole. 2 ≤ length whole)
has_both_ends packed cable offset step is =
    let F : Option (List ℕ) → Type 0 = λ whole. IfSome whole (λ w. 2 ≤ length w) in
    subst F (sym is.whole) (both_ends (completed_by step))

-- if there is no other event, the events are those of the exclusive
pub only_whole : (packed : Packed) (whole : List ℕ) → packed.event ≡ None → whole_in packed ≡ Some whole
    → events_in packed ≡ exclusive_events (cable_in packed) whole
only_whole packed whole none is =
    ap (λ event. events_from (cable_in packed) event (whole_in packed)) none ∙ ap (λ w. events_from (cable_in packed) None w) is

pub accepts : (packed : Packed) (cable offset : ℕ) (step : Step) (old new : Places) (result : Result (Unit {0}) RunEnd)
    → IsPacked cable offset step packed
    → Puts (event_puts (events_in packed) ++ line_puts (lines_in packed.lines)) old new result
    → Takes (refusal_of step offset) (packed_puts cable step offset) old new result
accepts packed cable offset step old new result is put =
    let P : List Put → Type 0 = λ puts. Puts puts old new result in
    let T : Tail → Type 0 = λ tail. Takes tail (packed_puts cable step offset) old new result in
    subst T (sym (fine_within step offset is.within))
    (subst P
    (ap (λ events. event_puts events ++ line_puts (lines_in packed.lines)) is.events
    ∙ ap (λ lines. event_puts (events_by cable (completed_by step)) ++ line_puts lines) is.lines)
    put)

pub refuses : (cable offset : ℕ) (step : Step) (old : Places) → step ≡ too_long
    → Takes (refusal_of step offset) (packed_puts cable step offset) old old (Err (Refused ExclusiveTooLong offset))
refuses cable offset step old is =
    let T : Step → Type 0 = λ s. Takes (refusal_of s offset) (packed_puts cable s offset) old old (Err (Refused ExclusiveTooLong offset)) in
    subst T (sym is) (refl, refl)

-- ---- the events of an exclusive

-- the first k events of an exclusive are put, and those of the bytes after them are not
pub record AreFirst (cable : ℕ) (whole : List ℕ) (k : ℕ) (old now : Places) : Type 0 where
  pub first : List (List ℕ)
  pub parts : exclusive_events cable whole ≡ first ++ exclusive_events cable (drop (3 * k) whole)
  pub stands : now ≡ over_puts (event_puts first) old

pub none_yet : (cable : ℕ) (whole : List ℕ) (s : Places) → AreFirst cable whole 0 s s
none_yet cable whole s = record { first = []; parts = refl; stands = sym (over_puts-none s) }

-- there is an event if there are bytes
some_bytes : (cable : ℕ) (bytes event : List ℕ) → Some event ≡ first_event cable bytes → 0 < length bytes
some_bytes cable [] event is = let e : Some event ≡ None = is in cc
some_bytes cable (byte ∷ bytes) event is = omega arith

pub below_end : (cable : ℕ) (whole : List ℕ) (k : ℕ) (event : List ℕ) → Some event ≡ first_event cable (drop (3 * k) whole)
    → 3 * k < length whole
below_end cable whole k event is = omega (arith, some_bytes cable (drop (3 * k) whole) event is, length-drop (3 * k) whole)

module _ (law : ExclusiveEventsComeInOrder) (cable : ℕ) (whole : List ℕ) (k : ℕ) (old now : Places) (are : AreFirst cable whole k old now)
  where
    abbrev behind : ℕ → List (List ℕ)
    behind n = exclusive_events cable (drop (3 * n) whole)

    pub all_put : None ≡ first_event cable (drop (3 * k) whole) → now ≡ over_puts (event_puts (exclusive_events cable whole)) old
    all_put last =
        are.stands
        ∙ ap (λ events. over_puts (event_puts events) old)
        (sym (are.parts ∙ ap (λ events. are.first ++ events) (law.last cable whole k (sym last)) ∙ append-nil are.first))

    module _ (event : List ℕ) (is : Some event ≡ first_event cable (drop (3 * k) whole)) (later : Places) where
      one_further : exclusive_events cable whole ≡ are.first ++ event ∷ behind (k + 1)
      one_further = are.parts ∙ ap (λ events. are.first ++ events) (law.next cable whole k event (sym is))

      pub one_more : later ≡ over_puts (in_output event ∷ []) now → AreFirst cable whole (k + 1) old later
      one_more put =
          record {
            first = are.first ++ event ∷ [];
            parts = one_further ∙ sym (append_assoc are.first (event ∷ []) (behind (k + 1)));
            stands =
                then_put (event_puts are.first) (in_output event ∷ []) old now later are.stands put
                ∙ ap (λ puts. over_puts puts old) (sym (map-append in_output are.first (event ∷ [])));
          }

      pub one_fails : (end : RunEnd) → FailsAt (in_output event ∷ []) end now later
          → FailsAt (event_puts (exclusive_events cable whole)) end old later
      one_fails end fails =
          let F : List Put → Type 0 = λ puts. FailsAt puts end old later in
          subst F (sym (ap event_puts one_further ∙ map-append in_output are.first (event ∷ behind (k + 1))))
          (then_stops (event_puts are.first) (in_output event ∷ event_puts (behind (k + 1))) end old now later are.stands
          (stops_more (in_output event ∷ []) (event_puts (behind (k + 1))) end now later fails))
