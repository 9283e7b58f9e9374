-- The events of what a byte completes: how many bytes they have, and the lines beside them.
use Rattle.std.proofs.Common.{◌≡◌, ◌≢◌, ℕ, ◌+◌, ◌*◌, ◌<◌, ◌≤◌, List, [], ◌∷◌, ◌++◌, length, take, drop, arith}
use Rattle.std.proofs.Common.{Option, Some, None, refl, ap, sym, subst, ◌∙◌, append_assoc, length-append, length-drop}
use Rattle.std.proofs.lemmas.List.{append-nil}
use Rattle.std.proofs.lemmas.List.Folds.{concat-append}
use Rattle.std.specs.Prelude.{map, IfSome, Ok}
use Rattle.std.specs.List.{concat}
use Rattle.std.specs.Option.{option_map, option_to_list}
use Rattle.midi1_bytes.specs.Answers.{framed}
use Rattle.midi1_bytes.specs.Messages.{Message, voice, common, exclusive, real_time}
use Rattle.midi1_bytes.specs.Steps.{Step, held, completes, stray, undefined, cut, too_long, completed_by}
use Rattle.midi1_bytes.specs.declared.step.AfterCut.TheVariants as after
use Rattle.midi_meaning.specs.declared.listed.Kind.{Kind}
use Rattle.midi_meaning.specs.declared.listed.Listed.{Listed}
use Rattle.midi_meaning.specs.StepListing.{kinds_of_step, line_up}
use Rattle.listing_terms.specs.declared.byte_lines.ByteLine as told
use Rattle.listing_terms.specs.ByteLines.{first_in, line_by, second_in, AreInOrder}
use Rattle.usb_midi1.specs.Packed.{IsPacked, cable_in, events_from, events_in, whole_in, whole_of}
use Rattle.usb_midi1.specs.Laws.{ExclusiveEventsComeInOrder}
use Rattle.usb_midi1.specs.Packing.{code_before, event, exclusive_events, first_event}
use Rattle.usb_midi1.specs.declared.packed.Packed.{Packed}
use Rattle.c_answers.specs.Lines.{first_line, line_of, listed_line, second_line}
use Rattle.c_answers.specs.declared.status.Status.TheVariants as statuses
use Rattle.c_answers.specs.Fronts.{with_front}
use Rattle.c_answers.specs.Outcomes.{outcome_of}
use Rattle.c_answers.specs.declared.outcome.ByteOutcome.{ByteOutcome}
use Rattle.c_answers.proofs.FrontLaws.{then_front}
use Rattle.c_streams.specs.Readers.{ShowsStep, refusal_of}
use Rattle.c_streams.specs.Usb.{events_size, packed}
use Rattle.c_answers.specs.Within.{CompletesWithin}

-- ---- how many bytes they have

pub exclusive_size : (cable : ℕ) (bytes : List ℕ) → length (concat (exclusive_events cable bytes)) ≡ events_size (length bytes)
exclusive_size cable [] = refl
exclusive_size cable (first ∷ []) = refl
exclusive_size cable (first ∷ second ∷ []) = refl
exclusive_size cable (first ∷ second ∷ third ∷ more) =
    omega (
      arith,
      exclusive_size cable more,
      length-append (event cable (code_before more) (first ∷ second ∷ third ∷ [])) (concat (exclusive_events cable more)),
    )

framed_size : (bytes : List ℕ) → length (framed bytes) ≡ length bytes + 2
framed_size bytes = omega (arith, length-append bytes (0xf7 ∷ []))

-- the events of what a step completes fit a buffer for those of an exclusive of the limit
pub packed_fits : (cable room : ℕ) (step : Step) → 6 ≤ room → CompletesWithin room step
    → length (packed cable step) ≤ events_size (room + 2)
packed_fits cable room held least h = omega arith
packed_fits cable room (completes (voice message)) least h = omega arith
packed_fits cable room (completes (common message)) least h = omega arith
packed_fits cable room (completes (real_time message)) least h = omega arith
packed_fits cable room (completes (exclusive bytes)) least h = omega (arith, exclusive_size cable (framed bytes), framed_size bytes)
packed_fits cable room stray least h = omega arith
packed_fits cable room undefined least h = omega arith
packed_fits cable room (cut start what after.Begins) least h = omega arith
packed_fits cable room (cut start what after.Tune) least h = omega arith
packed_fits cable room (cut start what after.Undefined) least h = omega arith
packed_fits cable room (cut start what after.Stray) least h = omega arith
packed_fits cable room too_long least h = omega arith

-- an exclusive that is lent has its F0 and its F7
both_ends : (message : Option Message) → IfSome (whole_of message) (λ whole. 2 ≤ length whole)
both_ends None = tt
both_ends (Some (voice message)) = tt
both_ends (Some (common message)) = tt
both_ends (Some (real_time message)) = tt
both_ends (Some (exclusive bytes)) = omega (arith, framed_size bytes)

pub has_both_ends : (one : Packed) (cable offset : ℕ) (step : Step) → IsPacked cable offset step one
    → IfSome (whole_in one) (λ whole. 2 ≤ length whole)
has_both_ends one cable offset step is =
    let F : Option (List ℕ) → Type 0 = λ whole. IfSome whole (λ w. 2 ≤ length w) in
    subst F (sym is.whole) (both_ends (completed_by step))

-- ---- the lines

record AreLines (first second : Option Listed) (kinds : List (Kind × ℕ)) : Type 0 where
  one : listed_line first ≡ first_line kinds
  two : listed_line second ≡ second_line kinds

same_line : (cable : ℕ) (line : Listed) (kind : Kind × ℕ) → line ≡ line_up cable kind → listed_line (Some line) ≡ line_of kind
same_line cable line kind same = ap (λ l. listed_line (Some l)) same

are_lines : (cable group : ℕ) (first second : Option told.ByteLine) (kinds : List (Kind × ℕ)) → AreInOrder first second →
    option_to_list (option_map (line_by group) first) ++ option_to_list (option_map (line_by group) second) ≡ map (line_up cable) kinds →
    AreLines (option_map (line_by group) first) (option_map (line_by group) second) kinds
are_lines cable group None None [] ordered same = record { one = refl; two = refl }
are_lines cable group None None (kind ∷ kinds) ordered same = absurd cc
are_lines cable group None (Some second) kinds ordered same = absurd ordered
are_lines cable group (Some first) None [] ordered same = absurd cc
are_lines cable group (Some first) None (kind ∷ []) ordered same =
    record { one = same_line cable (line_by group first) kind cc; two = refl }
are_lines cable group (Some first) None (kind ∷ other ∷ kinds) ordered same = absurd cc
are_lines cable group (Some first) (Some second) [] ordered same = absurd cc
are_lines cable group (Some first) (Some second) (kind ∷ []) ordered same = absurd cc
are_lines cable group (Some first) (Some second) (kind ∷ other ∷ kinds) ordered same =
    record { one = same_line cable (line_by group first) kind cc; two = same_line cable (line_by group second) other cc }

-- ---- a byte

accepted : (step : Step) → step ≢ too_long → refusal_of step ≡ None
accepted held within = refl
accepted (completes message) within = refl
accepted stray within = refl
accepted undefined within = refl
accepted (cut start what after) within = refl
accepted too_long within = absurd (within refl)

-- the outcome of a byte that is not refused
abbrev pub outcome_in : Packed → ℕ → ByteOutcome
outcome_in one offset =
    outcome_of offset (length (concat (events_in one))) (listed_line (first_in one.lines)) (listed_line (second_in one.lines))

pub shown : (cable offset : ℕ) (step : Step) (one : Packed) (old new : List ℕ) → IsPacked cable offset step one
    → new ≡ with_front (concat (events_in one)) old → ShowsStep step offset (packed cable step) old (Ok (outcome_in one offset)) new
shown cable offset step one old new is front =
    let lines = are_lines cable one.lines.group.number one.lines.first one.lines.second (kinds_of_step step offset) is.in_order is.lines in (
      accepted step is.within,
      (λ i. outcome_of offset (length (concat (is.events i))) (lines.one i) (lines.two i)),
      front ∙ ap (λ events. with_front (concat events) old) is.events,
    )

-- one that exceeds the limit
pub refused : (step : Step) → step ≡ too_long → refusal_of step ≡ Some statuses.ExclusiveTooLong
refused step is = ap refusal_of is

-- ---- the events of an exclusive, one by one

-- the first k events of an exclusive are written, and those of the bytes after them are not
pub record AreFirst (cable : ℕ) (whole : List ℕ) (k : ℕ) (old now : List ℕ) : Type 0 where
  pub first : List (List ℕ)
  pub parts : exclusive_events cable whole ≡ first ++ exclusive_events cable (drop (3 * k) whole)
  pub count : length (concat first) ≡ 4 * k
  pub stands : now ≡ with_front (concat first) old

pub none_yet : (cable : ℕ) (whole old : List ℕ) → AreFirst cable whole 0 old old
none_yet cable whole old = record { first = []; parts = refl; count = refl; stands = refl }

pub event_size : (cable : ℕ) (bytes one : List ℕ) → Some one ≡ first_event cable bytes → length one ≡ 4
event_size cable [] one is = absurd cc
event_size cable (first ∷ []) one is = let e : event cable 5 (first ∷ []) ≡ one = cc in ap length (sym e)
event_size cable (first ∷ second ∷ []) one is = let e : event cable 6 (first ∷ second ∷ []) ≡ one = cc in ap length (sym e)
event_size cable (first ∷ second ∷ third ∷ more) one is =
    let e : event cable (code_before more) (first ∷ second ∷ third ∷ []) ≡ one = cc in ap length (sym e)

module _ (in_order : ExclusiveEventsComeInOrder) (cable : ℕ) (whole : List ℕ) (k : ℕ) (old now : List ℕ)
    (are : AreFirst cable whole k old now) where
  -- with one more event
  with_next : (one : List ℕ) → Some one ≡ first_event cable (drop (3 * k) whole) →
      exclusive_events cable whole ≡ (are.first ++ one ∷ []) ++ exclusive_events cable (drop (3 * (k + 1)) whole)
  with_next one is =
      are.parts ∙ ap (λ events. are.first ++ events) (in_order.next cable whole k one (sym is))
      ∙ sym (append_assoc are.first (one ∷ []) (exclusive_events cable (drop (3 * (k + 1)) whole)))

  joined : (one : List ℕ) → concat (are.first ++ one ∷ []) ≡ concat are.first ++ one
  joined one = concat-append are.first (one ∷ []) ∙ ap (λ bytes. concat are.first ++ bytes) (append-nil one)

  joined_size : (one : List ℕ) → Some one ≡ first_event cable (drop (3 * k) whole) → length (concat (are.first ++ one ∷ [])) ≡ 4 * k + 4
  joined_size one is =
      omega (arith, ap length (joined one), length-append (concat are.first) one, event_size cable (drop (3 * k) whole) one is, are.count)

  -- there is room for it
  pub next_fits : (one : List ℕ) → Some one ≡ first_event cable (drop (3 * k) whole)
      → 4 * k + 4 ≤ length (concat (exclusive_events cable whole))
  next_fits one is =
      let rest = exclusive_events cable (drop (3 * (k + 1)) whole) in
      omega (
        arith,
        joined_size one is,
        ap (λ events. length (concat events)) (with_next one is),
        ap length (concat-append (are.first ++ one ∷ []) rest),
        length-append (concat (are.first ++ one ∷ [])) (concat rest),
      )

  pub one_more : (one new : List ℕ) → Some one ≡ first_event cable (drop (3 * k) whole) →
      new ≡ take (4 * k) now ++ with_front one (drop (4 * k) now) → AreFirst cable whole (k + 1) old new
  one_more one new is write =
      let W : ℕ → List ℕ → List ℕ = λ n buffer. take n buffer ++ with_front one (drop n buffer) in
      record {
        first = are.first ++ one ∷ [];
        parts = with_next one is;
        count = joined_size one is ∙ omega arith;
        stands = write ∙ ap (λ n. W n now) (sym are.count) ∙ ap (W (length (concat are.first))) are.stands
            ∙ then_front (concat are.first) one old ∙ ap (λ bytes. with_front bytes old) (sym (joined one));
      }

  -- after the last one
  all_parts : None ≡ first_event cable (drop (3 * k) whole) → exclusive_events cable whole ≡ are.first
  all_parts is = are.parts ∙ ap (λ events. are.first ++ events) (in_order.last cable whole k (sym is)) ∙ append-nil are.first

  pub all_size : None ≡ first_event cable (drop (3 * k) whole) → 4 * k ≡ length (concat (exclusive_events cable whole))
  all_size is = sym are.count ∙ ap (λ events. length (concat events)) (sym (all_parts is))

  pub all_written : None ≡ first_event cable (drop (3 * k) whole) → now ≡ with_front (concat (exclusive_events cable whole)) old
  all_written is = are.stands ∙ ap (λ events. with_front (concat events) old) (sym (all_parts is))

-- there is an event if there are bytes
some_bytes : (cable : ℕ) (bytes one : List ℕ) → Some one ≡ first_event cable bytes → 0 < length bytes
some_bytes cable [] one is = let e : Some one ≡ None = is in cc
some_bytes cable (byte ∷ bytes) one is = omega arith

pub below_end : (cable : ℕ) (whole : List ℕ) (k : ℕ) (one : List ℕ) → Some one ≡ first_event cable (drop (3 * k) whole)
    → 3 * k < length whole
below_end cable whole k one is = omega (arith, some_bytes cable (drop (3 * k) whole) one is, length-drop (3 * k) whole)

-- if there is no other event, the events are those of the exclusive
pub only_whole : (one : Packed) (whole : List ℕ) → one.event ≡ None → whole_in one ≡ Some whole
    → events_in one ≡ exclusive_events (cable_in one) whole
only_whole one whole none is =
    ap (λ event. events_from (cable_in one) event (whole_in one)) none ∙ ap (λ w. events_from (cable_in one) None w) is
