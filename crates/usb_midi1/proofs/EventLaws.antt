-- The events of an exclusive, one after the other, and those of a stream.
use Rattle.std.proofs.Common.{◌≡◌, ◌≢◌, ◌+◌, ◌*◌, ◌<◌, ℕ, List, [], ◌∷◌, ◌++◌, drop, length, map, None, Some, refl, ap, sym, ◌∙◌, arith}
use Rattle.std.specs.List.{AllByRecursion, concat}
use Rattle.std.proofs.lemmas.List.{append_assoc, drop-drop}
use Rattle.item_reader.specs.Cut.{Ends, IsItem, items_from}
use Rattle.item_reader.specs.declared.cutting.Tail.{Tail}
use Rattle.item_reader.specs.declared.cutting.Tail.TheVariants.{End, Truncated, TooLong}
use Rattle.usb_midi1.specs.Events.{event_at, event_of, four_bytes}
use Rattle.usb_midi1.specs.Laws.{EventsAreThoseOfTheBytes, ExclusiveEventsComeInOrder}
use Rattle.usb_midi1.specs.Packing.{code_before, event, exclusive_events, first_event}
use Rattle.usb_midi1.specs.Split.{events_in}
use Rattle.usb_midi1.specs.declared.event.Event.{Event}

-- ---- of an exclusive

no_event : (cable : ℕ) (bytes : List ℕ) → first_event cable bytes ≡ None → exclusive_events cable bytes ≡ []
no_event cable [] is = refl
no_event cable (first ∷ []) is = let e : Some (event cable 5 (first ∷ [])) ≡ None = is in cc
no_event cable (first ∷ second ∷ []) is = let e : Some (event cable 6 (first ∷ second ∷ [])) ≡ None = is in cc
no_event cable (first ∷ second ∷ third ∷ more) is =
    let e : Some (event cable (code_before more) (first ∷ second ∷ third ∷ [])) ≡ None = is in
    cc

one_event : (cable : ℕ) (bytes one : List ℕ) → first_event cable bytes ≡ Some one
    → exclusive_events cable bytes ≡ one ∷ exclusive_events cable (drop 3 bytes)
one_event cable [] one is = let e : None ≡ Some one = is in cc
one_event cable (first ∷ []) one is =
    let e : Some (event cable 5 (first ∷ [])) ≡ Some one = is in
    let same : event cable 5 (first ∷ []) ≡ one = cc in
    ap (λ xs. xs ∷ []) same
one_event cable (first ∷ second ∷ []) one is =
    let e : Some (event cable 6 (first ∷ second ∷ [])) ≡ Some one = is in
    let same : event cable 6 (first ∷ second ∷ []) ≡ one = cc in
    ap (λ xs. xs ∷ []) same
one_event cable (first ∷ second ∷ third ∷ more) one is =
    let e : Some (event cable (code_before more) (first ∷ second ∷ third ∷ [])) ≡ Some one = is in
    let same : event cable (code_before more) (first ∷ second ∷ third ∷ []) ≡ one = cc in
    ap (λ xs. xs ∷ exclusive_events cable more) same

pub in_order : ExclusiveEventsComeInOrder
in_order =
    record {
      last = λ cable whole k is. no_event cable (drop (3 * k) whole) is;
      next = λ cable whole k one is.
          let n : 3 * k + 3 ≡ 3 * (k + 1) = omega arith in
          one_event cable (drop (3 * k) whole) one is
          ∙ ap (λ xs. one ∷ exclusive_events cable xs) (drop-drop 3 (3 * k) whole ∙ ap (λ m. drop m whole) n);
    }

-- ---- of a stream

-- fewer than four bytes have no event
no_more : (bytes : List ℕ) → length bytes < 4 → events_in bytes ≡ []
no_more [] few = refl
no_more (a ∷ []) few = refl
no_more (a ∷ b ∷ []) few = refl
no_more (a ∷ b ∷ c ∷ []) few = refl
no_more (a ∷ b ∷ c ∷ d ∷ bytes) few = absurd (omega (arith, few))

-- four bytes in front have one
four-front : (chunk rest : List ℕ) → length chunk ≡ 4 → events_in (chunk ++ rest) ≡ event_of chunk ∷ events_in rest
four-front [] rest four = absurd (omega (arith, four))
four-front (a ∷ []) rest four = absurd (omega (arith, four))
four-front (a ∷ b ∷ []) rest four = absurd (omega (arith, four))
four-front (a ∷ b ∷ c ∷ []) rest four = absurd (omega (arith, four))
four-front (a ∷ b ∷ c ∷ d ∷ []) rest four = refl
four-front (a ∷ b ∷ c ∷ d ∷ e ∷ chunk) rest four = absurd (omega (arith, four))

chunks-are : (at : ℕ) (chunks : List (List ℕ)) (rest : List ℕ) → AllByRecursion (IsItem four_bytes) chunks → length rest < 4
    → events_in (concat chunks ++ rest) ≡ map (λ (item : Event × ℕ). item.0) (items_from event_at at chunks)
chunks-are at [] rest each few = no_more rest few
chunks-are at (chunk ∷ chunks) rest each few =
    ap events_in (append_assoc chunk (concat chunks) rest)
    ∙ four-front chunk (concat chunks ++ rest) each.0
    ∙ ap (λ xs. event_of chunk ∷ xs) (chunks-are (at + length chunk) chunks rest each.1 few)

rest-few : (limit at : ℕ) (rest : List ℕ) (tail : Tail) → Ends four_bytes limit at rest tail → tail ≢ TooLong → length rest < 4
rest-few limit at rest End ends other = omega (arith, ap length ends.0)
rest-few limit at rest (Truncated o) ends other = ends.2
rest-few limit at rest TooLong ends other = absurd (other refl)

pub those_of_the_bytes : EventsAreThoseOfTheBytes
those_of_the_bytes = λ limit bytes items tail cut other.
    ap events_in cut.cuts.whole
    ∙ chunks-are 0 cut.chunks cut.cuts.rest cut.cuts.each
    (rest-few limit (0 + length (concat cut.chunks)) cut.cuts.rest tail cut.cuts.ends other)
    ∙ ap (λ (xs : List (Event × ℕ)). map (λ (item : Event × ℕ). item.0) xs) (sym cut.same)
