-- When the pass is done, the input is a whole clip file, and its lines were put.
use Rattle.std.proofs.Common.{◌≡◌, ◌+◌, ℕ, Bool, true, false, List, [], ◌∷◌, ◌++◌, is_some}
use Rattle.std.proofs.Common.{Option, None, Some, refl, ap, sym, ◌∙◌, subst, arith, inl, inr}
use Rattle.std.specs.Prelude.{IfSome, Result, Ok, reverse, ◌&&◌}
use Rattle.std.specs.List.{AllByRecursion, sum_by}
use Rattle.std.specs.Option.{option_and_then}
use Rattle.std.proofs.lemmas.List.{append_assoc, append-nil, map-append, reverse-append, reverse-reverse}
use Rattle.std.proofs.lemmas.List.Sums.{sum_by-append, sum_by-cons}
use Rattle.ump_words.specs.declared.words.Framed.{Framed}
use Rattle.ump_grammar.specs.declared.packet.Packet.{Packet}
use Rattle.midi_clip.specs.History.{IsEndedAfter, IsStartedBefore, before_end, before_end_by, can_start}
use Rattle.midi_clip.specs.History.{is_ended, is_started, resolution_at, since_start, since_start_by}
use Rattle.midi_clip.specs.History.{step_at, step_by, step_within, tick_at, ticks_in, ticks_since}
use Rattle.midi_clip.specs.Laws.{ClipsAreTheDefinition}
use Rattle.midi_clip.specs.Roles.{is_end, is_start, role_of, ticks_added}
use Rattle.midi_clip.specs.declared.role.Role.{Role}
use Rattle.midi_clip.specs.declared.role.Role.TheVariants.{StartOfClip, EndOfClip, Resolution, Delta, Other}
use Rattle.midi_clip.specs.declared.step.ClipFault.{ClipFault}
use Rattle.midi_clip.specs.declared.step.ClipStep.{ClipStep}
use Rattle.pass_loop.specs.Pass.{AreAccepted, IsDone, Seen}
use Rattle.pass_loop.specs.Places.{with_more}
use Rattle.pass_loop.specs.Put.{output_in}
use Rattle.pass_loop.specs.declared.ends.RunEnd.TheVariants.{Done, ReadFault}
use Rattle.clip_pass.specs.Clipping.{end_refusal, size_over, clip_text, clipping, refusal_by}
use Rattle.clip_pass.specs.Cutting.{clip_cutting, packets_of}
use Rattle.clip_pass.specs.Ends.{ClipEnds}
use Rattle.clip_pass.specs.Laws.{CanStart, IsShownClip}

abbrev Item : Type 0
Item = Framed × Packet

-- ---- lists

all-then : (P : Packet → Type 0) (xs ys : List Packet) → AllByRecursion P xs → AllByRecursion P ys → AllByRecursion P (xs ++ ys)
all-then P [] ys all more = more
all-then P (x ∷ xs) ys all more = (all.0, all-then P xs ys all.1 more)

all-front : (P : Packet → Type 0) (xs ys : List Packet) → AllByRecursion P (xs ++ ys) → AllByRecursion P xs
all-front P [] ys all = tt
all-front P (x ∷ xs) ys all = (all.0, all-front P xs ys all.1)

all-reverse : (P : Packet → Type 0) (xs : List Packet) → AllByRecursion P xs → AllByRecursion P (reverse xs)
all-reverse P [] all = tt
all-reverse P (x ∷ xs) all =
    let A : List Packet → Type 0 = λ ys. AllByRecursion P ys in
    subst A (sym (reverse-append (x ∷ []) xs)) (all-then P (reverse xs) (x ∷ []) (all-reverse P xs all.1) (all.0, tt))

all-items : (P : Packet → Type 0) (items : List Item) → AllByRecursion P (packets_of items)
    → AllByRecursion (λ (item : Item). P item.1) items
all-items P [] all = tt
all-items P (item ∷ items) all = (all.0, all-items P items all.1)

packets-reverse : (items : List Item) → packets_of (reverse items) ≡ reverse (packets_of items)
packets-reverse [] = refl
packets-reverse (item ∷ items) =
    ap packets_of (reverse-append (item ∷ []) items)
    ∙ map-append (λ (i : Item). i.1) (reverse items) (item ∷ [])
    ∙ ap (λ xs. xs ++ item.1 ∷ []) (packets-reverse items)
    ∙ sym (reverse-append (item.1 ∷ []) (packets_of items))

ticks-reverse : (packets : List Packet) → ticks_in (reverse packets) ≡ ticks_in packets
ticks-reverse [] = refl
ticks-reverse (packet ∷ packets) =
    let f : Packet → ℕ = λ p. ticks_added (role_of p) in
    let one : sum_by f (packet ∷ []) ≡ f packet + sum_by f [] = sum_by-cons f packet [] in
    ap ticks_in (reverse-append (packet ∷ []) packets)
    ∙ omega (arith, sum_by-append f (reverse packets) (packet ∷ []), one, sum_by-cons f packet packets, ticks-reverse packets)

-- items whose packets are parted in so many ways are parted so too
abbrev head_or : Packet → List Packet → Packet
head_or other [] = other
head_or other (p ∷ ps) = p

abbrev rest_of : List Packet → List Packet
rest_of [] = []
rest_of (p ∷ ps) = ps

pub record IsParted (items : List Item) (newer : List Packet) (packet : Packet) (older : List Packet) : Type 0 where
  pub later : List Item
  pub item : Item
  pub earlier : List Item
  pub split : items ≡ later ++ item ∷ earlier
  pub newer_is : packets_of later ≡ newer
  pub packet_is : item.1 ≡ packet
  pub older_is : packets_of earlier ≡ older

parted : (items : List Item) (newer : List Packet) (packet : Packet) (older : List Packet) → packets_of items ≡ newer ++ packet ∷ older
    → IsParted items newer packet older
parted [] [] packet older e = absurd (let f : [] ≡ packet ∷ older = e in cc)
parted [] (p ∷ newer) packet older e = absurd (let f : [] ≡ p ∷ (newer ++ packet ∷ older) = e in cc)
parted (i ∷ items) [] packet older e =
    record {
      later = [];
      item = i;
      earlier = items;
      split = refl;
      newer_is = refl;
      packet_is = ap (head_or packet) e;
      older_is = ap rest_of e;
    }
parted (i ∷ items) (p ∷ newer) packet older e =
    let rest = parted items newer packet older (ap rest_of e) in
    record {
      later = i ∷ rest.later;
      item = rest.item;
      earlier = rest.earlier;
      split = ap (λ xs. i ∷ xs) rest.split;
      newer_is = ap (λ x. x ∷ packets_of rest.later) (ap (head_or packet) e) ∙ ap (λ xs. p ∷ xs) rest.newer_is;
      packet_is = rest.packet_is;
      older_is = rest.older_is;
    }

turned : (newer older : List Item) (item : Item) → reverse (newer ++ item ∷ older) ≡ reverse older ++ item ∷ reverse newer
turned newer older item =
    reverse-append newer (item ∷ older)
    ∙ ap (λ xs. xs ++ reverse newer) (reverse-append (item ∷ []) older)
    ∙ append_assoc (reverse older) (item ∷ []) (reverse newer)

-- ---- the end

abbrev IsNoEnd : Packet → Type 0
IsNoEnd packet = is_end (role_of packet) ≡ false

not-ended : (packets : List Packet) → AllByRecursion IsNoEnd packets → before_end packets ≡ None
not-ended [] none = refl
not-ended (packet ∷ packets) none =
    ap (λ ended. before_end_by ended (is_end (role_of packet)) packets) (not-ended packets none.1)
    ∙ ap (λ b. before_end_by None b packets) none.0

ended-last : (after : List Packet) (packet : Packet) → before_end after ≡ None → is_some (before_end (packet ∷ after)) ≡ true
    → is_end (role_of packet) ≡ true
ended-last after packet none e =
    go (is_end (role_of packet)) (ap (λ ended. is_some (before_end_by ended (is_end (role_of packet)) after)) (sym none) ∙ e)
  where
    go : (is : Bool) → is_some (before_end_by None is after) ≡ true → is ≡ true
    go true e = refl
    go false e = absurd cc

none-of : (ended : Option (List Packet)) → is_some ended ≡ false → ended ≡ None
none-of None e = refl
none-of (Some packets) e = absurd cc

-- a packet that is accepted came before the clip ended
fine-by : (resolution : Option ℕ) (started ended : Bool) (ticks : ℕ) (packet : Packet) (offset : ℕ) → (ended ≡ true → started ≡ true)
    → refusal_by (step_by resolution started ended ticks (role_of packet)) offset ≡ None → ended ≡ false
fine-by resolution started false ticks packet offset order fine = refl
fine-by resolution true true ticks packet offset order fine = absurd cc
fine-by resolution false true ticks packet offset order fine = absurd (let e : false ≡ true = order refl in cc)

ended-started : (since : Option (List Packet)) → is_some (option_and_then before_end since) ≡ true → is_some since ≡ true
ended-started None e = absurd cc
ended-started (Some after) e = refl

not-ended-yet : (older : List Packet) (packet : Packet) (offset : ℕ) → refusal_by (step_at older packet) offset ≡ None
    → is_ended older ≡ false
not-ended-yet older packet offset fine =
    fine-by (resolution_at older) (is_started older) (is_ended older) (tick_at older) packet offset (ended-started (since_start older)) fine

-- ---- one packet of the clip

abbrev step_since : Option ℕ → Option (List Packet) → Packet → Result ClipStep ClipFault
step_since resolution since packet =
    step_by resolution (is_some since) (is_some (option_and_then before_end since)) (ticks_since since) (role_of packet)

stands-at : (past since : List Packet) (packet : Packet) → since_start past ≡ Some since → before_end since ≡ None
    → step_at past packet ≡ Ok (step_within (ticks_in since) (role_of packet))
stands-at past since packet started going =
    ap (λ s. step_since (resolution_at past) s packet) started
    ∙ ap (λ ended. step_by (resolution_at past) true (is_some ended) (ticks_in since) (role_of packet)) going

-- ---- the packets before the start

abbrev IsNoStart : Packet → Type 0
IsNoStart packet = is_start (role_of packet) ≡ false

-- none of these packets could start the clip
abbrev NoneStarts : List Packet → Type 0
NoneStarts packets = (newer older : List Packet) (packet : Packet) → packets ≡ newer ++ packet ∷ older → can_start older packet ≡ false

earlier-ones : (packet : Packet) (packets : List Packet) → NoneStarts (packet ∷ packets) → NoneStarts packets
earlier-ones packet packets none newer older p e = none (packet ∷ newer) older p (ap (λ ps. packet ∷ ps) e)

not-started : (packets : List Packet) → NoneStarts packets → since_start packets ≡ None
not-started [] none = refl
not-started (packet ∷ packets) none =
    ap (λ since. since_start_by since (can_start packets packet) packet) (not-started packets (earlier-ones packet packets none))
    ∙ ap (λ can. since_start_by None can packet) (none [] packets packet refl)

-- a packet that is accepted before the start, and couldn't start the clip, is no Start of Clip
no-start-by : (resolution : Option ℕ) (role : Role) (ended : Bool) (ticks offset : ℕ) → (is_start role && is_some resolution) ≡ false
    → refusal_by (step_by resolution false ended ticks role) offset ≡ None → is_start role ≡ false
no-start-by (Some ticks_each) StartOfClip ended ticks offset can fine = absurd (let e : true ≡ false = can in cc)
no-start-by None StartOfClip ended ticks offset can fine = absurd cc
no-start-by resolution EndOfClip ended ticks offset can fine = refl
no-start-by resolution (Resolution n) ended ticks offset can fine = refl
no-start-by resolution (Delta n) ended ticks offset can fine = refl
no-start-by resolution Other ended ticks offset can fine = refl

no-starts : (past : List Item) → NoneStarts (packets_of past) → AreAccepted clipping past → AllByRecursion IsNoStart (packets_of past)
no-starts [] none accepted = tt
no-starts (item ∷ past) none accepted =
    let before = earlier-ones item.1 (packets_of past) none in
    let S : Option (List Packet) → Type 0 =
    λ since. refusal_by (step_since (resolution_at (packets_of past)) since item.1) item.0.offset ≡ None in (
      no-start-by (resolution_at (packets_of past)) (role_of item.1) false 0 item.0.offset (none [] (packets_of past) item.1 refl)
          (subst S (not-started (packets_of past) before) accepted.0),
      no-starts past before accepted.1,
    )

accepted-before : (later earlier : List Item) → AreAccepted clipping (later ++ earlier) → AreAccepted clipping earlier
accepted-before [] earlier accepted = accepted
accepted-before (item ∷ later) earlier accepted = accepted-before later earlier accepted.1

abbrev first-or : Item → List Item → Item
first-or other [] = other
first-or other (i ∷ items) = i

abbrev items-rest : List Item → List Item
items-rest [] = []
items-rest (i ∷ items) = items

abbrev IsNone : List Item → Type 0
IsNone [] = Unit {0}
IsNone (i ∷ items) = ⊥

not-nil : (xs : List Item) (x : Item) (ys : List Item) → [] ≡ xs ++ x ∷ ys → ⊥
not-nil [] x ys e = subst IsNone e tt
not-nil (y ∷ xs) x ys e = subst IsNone e tt

-- the items before one that stands before the last are among the others
at-front : (earlier : List Item) (item : Item) (later within : List Item) (end : Item) → within ++ end ∷ [] ≡ earlier ++ item ∷ later
    → AllByRecursion IsNoEnd (packets_of within) → AllByRecursion IsNoEnd (packets_of earlier)
at-front [] item later within end e none = tt
at-front (i ∷ earlier) item later [] end e none = absurd (not-nil earlier item later (ap items-rest e))
at-front (i ∷ earlier) item later (w ∷ within) end e none =
    let P : Item → Type 0 = λ x. IsNoEnd x.1 in
    (subst P (ap (first-or w) e) none.0, at-front earlier item later within end (ap items-rest e) none.1)

-- ---- the clip, by its newest packet and those since its start

module _ (laws : ClipsAreTheDefinition) (older : List Item) (end : Item) (after : List Packet)
    (started : since_start (packets_of older) ≡ Some after) (going : before_end after ≡ None) (ends : is_end (role_of end.1) ≡ true) where
  start-is : IsStartedBefore (packets_of older) after
  start-is = laws.started (packets_of older) after started

  parts : IsParted older after start-is.start start-is.before
  parts = parted older after start-is.start start-is.before start-is.split

  abbrev before : List Item
  before = reverse parts.earlier

  abbrev within : List Item
  within = reverse parts.later

  in-order : reverse (end ∷ older) ≡ before ++ parts.item ∷ (within ++ end ∷ [])
  in-order =
      reverse-append (end ∷ []) older
      ∙ ap (λ xs. reverse xs ++ end ∷ []) parts.split
      ∙ ap (λ xs. xs ++ end ∷ []) (turned parts.later parts.earlier parts.item)
      ∙ append_assoc before (parts.item ∷ within) (end ∷ [])

  -- none of the packets since the start ends it
  none-ends : AllByRecursion IsNoEnd after
  none-ends =
      let e : before_end (end.1 ∷ after) ≡ Some after =
      ap (λ ended. before_end_by ended (is_end (role_of end.1)) after) going ∙ ap (λ b. before_end_by None b after) ends in
      let is : IsEndedAfter (end.1 ∷ after) after = laws.ended (end.1 ∷ after) after e in
      is.first

  none-within : AllByRecursion IsNoEnd (packets_of within)
  none-within =
      let A : List Packet → Type 0 = λ ps. AllByRecursion IsNoEnd ps in
      subst A (sym (packets-reverse parts.later)) (all-reverse IsNoEnd (packets_of parts.later) (subst A (sym parts.newer_is) none-ends))

  can-start : CanStart before parts.item
  can-start =
      let S : List Packet → Packet → Type 0 = λ past packet. can_start past packet ≡ true in
      ap (λ past. can_start (packets_of past) parts.item.1) (reverse-reverse parts.earlier)
      ∙ ap (λ past. can_start past parts.item.1) parts.older_is
      ∙ ap (can_start start-is.before) parts.packet_is
      ∙ start-is.starts

  -- none of the packets before the start is a Start of Clip
  none-starts : AreAccepted clipping older → AllByRecursion IsNoStart (packets_of before)
  none-starts accepted =
      let A : List Packet → Type 0 = λ ps. AllByRecursion IsNoStart ps in
      let N : List Packet → Type 0 = λ ps. NoneStarts ps in
      let B : List Item → Type 0 = λ items. AreAccepted clipping items in
      let rest : AreAccepted clipping (parts.item ∷ parts.earlier) =
      accepted-before parts.later (parts.item ∷ parts.earlier) (subst B parts.split accepted) in
      subst A (sym (packets-reverse parts.earlier))
      (all-reverse IsNoStart (packets_of parts.earlier) (no-starts parts.earlier (subst N (sym parts.older_is) start-is.first) rest.1))

  -- each packet after the start stands at the sum of the ticks
  stands : (earlier later : List Item) (item : Item) → within ++ end ∷ [] ≡ earlier ++ item ∷ later
      → step_at (packets_of (reverse (before ++ parts.item ∷ earlier))) item.1
      ≡ Ok (step_within (ticks_in (packets_of earlier)) (role_of item.1))
  stands earlier later item e =
      let since : List Packet = packets_of (reverse earlier) in
      let past : List Packet = packets_of (reverse (before ++ parts.item ∷ earlier)) in
      let split : past ≡ since ++ parts.item.1 ∷ packets_of (reverse before) =
      ap packets_of (turned before earlier parts.item) ∙ map-append (λ (i : Item). i.1) (reverse earlier) (parts.item ∷ reverse before) in
      let is : IsStartedBefore past since =
      record {
        before = packets_of (reverse before);
        start = parts.item.1;
        split = split;
        starts = can-start;
        first =
            λ newer older packet f. start-is.first newer older packet
            (sym (ap packets_of (reverse-reverse parts.earlier) ∙ parts.older_is) ∙ f);
      } in
      let front : AllByRecursion IsNoEnd (packets_of earlier) = at-front earlier item later within end e none-within in
      let A : List Packet → Type 0 = λ ps. AllByRecursion IsNoEnd ps in
      let none : before_end since ≡ None =
      not-ended since (subst A (sym (packets-reverse earlier)) (all-reverse IsNoEnd (packets_of earlier) front)) in
      stands-at past since item.1 (laws.starts past since is) none
      ∙ ap (λ ticks. Ok (step_within ticks (role_of item.1))) (ap ticks_in (packets-reverse earlier) ∙ ticks-reverse (packets_of earlier))

-- ---- done

ended-both : (older : List Packet) (packet : Packet) → is_ended older ≡ false → is_ended (packet ∷ older) ≡ true
    → (after : List Packet) × (since_start older ≡ Some after) × (before_end after ≡ None) × (is_end (role_of packet) ≡ true)
ended-both older packet going ended = by_since (since_start older) refl going ended
  where
    at_start : (can : Bool) → is_some (option_and_then before_end (since_start_by None can packet)) ≡ true → ⊥
    at_start true e = let f : false ≡ true = e in cc
    at_start false e = let f : false ≡ true = e in cc

    by_since : (since : Option (List Packet)) → since_start older ≡ since → is_some (option_and_then before_end since) ≡ false
        → is_some (option_and_then before_end (since_start_by since (can_start older packet) packet)) ≡ true
        → (after : List Packet) × (since_start older ≡ Some after) × (before_end after ≡ None) × (is_end (role_of packet) ≡ true)
    by_since None e going ended = absurd (at_start (can_start older packet) ended)
    by_since (Some after) e going ended =
        let none = none-of (before_end after) going in
        (after, e, none, ended-last after packet none ended)

module _ (laws : ClipsAreTheDefinition) (old new : Seen) (bytes : List ℕ) (told : old.left ≡ Some bytes)
    (done : IsDone clip_cutting clipping old new) where
  shown : (past : List Item) → reverse done.items ≡ past → AreAccepted clipping past → is_ended (packets_of past) ≡ true
      → IsShownClip bytes old.places new.places
  shown [] newest accepted ended = absurd (let e : false ≡ true = ended in cc)
  shown (end ∷ older) newest accepted ended =
      let going = not-ended-yet (packets_of older) end.1 end.0.offset accepted.0 in
      let clip = ended-both (packets_of older) end.1 going ended in
      let whole : done.items
      ≡ before laws older end clip.0 clip.1 clip.2 clip.3 ++ (parts laws older end clip.0 clip.1 clip.2 clip.3).item
      ∷ (within laws older end clip.0 clip.1 clip.2 clip.3 ++ end ∷ []) =
      sym (reverse-reverse done.items) ∙ ap reverse newest ∙ in-order laws older end clip.0 clip.1 clip.2 clip.3 in
      let C : Option (List ℕ) → Type 0 = λ all. IfSome all (λ b. clip_cutting b done.items None × (new.left ≡ Some [])) in
      let I : List Item → Type 0 = λ items. clip_cutting bytes items None in
      record {
        before = before laws older end clip.0 clip.1 clip.2 clip.3;
        start = (parts laws older end clip.0 clip.1 clip.2 clip.3).item;
        within = within laws older end clip.0 clip.1 clip.2 clip.3;
        end = end;
        cut = subst I whole (subst C told done.cut).0;
        starts = can-start laws older end clip.0 clip.1 clip.2 clip.3;
        first =
            all-items IsNoStart (before laws older end clip.0 clip.1 clip.2 clip.3)
            (none-starts laws older end clip.0 clip.1 clip.2 clip.3 accepted.1);
        ends = clip.3;
        none_before =
            all-items IsNoEnd (within laws older end clip.0 clip.1 clip.2 clip.3) (none-within laws older end clip.0 clip.1 clip.2 clip.3);
        stands = stands laws older end clip.0 clip.1 clip.2 clip.3;
        output =
            ap (λ s. s.output) done.places
            ∙ ap (with_more old.places.output)
            (ap (λ last. output_in (done.puts ++ last)) done.at_end
            ∙ ap output_in (append-nil done.puts)
            ∙ done.done.meaning
            ∙ ap (λ items. clip_text (reverse items)) whole);
      }

ended-fine : (ended : Bool) (size : ℕ) → end_refusal ended size ≡ None → ended ≡ true
ended-fine true size fine = refl
ended-fine false size fine = absurd cc

pub shows_the_clip : (laws : ClipsAreTheDefinition) (old new : Seen) (bytes : List ℕ) → old.left ≡ Some bytes → ClipEnds old new Done
    → IsShownClip bytes old.places new.places
shows_the_clip laws old new bytes told (inr fails) = absurd (let e : Done ≡ ReadFault = fails.0 in cc)
shows_the_clip laws old new bytes told (inl ends) =
    let done : IsDone clip_cutting clipping old new = ends.any.0 in
    shown laws old new bytes told done (reverse done.items) refl done.done.accepted
    (ended-fine (is_ended (packets_of (reverse done.items))) (size_over (reverse done.items)) done.fine)
