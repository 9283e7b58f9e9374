-- A pass leaves the places that it doesn't name as they are.
use Rattle.std.proofs.Common.{◌≡◌, ℕ, List, [], ◌∷◌, ◌++◌, Bool, Option, refl, ap, sym, ◌∙◌, subst, inl, inr}
use Rattle.std.proofs.lemmas.Bool.{false≢true}
use Rattle.std.specs.Prelude.{true, false, ◌≢◌, reverse}
use Rattle.pass_loop.specs.Named.{Named, is_named, AreNamed, named-then, SparesOthers}
use Rattle.pass_loop.specs.Pass.{Seen, Cutting, Work, ArePut, IsNextPut, PutFails, Stands, Ends}
use Rattle.pass_loop.specs.Places.{Places, with_more, over_puts, FailsAt, Fails}
use Rattle.pass_loop.specs.Put.{Put, in_lane, in_output, in_notes, pairs_in, output_in, notes_in, IsPartOf, fault_of}
use Rattle.pass_loop.specs.declared.ends.RunEnd.{RunEnd}
use Rattle.pass_loop.specs.declared.ends.RunEnd.TheVariants.{Done, Refused, ReadFault, LaneFault, OutputFault, NoteFault, NoMemory}
use Rattle.pass_loop.specs.ForProofs.PutLaws.{with_more-none}

named-front : (named : Named) (ps : List Put) (failed : Put) (after : List Put) → AreNamed named (ps ++ failed ∷ after)
    → AreNamed named ps × (is_named named failed ≡ true)
named-front named [] failed after are = (tt, are.0)
named-front named (p ∷ ps) failed after are = let front = named-front named ps failed after are.1 in ((are.0, front.0), front.1)

named-part : (named : Named) (failed : Put) (part : List Put) → IsPartOf failed part → is_named named failed ≡ true → AreNamed named part
named-part named (in_lane lane piece) part (inl none) is = let A : List Put → Type 0 = λ ps. AreNamed named ps in subst A (sym none) tt
named-part named (in_lane lane piece) part (inr some) is =
    let A : List Put → Type 0 = λ ps. AreNamed named ps in
    subst A (sym some.3) (is, tt)
named-part named (in_output text) part some is = let A : List Put → Type 0 = λ ps. AreNamed named ps in subst A (sym some.2) (is, tt)
named-part named (in_notes text) part some is = let A : List Put → Type 0 = λ ps. AreNamed named ps in subst A (sym some.2) (is, tt)

-- the end isn't that of a failed put into this place
abbrev IsNoLaneFault : RunEnd → Type 0
IsNoLaneFault LaneFault = ⊥
IsNoLaneFault _ = Unit {0}

abbrev IsNoOutputFault : RunEnd → Type 0
IsNoOutputFault OutputFault = ⊥
IsNoOutputFault _ = Unit {0}

abbrev IsNoNoteFault : RunEnd → Type 0
IsNoNoteFault NoteFault = ⊥
IsNoNoteFault _ = Unit {0}

not_both : {named : Bool} → named ≡ true → named ≡ false → ⊥
not_both is not = false≢true (sym not ∙ is)

no_pairs : (named : Named) (puts : List Put) → AreNamed named puts → named.lanes ≡ false → pairs_in puts ≡ []
no_pairs named [] are none = refl
no_pairs named (in_lane lane piece ∷ puts) are none = absurd (not_both are.0 none)
no_pairs named (in_output text ∷ puts) are none = no_pairs named puts are.1 none
no_pairs named (in_notes text ∷ puts) are none = no_pairs named puts are.1 none

no_output : (named : Named) (puts : List Put) → AreNamed named puts → named.output ≡ false → output_in puts ≡ []
no_output named [] are none = refl
no_output named (in_output text ∷ puts) are none = absurd (not_both are.0 none)
no_output named (in_lane lane piece ∷ puts) are none = no_output named puts are.1 none
no_output named (in_notes text ∷ puts) are none = no_output named puts are.1 none

no_notes : (named : Named) (puts : List Put) → AreNamed named puts → named.notes ≡ false → notes_in puts ≡ []
no_notes named [] are none = refl
no_notes named (in_notes text ∷ puts) are none = absurd (not_both are.0 none)
no_notes named (in_lane lane piece ∷ puts) are none = no_notes named puts are.1 none
no_notes named (in_output text ∷ puts) are none = no_notes named puts are.1 none

-- what the unnamed places tell stays if these are put
pieces_stay : (named : Named) (puts : List Put) (old : Places) → AreNamed named puts → named.lanes ≡ false
    → (over_puts puts old).pieces ≡ old.pieces
pieces_stay named puts old are none = ap (with_more old.pieces) (no_pairs named puts are none) ∙ with_more-none old.pieces

output_stays : (named : Named) (puts : List Put) (old : Places) → AreNamed named puts → named.output ≡ false
    → (over_puts puts old).output ≡ old.output
output_stays named puts old are none = ap (with_more old.output) (no_output named puts are none) ∙ with_more-none old.output

notes_stay : (named : Named) (puts : List Put) (old : Places) → AreNamed named puts → named.notes ≡ false
    → (over_puts puts old).notes ≡ old.notes
notes_stay named puts old are none = ap (with_more old.notes) (no_notes named puts are none) ∙ with_more-none old.notes

-- these are put, and nothing failed
pub spares_put : (named : Named) (puts : List Put) (end : RunEnd) (old new : Places) → AreNamed named puts → new ≡ over_puts puts old
    → end ≢ LaneFault → end ≢ OutputFault → end ≢ NoteFault → SparesOthers named end old new
spares_put named puts end old new are stands lanes output notes = (
  λ none. (ap (λ s. s.pieces) stands ∙ pieces_stay named puts old are none, ap (λ s. s.faults.lanes) stands, lanes),
  λ none. (ap (λ s. s.output) stands ∙ output_stays named puts old are none, ap (λ s. s.faults.output) stands, output),
  λ none. (ap (λ s. s.notes) stands ∙ notes_stay named puts old are none, ap (λ s. s.faults.notes) stands, notes),
)

-- these are put, and then one of the next ones failed
pub spares_failed : (named : Named) (puts next : List Put) (end : RunEnd) (old new : Places) → AreNamed named puts → AreNamed named next
    → FailsAt next end (over_puts puts old) new → SparesOthers named end old new
spares_failed named puts next end old new are more stops =
    let A : List Put → Type 0 = λ ps. AreNamed named ps in
    let front = named-front named stops.before stops.failed stops.after (subst A stops.parts more) in
    let some : AreNamed named (stops.before ++ stops.part) =
    named-then named stops.before stops.part front.0 (named-part named stops.failed stops.part stops.is_part front.1) in
    let mid : Places = over_puts puts old in (
      λ none. (
        ap (λ s. s.pieces) stops.stands
            ∙ pieces_stay named (stops.before ++ stops.part) mid some none
            ∙ pieces_stay named puts old are none,
        lanes none front.1,
        not_lanes none front.1,
      ),
      λ none. (
        ap (λ s. s.output) stops.stands
            ∙ output_stays named (stops.before ++ stops.part) mid some none
            ∙ output_stays named puts old are none,
        output none front.1,
        not_output none front.1,
      ),
      λ none. (
        ap (λ s. s.notes) stops.stands ∙ notes_stay named (stops.before ++ stops.part) mid some none ∙ notes_stay named puts old are none,
        notes none front.1,
        not_notes none front.1,
      ),
    )
  where
    lanes_at : (failed : Put) (e : RunEnd) → e ≡ fault_of failed → is_named named failed ≡ true → named.lanes ≡ false
        → Fails e (over_puts puts old).faults new.faults → new.faults.lanes ≡ old.faults.lanes
    lanes_at (in_lane lane piece) e is it none counts = absurd (not_both it none)
    lanes_at (in_output text) e is it none counts =
        let F : RunEnd → Type 0 = λ x. Fails x (over_puts puts old).faults new.faults in
        let f = subst F is counts in
        ap (λ c. c.lanes) f.1
    lanes_at (in_notes text) e is it none counts =
        let F : RunEnd → Type 0 = λ x. Fails x (over_puts puts old).faults new.faults in
        let f = subst F is counts in
        ap (λ c. c.lanes) f.1

    output_at : (failed : Put) (e : RunEnd) → e ≡ fault_of failed → is_named named failed ≡ true → named.output ≡ false
        → Fails e (over_puts puts old).faults new.faults → new.faults.output ≡ old.faults.output
    output_at (in_output text) e is it none counts = absurd (not_both it none)
    output_at (in_lane lane piece) e is it none counts =
        let F : RunEnd → Type 0 = λ x. Fails x (over_puts puts old).faults new.faults in
        let f = subst F is counts in
        ap (λ c. c.output) f.1
    output_at (in_notes text) e is it none counts =
        let F : RunEnd → Type 0 = λ x. Fails x (over_puts puts old).faults new.faults in
        let f = subst F is counts in
        ap (λ c. c.output) f.1

    notes_at : (failed : Put) (e : RunEnd) → e ≡ fault_of failed → is_named named failed ≡ true → named.notes ≡ false
        → Fails e (over_puts puts old).faults new.faults → new.faults.notes ≡ old.faults.notes
    notes_at (in_notes text) e is it none counts = absurd (not_both it none)
    notes_at (in_lane lane piece) e is it none counts =
        let F : RunEnd → Type 0 = λ x. Fails x (over_puts puts old).faults new.faults in
        let f = subst F is counts in
        ap (λ c. c.notes) f.1
    notes_at (in_output text) e is it none counts =
        let F : RunEnd → Type 0 = λ x. Fails x (over_puts puts old).faults new.faults in
        let f = subst F is counts in
        ap (λ c. c.notes) f.1

    other_end : (failed : Put) → is_named named failed ≡ true
        → (named.lanes ≡ false → fault_of failed ≢ LaneFault) × (named.output ≡ false → fault_of failed ≢ OutputFault)
        × (named.notes ≡ false → fault_of failed ≢ NoteFault)
    other_end (in_lane lane piece) is =
        (λ none. absurd (not_both is none), λ none e. subst IsNoOutputFault e tt, λ none e. subst IsNoNoteFault e tt)
    other_end (in_output text) is =
        (λ none e. subst IsNoLaneFault e tt, λ none. absurd (not_both is none), λ none e. subst IsNoNoteFault e tt)
    other_end (in_notes text) is =
        (λ none e. subst IsNoLaneFault e tt, λ none e. subst IsNoOutputFault e tt, λ none. absurd (not_both is none))

    lanes : named.lanes ≡ false → is_named named stops.failed ≡ true → new.faults.lanes ≡ old.faults.lanes
    lanes none is = lanes_at stops.failed end stops.end_is is none stops.counts

    output : named.output ≡ false → is_named named stops.failed ≡ true → new.faults.output ≡ old.faults.output
    output none is = output_at stops.failed end stops.end_is is none stops.counts

    notes : named.notes ≡ false → is_named named stops.failed ≡ true → new.faults.notes ≡ old.faults.notes
    notes none is = notes_at stops.failed end stops.end_is is none stops.counts

    not_lanes : named.lanes ≡ false → is_named named stops.failed ≡ true → end ≢ LaneFault
    not_lanes none is e = (other_end stops.failed is).0 none (sym stops.end_is ∙ e)

    not_output : named.output ≡ false → is_named named stops.failed ≡ true → end ≢ OutputFault
    not_output none is e = (other_end stops.failed is).1 none (sym stops.end_is ∙ e)

    not_notes : named.notes ≡ false → is_named named stops.failed ≡ true → end ≢ NoteFault
    not_notes none is e = (other_end stops.failed is).2 none (sym stops.end_is ∙ e)

-- what is put for items goes to the places that are named
pub are_named : {I : Type 0} (work : Work I)
    → ((past : List I) (item : I) (puts : List Put) → work.IsPut past item puts → AreNamed work.names puts)
    → (past : List I) (puts : List Put) → ArePut work past puts → AreNamed work.names puts
are_named work each [] puts put = let A : List Put → Type 0 = λ ps. AreNamed work.names ps in subst A (sym put) tt
are_named work each (item ∷ past) puts put =
    let A : List Put → Type 0 = λ ps. AreNamed work.names ps in
    subst A (sym put.4) (named-then work.names put.0 put.1 (are_named work each past put.0 put.2) (each past item put.1 put.3))

module _ {I : Type 0} (IsCut : Cutting I) (work : Work I)
    (each : (past : List I) (item : I) (puts : List Put) → work.IsPut past item puts → AreNamed work.names puts)
    (last : (past : List I) (puts : List Put) → work.IsPutAtEnd past puts → AreNamed work.names puts) (old new : Seen) where
  next_named : (all : Option (List ℕ)) (items : List I) (next : List Put) → IsNextPut IsCut work all items next → AreNamed work.names next
  next_named all items next (inl step) = each (reverse items) step.0 next step.3
  next_named all items next (inr close) = last (reverse items) next close.2

  put_fails : (end : RunEnd) → PutFails IsCut work end old new → SparesOthers work.names end old.places new.places
  put_fails end fails =
      spares_failed work.names fails.puts fails.next end old.places new.places
      (are_named work each (reverse fails.items) fails.puts fails.done.put) (next_named old.left fails.items fails.next fails.is_next)
      fails.places

  -- what stands at an end spares what isn't named
  pub stands_ends : (end : RunEnd) → Stands IsCut work old new end → Ends IsCut work old new end
  stands_ends Done is = (
    is,
    spares_put work.names (is.puts ++ is.last) Done old.places new.places
        (named-then work.names is.puts is.last (are_named work each (reverse is.items) is.puts is.done.put)
        (last (reverse is.items) is.last is.at_end))
        is.places
        (λ e. subst IsNoLaneFault e tt) (λ e. subst IsNoOutputFault e tt) (λ e. subst IsNoNoteFault e tt),
  )
  stands_ends (Refused reason offset) is = (
    is,
    spares_put work.names is.puts (Refused reason offset) old.places new.places (are_named work each (reverse is.items) is.puts is.done.put)
        is.places
        (λ e. subst IsNoLaneFault e tt) (λ e. subst IsNoOutputFault e tt) (λ e. subst IsNoNoteFault e tt),
  )
  stands_ends ReadFault is = (
    is,
    spares_put work.names is.puts ReadFault old.places new.places (are_named work each (reverse is.items) is.puts is.done.put) is.places
        (λ e. subst IsNoLaneFault e tt) (λ e. subst IsNoOutputFault e tt) (λ e. subst IsNoNoteFault e tt),
  )
  stands_ends NoMemory is = (
    is,
    spares_put work.names is.puts NoMemory old.places new.places (are_named work each (reverse is.items) is.puts is.done.put) is.places
        (λ e. subst IsNoLaneFault e tt) (λ e. subst IsNoOutputFault e tt) (λ e. subst IsNoNoteFault e tt),
  )
  stands_ends LaneFault is = (is, put_fails LaneFault is)
  stands_ends OutputFault is = (is, put_fails OutputFault is)
  stands_ends NoteFault is = (is, put_fails NoteFault is)
