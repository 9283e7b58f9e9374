-- What puts do, one after the other.
use Rattle.std.proofs.Common.{◌≡◌, ℕ, Bool, List, [], ◌∷◌, ◌++◌, take, Option, None, Some, refl, ap, sym, ◌∙◌, subst, inl, inr}
use Rattle.std.specs.Prelude.{Result, Ok, Err}
use Rattle.std.proofs.lemmas.List.{append_assoc, append-nil}
use Rattle.std.proofs.lemmas.List.Concat.{flat_map-append}
use Rattle.outside.specs.Outside.{Gains, GainsPart, GainsPartOf, Rose}
use Rattle.pass_loop.specs.Put.{Put, in_lane, in_output, in_notes, pair_of, pairs_in, output_of, output_in, notes_of, notes_in, IsPartOf}
use Rattle.pass_loop.specs.Places.{Counts, Places, with_more, over_puts, with_faults, FailsAt, Puts, Fails}
use Rattle.pass_loop.specs.declared.ends.RunEnd.{RunEnd}
use Rattle.pass_loop.specs.declared.ends.RunEnd.TheVariants.{LaneFault, OutputFault, NoteFault}

pub with_more-none : {A : Type 0} (old : Option (List A)) → with_more old [] ≡ old
with_more-none None = refl
with_more-none (Some old) = ap Some (append-nil old)

pub with_more-then : {A : Type 0} (old : Option (List A)) (xs ys : List A) → with_more old (xs ++ ys) ≡ with_more (with_more old xs) ys
with_more-then None xs ys = refl
with_more-then (Some old) xs ys = ap Some (sym (append_assoc old xs ys))

pub Gains-with_more : {A : Type 0} (old new : Option (List A)) (items : List A) → Gains old new items → new ≡ with_more old items
Gains-with_more None None items gains = refl
Gains-with_more (Some old) (Some new) items gains = ap Some gains
Gains-with_more None (Some new) items gains = absurd gains
Gains-with_more (Some old) None items gains = absurd gains

abbrev made : Places → Option (List (ℕ × List ℕ)) → Option (List ℕ) → Option (List ℕ) → Places
made s pieces output notes = record s { pieces = pieces; output = output; notes = notes }

pub made-same : (s : Places) (p p' : Option (List (ℕ × List ℕ))) (o o' n n' : Option (List ℕ)) → p ≡ p' → o ≡ o' → n ≡ n'
    → made s p o n ≡ made s p' o' n'
made-same s p p' o o' n n' e f g = ap (λ x. made s x o n) e ∙ ap (λ x. made s p' x n) f ∙ ap (λ x. made s p' o' x) g

pub over_puts-none : (s : Places) → over_puts [] s ≡ s
over_puts-none s = made-same s _ _ _ _ _ _ (with_more-none s.pieces) (with_more-none s.output) (with_more-none s.notes)

pub over_puts-then : (ps qs : List Put) (s : Places) → over_puts (ps ++ qs) s ≡ over_puts qs (over_puts ps s)
over_puts-then ps qs s =
    made-same s _ _ _ _ _ _
    (ap (with_more s.pieces) (flat_map-append pair_of ps qs) ∙ with_more-then s.pieces (pairs_in ps) (pairs_in qs))
    (ap (with_more s.output) (flat_map-append output_of ps qs) ∙ with_more-then s.output (output_in ps) (output_in qs))
    (ap (with_more s.notes) (flat_map-append notes_of ps qs) ∙ with_more-then s.notes (notes_in ps) (notes_in qs))

-- ---- one after the other

-- some are put, and then these
pub then_put : (ps qs : List Put) (a b c : Places) → b ≡ over_puts ps a → c ≡ over_puts qs b → c ≡ over_puts (ps ++ qs) a
then_put ps qs a b c first second = second ∙ ap (over_puts qs) first ∙ sym (over_puts-then ps qs a)

-- some are put, and then one of these failed
pub then_stops : (ps qs : List Put) (end : RunEnd) (a b c : Places) → b ≡ over_puts ps a → FailsAt qs end b c → FailsAt (ps ++ qs) end a c
then_stops ps qs end a b c first stops =
    let F : Counts → Type 0 = λ x. Fails end x c.faults in
    record {
      before = ps ++ stops.before;
      failed = stops.failed;
      after = stops.after;
      parts = ap (λ xs. ps ++ xs) stops.parts ∙ sym (append_assoc ps stops.before (stops.failed ∷ stops.after));
      part = stops.part;
      is_part = stops.is_part;
      end_is = stops.end_is;
      stands =
          stops.stands
          ∙ ap (λ s. with_faults c.faults (over_puts (stops.before ++ stops.part) s)) first
          ∙ ap (with_faults c.faults) (sym (over_puts-then ps (stops.before ++ stops.part) a)
          ∙ ap (λ xs. over_puts xs a) (sym (append_assoc ps stops.before stops.part)));
      counts = subst F (ap (λ s. s.faults) first) stops.counts;
    }

-- one of these failed, so others after them aren't put
pub stops_more : (ps qs : List Put) (end : RunEnd) (a b : Places) → FailsAt ps end a b → FailsAt (ps ++ qs) end a b
stops_more ps qs end a b stops =
    record {
      before = stops.before;
      failed = stops.failed;
      after = stops.after ++ qs;
      parts = ap (λ xs. xs ++ qs) stops.parts ∙ append_assoc stops.before (stops.failed ∷ stops.after) qs;
      part = stops.part;
      is_part = stops.is_part;
      end_is = stops.end_is;
      stands = stops.stands;
      counts = stops.counts;
    }

-- ---- one put

abbrev output_now : Places → Option (List ℕ) → ℕ → Places
output_now s held faults = record s { output = held; faults = record s.faults { output = faults } }

-- text in the output
pub output_put : (s : Places) (text : List ℕ) (held : Option (List ℕ)) (faults : ℕ) → Gains s.output held text → faults ≡ s.faults.output
    → output_now s held faults ≡ over_puts (in_output text ∷ []) s
output_put s text held faults gains same =
    ap (λ n. output_now s held n) same
    ∙ made-same s _ _ _ _ _ _ (sym (with_more-none s.pieces))
    (Gains-with_more s.output held text gains ∙ ap (with_more s.output) (sym (append-nil text))) (sym (with_more-none s.notes))

abbrev output_made : Places → Option (List (ℕ × List ℕ)) → Option (List ℕ) → Option (List ℕ) → ℕ → Places
output_made s pieces output notes faults =
    record s { pieces = pieces; output = output; notes = notes; faults = record s.faults { output = faults } }

pub output_fails : (s : Places) (text : List ℕ) (held : Option (List ℕ)) (faults : ℕ) → GainsPart s.output held text
    → Rose s.faults.output faults → FailsAt (in_output text ∷ []) OutputFault s (output_now s held faults)
output_fails s text held faults gains rose =
    let part : List ℕ = take gains.0 text in
    record {
      before = [];
      failed = in_output text;
      after = [];
      parts = refl;
      part = in_output part ∷ [];
      is_part = (gains.0, gains.1, refl);
      end_is = refl;
      stands =
          ap (λ p. output_made s p held s.notes faults) (sym (with_more-none s.pieces))
          ∙ ap (λ o. output_made s (with_more s.pieces []) o s.notes faults)
          (Gains-with_more s.output held part gains.2 ∙ ap (with_more s.output) (sym (append-nil part)))
          ∙ ap (λ n. output_made s (with_more s.pieces []) (with_more s.output (part ++ [])) n faults) (sym (with_more-none s.notes));
      counts = (rose, refl);
    }

-- text in the notes
abbrev pub notes_now : Places → Option (List ℕ) → ℕ → Places
notes_now s held faults = record s { notes = held; faults = record s.faults { notes = faults } }

abbrev notes_made : Places → Option (List (ℕ × List ℕ)) → Option (List ℕ) → Option (List ℕ) → ℕ → Places
notes_made s pieces output notes faults =
    record s { pieces = pieces; output = output; notes = notes; faults = record s.faults { notes = faults } }

pub notes_fails : (s : Places) (text : List ℕ) (held : Option (List ℕ)) (faults : ℕ) → GainsPart s.notes held text
    → Rose s.faults.notes faults → FailsAt (in_notes text ∷ []) NoteFault s (notes_now s held faults)
notes_fails s text held faults gains rose =
    let part : List ℕ = take gains.0 text in
    record {
      before = [];
      failed = in_notes text;
      after = [];
      parts = refl;
      part = in_notes part ∷ [];
      is_part = (gains.0, gains.1, refl);
      end_is = refl;
      stands =
          ap (λ p. notes_made s p s.output held faults) (sym (with_more-none s.pieces))
          ∙ ap (λ o. notes_made s (with_more s.pieces []) o held faults) (sym (with_more-none s.output))
          ∙ ap (λ n. notes_made s (with_more s.pieces []) (with_more s.output []) n faults)
          (Gains-with_more s.notes held part gains.2 ∙ ap (with_more s.notes) (sym (append-nil part)));
      counts = (rose, refl);
    }

-- a piece in a lane
abbrev pub lanes_now : Places → Option (List (ℕ × List ℕ)) → ℕ → Places
lanes_now s pieces faults = record s { pieces = pieces; faults = record s.faults { lanes = faults } }

abbrev lanes_made : Places → Option (List (ℕ × List ℕ)) → Option (List ℕ) → Option (List ℕ) → ℕ → Places
lanes_made s pieces output notes faults =
    record s { pieces = pieces; output = output; notes = notes; faults = record s.faults { lanes = faults } }

abbrev pub lanes_seen : Places → Bool → Option (List ℕ) → Option (List (ℕ × List ℕ)) → ℕ → Places
lanes_seen s begun folder pieces faults =
    record s { begun = begun; folder = folder; pieces = pieces; faults = record s.faults { lanes = faults } }

lanes_same : (s : Places) (begun : Bool) (folder : Option (List ℕ)) (pieces : Option (List (ℕ × List ℕ))) (faults : ℕ) → begun ≡ s.begun
    → folder ≡ s.folder → lanes_seen s begun folder pieces faults ≡ lanes_now s pieces faults
lanes_same s begun folder pieces faults e f =
    ap (λ b. lanes_seen s b folder pieces faults) e ∙ ap (λ x. lanes_seen s s.begun x pieces faults) f

lane_stands : (s : Places) (part : List Put) (pieces : Option (List (ℕ × List ℕ))) (faults : ℕ)
    → pieces ≡ with_more s.pieces (pairs_in part) → output_in part ≡ [] → notes_in part ≡ []
    → lanes_now s pieces faults ≡ with_faults (record s.faults { lanes = faults }) (over_puts part s)
lane_stands s part pieces faults p o n =
    ap (λ x. lanes_made s x s.output s.notes faults) p
    ∙ ap (λ x. lanes_made s (with_more s.pieces (pairs_in part)) x s.notes faults)
    (sym (with_more-none s.output) ∙ ap (with_more s.output) (sym o))
    ∙ ap (λ x. lanes_made s (with_more s.pieces (pairs_in part)) (with_more s.output (output_in part)) x faults)
    (sym (with_more-none s.notes) ∙ ap (with_more s.notes) (sym n))

pub lane_fails : (s : Places) (lane : ℕ) (piece : List ℕ) (begun : Bool) (folder : Option (List ℕ)) (pieces : Option (List (ℕ × List ℕ)))
    (faults : ℕ)
    → begun ≡ s.begun → folder ≡ s.folder
    → GainsPartOf s.pieces pieces lane piece → Rose s.faults.lanes faults
    → FailsAt (in_lane lane piece ∷ []) LaneFault s (lanes_seen s begun folder pieces faults)
lane_fails s lane piece begun folder pieces faults e f gains rose =
    let S : Places → Type 0 = λ x. FailsAt (in_lane lane piece ∷ []) LaneFault s x in
    subst S (sym (lanes_same s begun folder pieces faults e f)) (by_part gains)
  where
    stops : (part : List Put) → IsPartOf (in_lane lane piece) part → pieces ≡ with_more s.pieces (pairs_in part) → output_in part ≡ []
        → notes_in part ≡ [] → FailsAt (in_lane lane piece ∷ []) LaneFault s (lanes_now s pieces faults)
    stops part is_part p o n =
        record {
          before = [];
          failed = in_lane lane piece;
          after = [];
          parts = refl;
          part = part;
          is_part = is_part;
          end_is = refl;
          stands = lane_stands s part pieces faults p o n;
          counts = (rose, refl);
        }

    by_part : GainsPartOf s.pieces pieces lane piece → FailsAt (in_lane lane piece ∷ []) LaneFault s (lanes_now s pieces faults)
    by_part (inl none) = stops [] (inl refl) (Gains-with_more s.pieces pieces [] none) refl refl
    by_part (inr some) =
        stops (in_lane lane (take some.0 piece) ∷ []) (inr (some.0, some.1, some.2, refl))
        (Gains-with_more s.pieces pieces ((lane, take some.0 piece) ∷ []) some.3) refl refl

-- ---- in code

-- some are put, and then these are, or one of them failed
pub then_puts : (ps qs : List Put) (a b c : Places) (result : Result (Unit {0}) RunEnd) → b ≡ over_puts ps a → Puts qs b c result
    → Puts (ps ++ qs) a c result
then_puts ps qs a b c (Ok done) first second = then_put ps qs a b c first second
then_puts ps qs a b c (Err end) first second = then_stops ps qs end a b c first second
