-- If no exclusive exceeds its limit, the limit doesn't matter.
use Rattle.std.proofs.Common.{ℕ, ◌≡◌, ◌≤◌, ◌∙◌, ap, sym, refl, subst, List, [], ◌∷◌}
use Rattle.std.proofs.Common.{◌++◌, length, Option, Some, None, Bool, true, false, cond}
use Rattle.std.specs.Option.{option_map, option_and_then, IfSome}
use Rattle.std.proofs.lemmas.List.{append-nil}
use Rattle.std.proofs.lemmas.Bool.{le-leb, leb-true, eqb-true}
use lib.Dec.{eqb, leb}
use Rattle.voice_messages.specs.declared.voice2.Form.{Form}
use Rattle.voice_messages.specs.declared.voice2.Form.TheVariants as form
use Rattle.sysex_groups.specs.Exclusives.{Part, of_group, since_start, since_start_by, bytes_of, within}
use Rattle.sysex_groups.specs.Exclusives.{opened, joined, goes_on, passes_by, passes_room, ended_by, ended}
use Rattle.midi_meaning.specs.Rooms.{AreWithinRoom}
use Rattle.midi_meaning.proofs.Joined.{bytes_of-more}

abbrev Fits : ℕ → Option (List Part) → Type 0
Fits room o = IfSome o (λ parts. length (bytes_of parts) ≤ room)

within-fits : (room : ℕ) (o : Option (List Part)) → Fits room o → option_and_then (within (Some room)) o ≡ o
within-fits room None h = refl
within-fits room (Some parts) h = rw (le-leb (length (bytes_of parts)) room h)

within-none : (o : Option (List Part)) → option_and_then (within None) o ≡ o
within-none None = refl
within-none (Some parts) = refl

-- one more part of the group
fits-more : (room : ℕ) (part : Part) (o : Option (List Part)) → Fits room o
    → cond (goes_on part.form) (passes_by (Some room) (option_map bytes_of o) part.bytes) false ≡ false → length part.bytes ≤ room
    → Fits room (since_start_by part.form part o)
fits-more room part o h p b = go part.form o h p
  where
    passes-false : (t : Bool) → cond t false true ≡ false → t ≡ true
    passes-false true e = refl
    passes-false false e = cc

    go : (f : Form) (o : Option (List Part)) → Fits room o
        → cond (goes_on f) (passes_by (Some room) (option_map bytes_of o) part.bytes) false ≡ false → Fits room (since_start_by f part o)
    go form.Start o h p = subst (λ bytes. length bytes ≤ room) (sym (append-nil part.bytes)) b
    go form.Continue None h p = tt
    go form.Continue (Some parts) h p =
        subst (λ bytes. length bytes ≤ room) (sym (bytes_of-more part parts))
        (leb-true (length (bytes_of parts ++ part.bytes)) room (passes-false (leb (length (bytes_of parts ++ part.bytes)) room) p))
    go form.Complete o h p = tt
    go form.End o h p = tt

since-fits : (room g : ℕ) (past : List Part) → AreWithinRoom room past → Fits room (since_start (of_group g past))
since-fits room g [] a = tt
since-fits room g (part ∷ past) a = go (eqb part.group g) refl (since-fits room g past a.2)
  where
    go : (t : Bool) → eqb part.group g ≡ t → Fits room (since_start (of_group g past))
        → Fits room (since_start (cond t (part ∷ of_group g past) (of_group g past)))
    go true e h =
        let passes : cond (goes_on part.form) (passes_by (Some room) (joined (Some room) g past) part.bytes) false ≡ false =
        subst (λ n. cond (goes_on part.form) (passes_by (Some room) (joined (Some room) n past) part.bytes) false ≡ false)
        (eqb-true part.group g e) a.0 in
        fits-more room part (since_start (of_group g past)) h
        (subst (λ o. cond (goes_on part.form) (passes_by (Some room) (option_map bytes_of o) part.bytes) false ≡ false)
        (within-fits room (since_start (of_group g past)) h) passes)
        a.1
    go false e h = h

pub opened_in_room : (room g : ℕ) (past : List Part) → AreWithinRoom room past → opened (Some room) g past ≡ opened None g past
opened_in_room room g past a =
    within-fits room (since_start (of_group g past)) (since-fits room g past a) ∙ sym (within-none (since_start (of_group g past)))

pub ended_in_room : (room : ℕ) (past : List Part) (part : Part) → AreWithinRoom room past → passes_room (Some room) past part ≡ false
    → ended (Some room) past part ≡ ended None past part
ended_in_room room past part a p =
    let same : joined (Some room) part.group past ≡ joined None part.group past =
    ap (option_map bytes_of) (opened_in_room room part.group past a) in
    ap (λ o. ended_by (Some room) part.form o part.bytes) same
    ∙ go part.form (joined None part.group past)
    (subst (λ o. cond (goes_on part.form) (passes_by (Some room) o part.bytes) false ≡ false) same p)
  where
    fits-false : (t : Bool) → cond t false true ≡ false → t ≡ true
    fits-false true e = refl
    fits-false false e = cc

    go : (f : Form) (o : Option (List ℕ)) → cond (goes_on f) (passes_by (Some room) o part.bytes) false ≡ false
        → ended_by (Some room) f o part.bytes ≡ ended_by None f o part.bytes
    go form.Complete o e = refl
    go form.Start o e = refl
    go form.Continue o e = refl
    go form.End None e = refl
    go form.End (Some before) e = rw (fits-false (leb (length (before ++ part.bytes)) room) e)
