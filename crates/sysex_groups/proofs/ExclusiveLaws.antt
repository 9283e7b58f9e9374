-- What one more part does to the exclusives of the groups, by the definition.
use Rattle.std.proofs.Common.{ℕ, ◌≡◌, ◌<◌, ◌∙◌, subst, ap, sym, refl, List, [], ◌∷◌, ◌++◌, length, reverse}
use Rattle.std.proofs.Common.{Option, Some, None, Bool, true, false, cond, arith, length-append, append-nil, ◌==◌}
use Rattle.std.proofs.lemmas.Bool.{lt-leb, leb-false, cond_both, true≢false}
use Rattle.std.proofs.lemmas.Grind.{flat_map-append, reverse_onto}
use Rattle.std.specs.List.{flat_map, AllByRecursion}
use Rattle.std.specs.Prelude.{IfSome}
use Rattle.std.proofs.lemmas.List.Elements.{All-nil, All-append}
use Rattle.std.specs.Option.{option_map, option_and_then}
use Rattle.voice_messages.specs.declared.voice2.Form.{Form}
use Rattle.voice_messages.specs.declared.voice2.Form.TheVariants as form
use Rattle.sysex_groups.specs.Exclusives.{Part, Room, of_group, since_start, since_start_by}
use Rattle.sysex_groups.specs.Exclusives.{bytes_of, start_of, fits, within, opened, joined, IsData}
use Rattle.sysex_groups.specs.Table.{Begun, begun_after, begun_of, begun_over}

-- a part of another group changes nothing
pub of_other_group : (group : ℕ) (part : Part) (past : List Part) → (part.group == group) ≡ false
    → of_group group (part ∷ past) ≡ of_group group past
of_other_group group part past other = rw other refl

pub of_own_group : (group : ℕ) (part : Part) (past : List Part) → (part.group == group) ≡ true
    → of_group group (part ∷ past) ≡ part ∷ of_group group past
of_own_group group part past own = rw own refl

pub opened-other : (room : Room) (group : ℕ) (part : Part) (past : List Part) → (part.group == group) ≡ false
    → opened room group (part ∷ past) ≡ opened room group past
opened-other room group part past other =
    ap (λ parts. option_and_then (within room) (since_start parts)) (of_other_group group part past other)

pub joined-other : (room : Room) (group : ℕ) (part : Part) (past : List Part) → (part.group == group) ≡ false
    → joined room group (part ∷ past) ≡ joined room group past
joined-other room group part past other = ap (option_map bytes_of) (opened-other room group part past other)

-- the bytes of one part, and of one more
pub bytes_of-one : (part : Part) → bytes_of (part ∷ []) ≡ part.bytes
bytes_of-one part = append-nil part.bytes

pub bytes_of-more : (part : Part) (parts : List Part) → bytes_of (part ∷ parts) ≡ bytes_of parts ++ part.bytes
bytes_of-more part parts =
    ap (flat_map (λ p. p.bytes)) (reverse_onto parts part [])
    ∙ flat_map-append (λ p. p.bytes) (reverse parts) (part ∷ [])
    ∙ ap (λ bs. bytes_of parts ++ bs) (append-nil part.bytes)

-- more bytes don't fit if fewer don't
pub fits-more : (room : Room) (before bytes : List ℕ) → fits room (length before) ≡ false → fits room (length (before ++ bytes)) ≡ false
fits-more None before bytes passed = absurd (true≢false passed)
fits-more (Some room) before bytes passed =
    lt-leb (length (before ++ bytes)) room (omega (arith, length-append before bytes, leb-false (length before) room passed))

-- what one group has open, by its own parts alone
abbrev pub begun_on : Room → List Part → Option Begun
begun_on room own = option_map begun_of (option_and_then (within room) (since_start own))

-- an exclusive that is open has a part
abbrev pub HasPart : Option (List Part) → Type 0
HasPart None = Unit {0}
HasPart (Some []) = ⊥
HasPart (Some (part ∷ parts)) = Unit {0}

since_start-has_part : (own : List Part) → HasPart (since_start own)
since_start-has_part [] = tt
since_start-has_part (part ∷ past) = go part.form (since_start past)
  where
    go : (f : Form) (before : Option (List Part)) → HasPart (since_start_by f part before)
    go form.Start before = tt
    go form.Continue None = tt
    go form.Continue (Some parts) = tt
    go form.Complete before = tt
    go form.End before = tt

-- a Continue after parts that leave an exclusive open
continued : (room : Room) (more older : List Part) (bytes : List ℕ) (offset : ℕ) → bytes_of more ≡ bytes_of older ++ bytes
    → start_of more ≡ start_of older →
    option_map begun_of (within room more) ≡ begun_after room (option_map begun_of (within room older)) form.Continue bytes offset
continued room more older bytes offset joins starts =
    ap (λ bs. option_map begun_of (cond (fits room (length bs)) (Some more) None)) joins
    ∙ go (fits room (length (bytes_of older))) refl (fits room (length (bytes_of older ++ bytes))) refl
  where
    go : (t : Bool) → fits room (length (bytes_of older)) ≡ t → (u : Bool) → fits room (length (bytes_of older ++ bytes)) ≡ u →
        option_map begun_of (cond (fits room (length (bytes_of older ++ bytes))) (Some more) None)
        ≡ begun_after room (option_map begun_of (cond t (Some older) None)) form.Continue bytes offset
    go true e true f = rw f (λ i. Some (record { start = starts i; bytes = joins i }))
    go true e false f = rw f refl
    go false e u f = rw (fits-more room (bytes_of older) bytes e) refl

-- one more part of the group
pub begun_on-more : (room : Room) (part : Part) (past : List Part) → fits room (length part.bytes) ≡ true
    → begun_on room (part ∷ past) ≡ begun_after room (begun_on room past) part.form part.bytes part.offset
begun_on-more room part past room_for = go part.form
  where
    grows : (before : Option (List Part)) → HasPart before →
        option_map begun_of (option_and_then (within room) (since_start_by form.Continue part before))
        ≡ begun_after room (option_map begun_of (option_and_then (within room) before)) form.Continue part.bytes part.offset
    grows None has = refl
    grows (Some []) has = absurd has
    grows (Some (first ∷ parts)) has =
        continued room (part ∷ first ∷ parts) (first ∷ parts) part.bytes part.offset (bytes_of-more part (first ∷ parts)) refl

    go : (f : Form)
        → option_map begun_of (option_and_then (within room) (since_start_by f part (since_start past)))
        ≡ begun_after room (begun_on room past) f part.bytes part.offset
    go form.Start =
        ap (λ bs. option_map begun_of (cond (fits room (length bs)) (Some (part ∷ [])) None)) (bytes_of-one part)
        ∙ rw room_for (λ i. Some (record { start = part.offset; bytes = bytes_of-one part i }))
    go form.Continue = grows (since_start past) (since_start-has_part past)
    go form.Complete = refl
    go form.End = refl

pub begun_over-own : (room : Room) (part : Part) (group : ℕ) (past : List Part) → (part.group == group) ≡ true
    → fits room (length part.bytes) ≡ true →
    begun_over room group (part ∷ past) ≡ begun_after room (begun_over room group past) part.form part.bytes part.offset
begun_over-own room part group past own room_for =
    ap (begun_on room) (of_own_group group part past own) ∙ begun_on-more room part (of_group group past) room_for

-- the bytes alone
pub joined-begun : (room : Room) (group : ℕ) (past : List Part)
    → joined room group past ≡ option_map (λ begun. begun.bytes) (begun_over room group past)
joined-begun room group past = go (opened room group past)
  where
    go : (o : Option (List Part)) → option_map bytes_of o ≡ option_map (λ begun. begun.bytes) (option_map begun_of o)
    go None = refl
    go (Some parts) = refl

-- What is joined after one more part of the group, if the limit isn't reached.
abbrev pub joined_with : Form → Option (List ℕ) → List ℕ → Option (List ℕ)
joined_with form.Start before bytes = Some bytes
joined_with form.Continue before bytes = option_map (λ joined. joined ++ bytes) before
joined_with form.Complete before bytes = None
joined_with form.End before bytes = None

pub joined-own : (part : Part) (group : ℕ) (past : List Part) → (part.group == group) ≡ true
    → joined None group (part ∷ past) ≡ joined_with part.form (joined None group past) part.bytes
joined-own part group past own =
    joined-begun None group (part ∷ past)
    ∙ ap (option_map (λ begun. begun.bytes)) (begun_over-own None part group past own refl)
    ∙ go part.form (begun_over None group past)
    ∙ ap (λ before. joined_with part.form before part.bytes) (sym (joined-begun None group past))
  where
    go : (f : Form) (o : Option Begun)
        → option_map (λ begun. begun.bytes) (begun_after None o f part.bytes part.offset)
        ≡ joined_with f (option_map (λ begun. begun.bytes) o) part.bytes
    go form.Start o = refl
    go form.Continue None = refl
    go form.Continue (Some begun) = refl
    go form.Complete None = refl
    go form.Complete (Some begun) = refl
    go form.End None = refl
    go form.End (Some begun) = refl

-- what is joined from data bytes is data bytes
abbrev pub AreData : List Part → Type 0
AreData parts = AllByRecursion (λ part. IsData part.bytes) parts

bytes_of-data : (parts : List Part) → AreData parts → IsData (bytes_of parts)
bytes_of-data [] each = All-nil (λ byte. byte < 128)
bytes_of-data (part ∷ parts) each =
    let P : List ℕ → Type 0 = IsData in
    subst P (sym (bytes_of-more part parts))
    (All-append (λ byte. byte < 128) (bytes_of parts) part.bytes (bytes_of-data parts each.1) each.0)

of_group-data : (group : ℕ) (past : List Part) → AreData past → AreData (of_group group past)
of_group-data group [] each = tt
of_group-data group (part ∷ past) each =
    cond_both (part.group == group) (part ∷ of_group group past) (of_group group past) AreData
    (λ same. (each.0, of_group-data group past each.1)) (λ other. of_group-data group past each.1)

since_start-data : (own : List Part) → AreData own → IfSome (since_start own) AreData
since_start-data [] each = tt
since_start-data (part ∷ past) each = go part.form (since_start past) (since_start-data past each.1)
  where
    go : (f : Form) (before : Option (List Part)) → IfSome before AreData → IfSome (since_start_by f part before) AreData
    go form.Start before older = (each.0, tt)
    go form.Continue None older = tt
    go form.Continue (Some parts) older = (each.0, older)
    go form.Complete before older = tt
    go form.End before older = tt

pub joined-data : (room : Room) (group : ℕ) (past : List Part) → AreData past → IfSome (joined room group past) IsData
joined-data room group past each =
    go (since_start (of_group group past)) (since_start-data (of_group group past) (of_group-data group past each))
  where
    go : (o : Option (List Part)) → IfSome o AreData → IfSome (option_map bytes_of (option_and_then (within room) o)) IsData
    go None parts = tt
    go (Some own) parts =
        let P : Option (List Part) → Type 0 = λ o. IfSome (option_map bytes_of o) IsData in
        cond_both (fits room (length (bytes_of own))) (Some own) None P (λ e. bytes_of-data own parts) (λ e. tt)
