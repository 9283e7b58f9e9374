-- What one more part does to the text that is open, by the definition.
use Rattle.std.proofs.Common.{ℕ, ◌≡◌, ◌∙◌, ap, sym, refl, List, [], ◌∷◌, ◌++◌, length, reverse, Option, Some}
use Rattle.std.proofs.Common.{None, Bool, true, false, cond, arith, length-append, append-nil, leb, eqb}
use Rattle.std.proofs.lemmas.Bool.{lt-leb, leb-false}
use Rattle.std.proofs.lemmas.Grind.{flat_map-append, reverse_onto}
use Rattle.std.specs.List.{flat_map}
use Rattle.std.specs.Option.{option_map, option_and_then}
use Rattle.voice_messages.specs.declared.voice2.Form.{Form}
use Rattle.voice_messages.specs.declared.voice2.Form.TheVariants as form
use Rattle.system_stream.specs.declared.texts.TextKind.{TextKind}
use Rattle.system_stream.specs.Texts.{limit_of}
use Rattle.system_stream.specs.Parts.{Part, begins, ends, goes_on, parts_with, since_start, text_bytes, within, answer_from, answer_at}
use Rattle.system_stream.specs.Joining.{OpenText, joined_to, joined_with, limited, answer_of, text_answer}
use Rattle.system_stream.specs.Joining.{open_after, state_over, block_number, opened_text, text_with}

-- the bytes of one part, and of one more
text_bytes-one : (part : Part) → text_bytes (part ∷ []) ≡ part.bytes
text_bytes-one part = append-nil part.bytes

text_bytes-more : (part : Part) (parts : List Part) → text_bytes (part ∷ parts) ≡ text_bytes parts ++ part.bytes
text_bytes-more part parts =
    ap (flat_map (λ p. p.bytes)) (reverse_onto parts part [])
    ∙ flat_map-append (λ p. p.bytes) (reverse parts) (part ∷ [])
    ∙ ap (λ bs. text_bytes parts ++ bs) (append-nil part.bytes)

-- more bytes exceed a limit that fewer exceed
passes-more : (limit : ℕ) (before bytes : List ℕ) → leb (length before) limit ≡ false → leb (length (before ++ bytes)) limit ≡ false
passes-more limit before bytes passed =
    lt-leb (length (before ++ bytes)) limit (omega (arith, length-append before bytes, leb-false (length before) limit passed))

-- the parts of a text have its bytes
limited-within : (kind : TextKind) (parts : List Part) (bytes : List ℕ) → text_bytes parts ≡ bytes
    → option_map text_bytes (within kind parts) ≡ limited kind bytes
limited-within kind parts bytes is = go (leb (length (text_bytes parts)) (limit_of kind)) refl
  where
    go : (t : Bool) → leb (length (text_bytes parts)) (limit_of kind) ≡ t → option_map text_bytes (within kind parts) ≡ limited kind bytes
    go true fits = rw fits (ap Some is ∙ sym (rw (ap (λ bs. leb (length bs) (limit_of kind)) (sym is) ∙ fits) refl))
    go false passes = rw passes (sym (rw (ap (λ bs. leb (length bs) (limit_of kind)) (sym is) ∙ passes) refl))

abbrev text_of : List Part → OpenText
text_of parts = record { block = block_number parts; bytes = text_bytes parts }

-- a text that is open has a part
abbrev HasPart : Option (List Part) → Type 0
HasPart None = Unit {0}
HasPart (Some []) = ⊥
HasPart (Some (part ∷ parts)) = Unit {0}

goes_on-has_part : (part : Part) (parts : List Part) → HasPart (goes_on part parts)
goes_on-has_part part [] = tt
goes_on-has_part part (latest ∷ parts) = go (eqb latest.block part.block)
  where
    go : (t : Bool) → HasPart (cond t (Some (part ∷ latest ∷ parts)) None)
    go true = tt
    go false = tt

since_start-has_part : (past : List Part) → HasPart (since_start past)
since_start-has_part [] = tt
since_start-has_part (part ∷ past) = go part.form (since_start past)
  where
    continues : (before : Option (List Part)) → HasPart (option_and_then (goes_on part) before)
    continues None = tt
    continues (Some parts) = goes_on-has_part part parts

    go : (f : Form) (before : Option (List Part))
        → HasPart (cond (ends f) None (cond (begins f) (Some (part ∷ [])) (option_and_then (goes_on part) before)))
    go form.Complete before = tt
    go form.Start before = tt
    go form.Continue before = continues before
    go form.End before = tt

-- the bytes of the text that a part continues
continued : (kind : TextKind) (part : Part) (before : Option (List Part)) → HasPart before →
    option_map text_bytes (option_and_then (within kind) (option_and_then (goes_on part) before))
    ≡ option_and_then (limited kind) (joined_to (option_map text_of (option_and_then (within kind) before)) part.block part.bytes)
continued kind part None has = refl
continued kind part (Some []) has = absurd has
continued kind part (Some (latest ∷ parts)) has =
    go (eqb latest.block part.block) refl (leb (length (text_bytes (latest ∷ parts))) (limit_of kind)) refl
  where
    older : List Part
    older = latest ∷ parts

    go : (same : Bool) → eqb latest.block part.block ≡ same → (t : Bool) → leb (length (text_bytes older)) (limit_of kind) ≡ t →
        option_map text_bytes (option_and_then (within kind) (goes_on part older))
        ≡ option_and_then (limited kind) (joined_to (option_map text_of (within kind older)) part.block part.bytes)
    go true same true fits =
        rw (same, fits, same) (limited-within kind (part ∷ older) (text_bytes older ++ part.bytes) (text_bytes-more part older))
    go true same false passes =
        rw (same, passes)
        (limited-within kind (part ∷ older) (text_bytes older ++ part.bytes) (text_bytes-more part older)
        ∙ rw (passes-more (limit_of kind) (text_bytes older) part.bytes passes) refl)
    go false other true fits = rw (other, fits, other) refl
    go false other false passes = rw (other, passes) refl

-- the bytes of the text that a part belongs to
pub joined-bytes : (kind : TextKind) (past : List Part) (part : Part) →
    option_map text_bytes (option_and_then (within kind) (parts_with part (since_start past)))
    ≡ option_and_then (limited kind) (joined_with (opened_text kind past) part)
joined-bytes kind past part = go (begins part.form)
  where
    go : (t : Bool) →
        option_map text_bytes
        (option_and_then (within kind) (cond t (Some (part ∷ [])) (option_and_then (goes_on part) (since_start past))))
        ≡ option_and_then (limited kind) (cond t (Some part.bytes) (joined_to (opened_text kind past) part.block part.bytes))
    go true = limited-within kind (part ∷ []) part.bytes (text_bytes-one part)
    go false = continued kind part (since_start past) (since_start-has_part past)

-- the text that a part belongs to names the part's block
text-joined : (kind : TextKind) (past : List Part) (part : Part) →
    option_map text_of (option_and_then (within kind) (parts_with part (since_start past)))
    ≡ option_map (λ bytes. record { block = part.block; bytes = bytes })
    (option_map text_bytes (option_and_then (within kind) (parts_with part (since_start past))))
text-joined kind past part = go (begins part.form) (since_start past)
  where
    Named : Option (List Part) → Type 0
    Named o = option_map text_of o ≡ option_map (λ bytes. record { block = part.block; bytes = bytes }) (option_map text_bytes o)

    limits : (parts : List Part) (t : Bool)
        → option_map text_of (cond t (Some (part ∷ parts)) None)
        ≡ option_map (λ bytes. record { block = part.block; bytes = bytes }) (option_map text_bytes (cond t (Some (part ∷ parts)) None))
    limits parts true = refl
    limits parts false = refl

    goes : (latest : Part) (parts : List Part) (t : Bool) →
        option_map text_of (option_and_then (within kind) (cond t (Some (part ∷ latest ∷ parts)) None))
        ≡ option_map (λ bytes. record { block = part.block; bytes = bytes })
        (option_map text_bytes (option_and_then (within kind) (cond t (Some (part ∷ latest ∷ parts)) None)))
    goes latest parts true = limits (latest ∷ parts) (leb (length (text_bytes (part ∷ latest ∷ parts))) (limit_of kind))
    goes latest parts false = refl

    go : (t : Bool) (before : Option (List Part)) →
        option_map text_of (option_and_then (within kind) (cond t (Some (part ∷ [])) (option_and_then (goes_on part) before)))
        ≡ option_map (λ bytes. record { block = part.block; bytes = bytes })
        (option_map text_bytes (option_and_then (within kind) (cond t (Some (part ∷ [])) (option_and_then (goes_on part) before))))
    go true before = limits [] (leb (length (text_bytes (part ∷ []))) (limit_of kind))
    go false None = refl
    go false (Some []) = refl
    go false (Some (latest ∷ parts)) = goes latest parts (eqb latest.block part.block)

-- which text is open after one more part
pub opened-more : (kind : TextKind) (past : List Part) (part : Part) →
    opened_text kind (part ∷ past) ≡ open_after part (option_and_then (limited kind) (joined_with (opened_text kind past) part))
opened-more kind past part = go (ends part.form)
  where
    go : (t : Bool) →
        option_map text_of (option_and_then (within kind) (cond t None (parts_with part (since_start past))))
        ≡ cond t None (option_map (λ bytes. record { block = part.block; bytes = bytes })
        (option_and_then (limited kind) (joined_with (opened_text kind past) part)))
    go true = refl
    go false =
        text-joined kind past part ∙ ap (option_map (λ bytes. record { block = part.block; bytes = bytes })) (joined-bytes kind past part)

-- the answer to one more part
pub answer-more : (kind : TextKind) (past : List Part) (part : Part) →
    answer_at kind past part ≡ answer_of kind part.form (option_and_then (limited kind) (joined_with (opened_text kind past) part))
answer-more kind past part =
    go (option_and_then (within kind) (parts_with part (since_start past))) ∙ ap (answer_of kind part.form) (joined-bytes kind past part)
  where
    go : (o : Option (List Part)) → answer_from kind part.form o ≡ answer_of kind part.form (option_map text_bytes o)
    go None = refl
    go (Some parts) = refl

-- folding the step over any parts is the definition
state-kind : (kind : TextKind) (past : List Part) → (state_over kind past).kind ≡ kind
state-kind kind [] = refl
state-kind kind (part ∷ past) = state-kind kind past

joined-state : (kind : TextKind) (past : List Part) (part : Part) → (state_over kind past).text ≡ opened_text kind past →
    text_with (state_over kind past) part ≡ option_and_then (limited kind) (joined_with (opened_text kind past) part)
joined-state kind past part is =
    ap (λ k. option_and_then (limited k) (joined_with (state_over kind past).text part)) (state-kind kind past)
    ∙ ap (λ text. option_and_then (limited kind) (joined_with text part)) is

pub state-text : (kind : TextKind) (past : List Part) → (state_over kind past).text ≡ opened_text kind past
state-text kind [] = refl
state-text kind (part ∷ past) = ap (open_after part) (joined-state kind past part (state-text kind past)) ∙ sym (opened-more kind past part)

pub state-answers : (kind : TextKind) (past : List Part) (part : Part) → text_answer (state_over kind past) part ≡ answer_at kind past part
state-answers kind past part =
    ap (λ k. answer_of k part.form (text_with (state_over kind past) part)) (state-kind kind past)
    ∙ ap (answer_of kind part.form) (joined-state kind past part (state-text kind past))
    ∙ sym (answer-more kind past part)
