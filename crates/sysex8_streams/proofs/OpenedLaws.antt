-- What a stream has begun, by the places of its parts.
use Rattle.std.proofs.Common.{ℕ, ◌≡◌, ◌≤◌, ◌∙◌, ap, sym, refl, subst, List, [], ◌∷◌, ◌++◌, length, Option, Some}
use Rattle.std.proofs.Common.{None, is_some, Bool, true, false, arith, ◌==◌, inl, inr, nat_lt, length-append}
use Rattle.std.specs.List.{AllByRecursion}
use Rattle.std.specs.Option.{option_and_then}
use Rattle.std.proofs.lemmas.Bool.{cases_Bool, cond_both, cond-true, cond-false, eqb-true, eqb-false, eq-eqb, true≢false, le-leb, leb-true}
use Rattle.voice_messages.specs.declared.voice2.Form.{Form}
use Rattle.voice_messages.specs.declared.voice2.Form.TheVariants as form
use Rattle.sysex_groups.specs.Exclusives.{Part, of_group, bytes_of, fits, within, since_start, since_start_by}
use Rattle.sysex_groups.specs.Laws.{PartsOfOneGroup}
use Rattle.sysex8_streams.specs.History.{is_begun, begun_count, is_taken_by, is_taken, taken, opened8, IsOpenedBy}

-- what is within the limit
within-some : (room : ℕ) (o : Option (List Part)) (parts : List Part) → option_and_then (within (Some room)) o ≡ Some parts
    → (o ≡ Some parts) × (length (bytes_of parts) ≤ room)
within-some room None parts is = absurd cc
within-some room (Some own) parts is = elim (cases_Bool (fits (Some room) (length (bytes_of own)))) [
  | inl fitting ↦
      let same : Some own ≡ Some parts = sym (cond-true (fits (Some room) (length (bytes_of own))) (Some own) None fitting) ∙ is in
      let P : List Part → Type 0 = λ ps. length (bytes_of ps) ≤ room in
      let one : own ≡ parts = cc same in (same, subst P one (leb-true (length (bytes_of own)) room fitting))
  | inr passed ↦ absurd (none_some (sym (cond-false (fits (Some room) (length (bytes_of own))) (Some own) None passed) ∙ is))
]
  where
    none_some : None ≡ Some parts → ⊥
    none_some e = cc

some-within : (room : ℕ) (o : Option (List Part)) (parts : List Part) → o ≡ Some parts → length (bytes_of parts) ≤ room
    → option_and_then (within (Some room)) o ≡ Some parts
some-within room o parts is few =
    ap (option_and_then (within (Some room))) is
    ∙ cond-true (fits (Some room) (length (bytes_of parts))) (Some parts) None (le-leb (length (bytes_of parts)) room few)

-- fewer parts are within it
fewer-within : (groups : PartsOfOneGroup) (room : ℕ) (part : Part) (parts : List Part) → length (bytes_of (part ∷ parts)) ≤ room
    → length (bytes_of parts) ≤ room
fewer-within groups room part parts few = omega (arith, few, ap length (groups.bytes part parts), length-append (bytes_of parts) part.bytes)

refused-unbegun : (f : Form) (begun fewer : Bool) → is_taken_by f begun fewer ≡ false → begun ≡ false
refused-unbegun form.Start true fewer refused = absurd (true≢false refused)
refused-unbegun form.Start false fewer refused = refl
refused-unbegun form.Complete begun fewer refused = absurd (true≢false refused)
refused-unbegun form.Continue begun fewer refused = absurd (true≢false refused)
refused-unbegun form.End begun fewer refused = absurd (true≢false refused)

module _ (groups : PartsOfOneGroup) (slots room key : ℕ) where
  other_parts : (part : Part) (past : List Part) → (part.group == key) ≡ false → of_group key (part ∷ past) ≡ of_group key past
  other_parts part past other = groups.of_another key part past (eqb-false part.group key other)

  own_parts : (part : Part) (past : List Part) → (part.group == key) ≡ true → of_group key (part ∷ past) ≡ part ∷ of_group key past
  own_parts part past same = groups.of_its_own key part past (eqb-true part.group key same)

  abbrev own_taken : List Part → List Part
  own_taken past = of_group key (taken slots room past)

  -- a part of another stream changes nothing
  other-taken : (part : Part) (past : List Part) → (part.group == key) ≡ false → own_taken (part ∷ past) ≡ own_taken past
  other-taken part past other =
      let P : List Part → Type 0 = λ parts. of_group key parts ≡ own_taken past in
      cond_both (is_taken slots room (taken slots room past) part) (part ∷ taken slots room past) (taken slots room past) P
      (λ is. other_parts part (taken slots room past) other) (λ is. refl)

  -- a part of this one that is taken is the newest
  own-more : (part : Part) (past : List Part) → (part.group == key) ≡ true → is_taken slots room (taken slots room past) part ≡ true
      → own_taken (part ∷ past) ≡ part ∷ own_taken past
  own-more part past same accepted =
      ap (of_group key)
      (cond-true (is_taken slots room (taken slots room past) part) (part ∷ taken slots room past) (taken slots room past) accepted)
      ∙ own_parts part (taken slots room past) same

  opens-by : (start : Part) (before : List Part) → start.group ≡ key → start.form ≡ form.Start
      → is_taken slots room (taken slots room before) start ≡ true → (after : List Part)
      → AllByRecursion (λ part. part.group ≡ key → part.form ≡ form.Continue) after
      → length (bytes_of (of_group key after ++ start ∷ [])) ≤ room →
      opened8 slots room (after ++ start ∷ before) key ≡ Some (of_group key after ++ start ∷ [])
  opens-by start before of_key starts accepted [] continues few =
      some-within room (since_start (own_taken (start ∷ before))) (start ∷ [])
      (ap since_start (own-more start before (eq-eqb start.group key of_key) accepted)
      ∙ ap (λ f. since_start_by f start (since_start (own_taken before))) starts)
      few
  opens-by start before of_key starts accepted (part ∷ after) continues few =
      let rest : List Part = after ++ start ∷ before in
      let parts : List Part = of_group key after ++ start ∷ [] in
      elim (cases_Bool (part.group == key)) [
        | inl same ↦
            let goes_on : part.form ≡ form.Continue = continues.0 (eqb-true part.group key same) in
            let own : of_group key (part ∷ after) ++ start ∷ [] ≡ part ∷ parts = ap (λ ps. ps ++ start ∷ []) (own_parts part after same) in
            let few_own : length (bytes_of (part ∷ parts)) ≤ room =
            (let P : List Part → Type 0 = λ ps. length (bytes_of ps) ≤ room in subst P own few) in
            let older : opened8 slots room rest key ≡ Some parts =
            opens-by start before of_key starts accepted after continues.1 (fewer-within groups room part parts few_own) in
            let is_accepted : is_taken slots room (taken slots room rest) part ≡ true =
            ap (λ f. is_taken_by f (is_begun room (taken slots room rest) part.group)
            (nat_lt (begun_count room (taken slots room rest)) slots))
            goes_on in
            some-within room (since_start (own_taken (part ∷ rest))) (part ∷ parts)
            (ap since_start (own-more part rest same is_accepted)
            ∙ ap (λ f. since_start_by f part (since_start (own_taken rest))) goes_on
            ∙ ap (since_start_by form.Continue part) (within-some room (since_start (own_taken rest)) parts older).0)
            few_own
            ∙ ap Some (sym own)
        | inr other ↦
            let own : of_group key (part ∷ after) ++ start ∷ [] ≡ parts = ap (λ ps. ps ++ start ∷ []) (other_parts part after other) in
            let few_own : length (bytes_of parts) ≤ room =
            (let P : List Part → Type 0 = λ ps. length (bytes_of ps) ≤ room in subst P own few) in
            ap (λ ps. option_and_then (within (Some room)) (since_start ps)) (other-taken part rest other)
            ∙ opens-by start before of_key starts accepted after continues.1 few_own
            ∙ ap Some (sym own)
      ]

  opened-since : (past parts : List Part) → opened8 slots room past key ≡ Some parts → IsOpenedBy slots room past key parts
  opened-since [] parts is = absurd cc
  opened-since (part ∷ past) parts is =
      let older_taken : List Part = taken slots room past in
      elim (cases_Bool (part.group == key)) [
        | inl same ↦ elim (cases_Bool (is_taken slots room older_taken part)) [
          | inl accepted ↦ by_form part.form refl same accepted (λ ps e. opened-since past ps e)
              (within-some room (since_start_by part.form part (since_start (own_taken past))) parts
              (ap (λ ps. option_and_then (within (Some room)) (since_start ps)) (sym (own-more part past same accepted)) ∙ is))
          | inr refused ↦
              let unbegun : is_begun room older_taken part.group ≡ false =
              refused-unbegun part.form (is_begun room older_taken part.group) (nat_lt (begun_count room older_taken) slots) refused in
              let kept : taken slots room (part ∷ past) ≡ older_taken =
              cond-false (is_taken slots room older_taken part) (part ∷ older_taken) older_taken refused in
              let begun : opened8 slots room past key ≡ Some parts =
              ap (λ ps. option_and_then (within (Some room)) (since_start (of_group key ps))) (sym kept) ∙ is in
              absurd (true≢false (sym (ap is_some begun) ∙ ap (is_begun room older_taken) (sym (eqb-true part.group key same)) ∙ unbegun))
        ]
        | inr other ↦
            let older : IsOpenedBy slots room past key parts =
            opened-since past parts
            (ap (λ ps. option_and_then (within (Some room)) (since_start ps)) (sym (other-taken part past other)) ∙ is) in
            record {
              before = older.before;
              start = older.start;
              after = part ∷ older.after;
              split = ap (λ ps. part ∷ ps) older.split;
              of_key = older.of_key;
              starts = older.starts;
              accepted = older.accepted;
              continues = ((λ same. absurd (eqb-false part.group key other same)), older.continues);
              own = older.own ∙ ap (λ ps. ps ++ older.start ∷ []) (sym (other_parts part older.after other));
              within = older.within;
            }
      ]
    where
      by_form : (f : Form) → part.form ≡ f → (part.group == key) ≡ true → is_taken slots room (taken slots room past) part ≡ true
          → ((ps : List Part) → opened8 slots room past key ≡ Some ps → IsOpenedBy slots room past key ps) →
          (since_start_by f part (since_start (own_taken past)) ≡ Some parts) × (length (bytes_of parts) ≤ room)
          → IsOpenedBy slots room (part ∷ past) key parts
      by_form form.Start starts same accepted earlier (since, few) = record {
        before = past;
        start = part;
        after = [];
        split = refl;
        of_key = eqb-true part.group key same;
        starts = starts;
        accepted = accepted;
        continues = tt;
        own = cc since;
        within = few;
      }
      by_form form.Continue goes_on same accepted earlier (since, few) = continued (since_start (own_taken past)) refl since
        where
          continued : (o : Option (List Part)) → since_start (own_taken past) ≡ o → since_start_by form.Continue part o ≡ Some parts
              → IsOpenedBy slots room (part ∷ past) key parts
          continued None none is_some_parts = absurd cc
          continued (Some ps) some is_some_parts =
              let grown : part ∷ ps ≡ parts = cc is_some_parts in
              let P : List Part → Type 0 = λ qs. length (bytes_of qs) ≤ room in
              let fewer : length (bytes_of ps) ≤ room = fewer-within groups room part ps (subst P (sym grown) few) in
              let older : IsOpenedBy slots room past key ps = earlier ps (some-within room (since_start (own_taken past)) ps some fewer) in
              record {
                before = older.before;
                start = older.start;
                after = part ∷ older.after;
                split = ap (λ qs. part ∷ qs) older.split;
                of_key = older.of_key;
                starts = older.starts;
                accepted = older.accepted;
                continues = ((λ own. goes_on), older.continues);
                own =
                    sym grown ∙ ap (λ qs. part ∷ qs) older.own ∙ ap (λ qs. qs ++ older.start ∷ []) (sym (own_parts part older.after same));
                within = few;
              }
      by_form form.Complete completes same accepted earlier (since, few) = absurd cc
      by_form form.End ends same accepted earlier (since, few) = absurd cc

pub opens : (groups : PartsOfOneGroup) (slots room : ℕ) (past : List Part) (key : ℕ) (parts : List Part)
    → IsOpenedBy slots room past key parts → opened8 slots room past key ≡ Some parts
opens groups slots room past key parts by =
    let P : List Part → Type 0 = λ ps. length (bytes_of ps) ≤ room in
    ap (λ ps. opened8 slots room ps key) by.split
    ∙ opens-by groups slots room key by.start by.before by.of_key by.starts by.accepted by.after by.continues (subst P by.own by.within)
    ∙ ap Some (sym by.own)

pub opened-by : (groups : PartsOfOneGroup) (slots room : ℕ) (past : List Part) (key : ℕ) (parts : List Part)
    → opened8 slots room past key ≡ Some parts → IsOpenedBy slots room past key parts
opened-by groups slots room past key parts is = opened-since groups slots room key past parts is
