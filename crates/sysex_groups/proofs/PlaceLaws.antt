-- What a group has open, by the places of its parts.
use Rattle.std.proofs.Common.{ℕ, ◌≡◌, ◌∙◌, ap, sym, refl, List, [], ◌∷◌, ◌++◌, length, Option, Some, None, true, ◌==◌, inl, inr}
use Rattle.std.specs.List.{AllByRecursion}
use Rattle.std.specs.Option.{option_and_then}
use Rattle.std.proofs.lemmas.Bool.{cases_Bool, cond-true, cond-false, eqb-true, eqb-false, eq-eqb}
use Rattle.voice_messages.specs.declared.voice2.Form.{Form}
use Rattle.voice_messages.specs.declared.voice2.Form.TheVariants as form
use Rattle.sysex_groups.specs.Exclusives.{Part, Room, IsOpenedBy, of_group, bytes_of, fits, opened, within, since_start, since_start_by}
use Rattle.sysex_groups.proofs.ExclusiveLaws.{of_other_group, of_own_group}

-- what is within the limit
within-some : (room : Room) (o : Option (List Part)) (parts : List Part) → option_and_then (within room) o ≡ Some parts
    → (o ≡ Some parts) × (fits room (length (bytes_of parts)) ≡ true)
within-some room None parts is = absurd cc
within-some room (Some own) parts is = elim (cases_Bool (fits room (length (bytes_of own)))) [
  | inl fitting ↦
      let same : Some own ≡ Some parts = sym (cond-true (fits room (length (bytes_of own))) (Some own) None fitting) ∙ is in
      let one : own ≡ parts = cc same in
      (same, ap (λ ps. fits room (length (bytes_of ps))) (sym one) ∙ fitting)
  | inr passed ↦ absurd (none_some (sym (cond-false (fits room (length (bytes_of own))) (Some own) None passed) ∙ is))
]
  where
    none_some : None ≡ Some parts → ⊥
    none_some e = cc

-- a Start, and only Continues since then
since-by : (group : ℕ) (start : Part) (before : List Part) → (start.group == group) ≡ true → start.form ≡ form.Start → (after : List Part)
    → AllByRecursion (λ part. part.group ≡ group → part.form ≡ form.Continue) after
    → since_start (of_group group (after ++ start ∷ before)) ≡ Some (of_group group after ++ start ∷ [])
since-by group start before own starts [] continues =
    ap since_start (of_own_group group start before own) ∙ ap (λ f. since_start_by f start (since_start (of_group group before))) starts
since-by group start before own starts (part ∷ after) continues =
    let rest : List Part = after ++ start ∷ before in
    let older = since-by group start before own starts after continues.1 in
    elim (cases_Bool (part.group == group)) [
      | inl same ↦
          ap since_start (of_own_group group part rest same)
          ∙ ap (λ f. since_start_by f part (since_start (of_group group rest))) (continues.0 (eqb-true part.group group same))
          ∙ ap (since_start_by form.Continue part) older
          ∙ ap (λ ps. Some (ps ++ start ∷ [])) (sym (of_own_group group part after same))
      | inr other ↦
          ap since_start (of_other_group group part rest other)
          ∙ older
          ∙ ap (λ ps. Some (ps ++ start ∷ [])) (sym (of_other_group group part after other))
    ]

pub opens_by : (room : Room) (group : ℕ) (past parts : List Part) → IsOpenedBy room group past parts → opened room group past ≡ Some parts
opens_by room group past parts by =
    ap (λ ps. option_and_then (within room) (since_start (of_group group ps))) by.split
    ∙ ap (option_and_then (within room))
    (since-by group by.start by.before (eq-eqb by.start.group group by.own_start) by.starts by.after by.continues)
    ∙ ap (within room) (sym by.own)
    ∙ cond-true (fits room (length (bytes_of parts))) (Some parts) None by.within

-- the parts since a Start have these places
since-places : (group : ℕ) (past parts : List Part) → since_start (of_group group past) ≡ Some parts → IsOpenedBy None group past parts
since-places group [] parts is = absurd cc
since-places group (part ∷ past) parts is = elim (cases_Bool (part.group == group)) [
  | inl same ↦
      by_form part.form refl same (λ ps e. since-places group past ps e) (ap since_start (sym (of_own_group group part past same)) ∙ is)
  | inr other ↦
      let older : IsOpenedBy None group past parts =
      since-places group past parts (ap since_start (sym (of_other_group group part past other)) ∙ is) in
      record {
        before = older.before;
        start = older.start;
        after = part ∷ older.after;
        split = ap (λ ps. part ∷ ps) older.split;
        own_start = older.own_start;
        starts = older.starts;
        continues = ((λ same. absurd (eqb-false part.group group other same)), older.continues);
        own = older.own ∙ ap (λ ps. ps ++ older.start ∷ []) (sym (of_other_group group part older.after other));
        within = refl;
      }
]
  where
    by_form : (f : Form) → part.form ≡ f → (part.group == group) ≡ true
        → ((ps : List Part) → since_start (of_group group past) ≡ Some ps → IsOpenedBy None group past ps)
        → since_start_by f part (since_start (of_group group past)) ≡ Some parts → IsOpenedBy None group (part ∷ past) parts
    by_form form.Start starts same earlier since = record {
      before = past;
      start = part;
      after = [];
      split = refl;
      own_start = eqb-true part.group group same;
      starts = starts;
      continues = tt;
      own = cc since;
      within = refl;
    }
    by_form form.Continue goes_on same earlier since = continued (since_start (of_group group past)) refl since
      where
        continued : (o : Option (List Part)) → since_start (of_group group past) ≡ o → since_start_by form.Continue part o ≡ Some parts
            → IsOpenedBy None group (part ∷ past) parts
        continued None none is_some = absurd cc
        continued (Some ps) some is_some =
            let grown : part ∷ ps ≡ parts = cc is_some in
            let older : IsOpenedBy None group past ps = earlier ps some in
            record {
              before = older.before;
              start = older.start;
              after = part ∷ older.after;
              split = ap (λ qs. part ∷ qs) older.split;
              own_start = older.own_start;
              starts = older.starts;
              continues = ((λ own. goes_on), older.continues);
              own =
                  sym grown
                  ∙ ap (λ qs. part ∷ qs) older.own
                  ∙ ap (λ qs. qs ++ older.start ∷ []) (sym (of_own_group group part older.after same));
              within = refl;
            }
    by_form form.Complete completes same earlier since = absurd cc
    by_form form.End ends same earlier since = absurd cc

pub is_opened_by : (room : Room) (group : ℕ) (past parts : List Part) → opened room group past ≡ Some parts
    → IsOpenedBy room group past parts
is_opened_by room group past parts is =
    let both = within-some room (since_start (of_group group past)) parts is in
    let run : IsOpenedBy None group past parts = since-places group past parts both.0 in
    record {
      before = run.before;
      start = run.start;
      after = run.after;
      split = run.split;
      own_start = run.own_start;
      starts = run.starts;
      continues = run.continues;
      own = run.own;
      within = both.1;
    }
