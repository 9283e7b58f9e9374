-- Each stream has one cutting, however it is cut.
use Rattle.std.proofs.Common.{◌≡◌, ◌+◌, ◌-◌, ◌<◌, ◌≤◌, ℕ, zero, suc, List, [], ◌∷◌, ◌++◌}
use Rattle.std.proofs.Common.{length, take, drop, refl, ap, sym, ◌∙◌, arith, subst, inl, inr}
use Rattle.std.specs.List.{concat, AllByRecursion}
use Rattle.std.proofs.lemmas.List.{append_assoc, take_at, drop_at, take-append-drop}
use Rattle.std.proofs.lemmas.List.{length-append, length-take-le, length-drop, nil_from_length}
use Rattle.std.proofs.lemmas.Bool.{cases_lt, cases_eq}
use Rattle.std.proofs.Math.Seq.{take-append-add}
use Rattle.item_reader.specs.Cut.{CutsFrom, IsItem, IsLength, IsRest, Ends}
use Rattle.item_reader.specs.CutLaws.{CutsStreams}
use Rattle.item_reader.specs.declared.cutting.Tail.{Tail}
use Rattle.item_reader.specs.declared.cutting.Tail.TheVariants.{End, Truncated, TooLong}

take-append-past : (xs ys : List ℕ) (n : ℕ) → length xs ≤ n → take n (xs ++ ys) ≡ xs ++ take (n - length xs) ys
take-append-past xs ys n fits =
    let e : n ≡ length xs + (n - length xs) = omega arith in
    ap (λ k. take k (xs ++ ys)) e ∙ take-append-add xs ys (n - length xs)

concat-length : (chunk : List ℕ) (chunks : List (List ℕ)) (at : ℕ)
    → at + length (concat (chunk ∷ chunks)) ≡ at + length chunk + length (concat chunks)
concat-length chunk chunks at = omega (arith, length-append chunk (concat chunks))

module _ (asked : List ℕ → ℕ) (lengths : IsLength asked) where
  pub item_size : (bytes : List ℕ) → IsItem asked bytes → lengths.head ≤ length bytes
  item_size bytes item = omega (arith, lengths.least bytes, item)

  pub item_some : (bytes : List ℕ) → IsItem asked bytes → 0 < length bytes
  item_some bytes item = omega (arith, lengths.some, item_size bytes item)

  -- no item is at the front of a rest
  item_or_rest : (chunk more : List ℕ) → IsItem asked chunk → IsRest asked (chunk ++ more) → ⊥
  item_or_rest chunk more item rest =
      let same : asked (chunk ++ more) ≡ asked chunk = lengths.told chunk more (item_size chunk item) in
      omega (arith, length-append chunk more, item, rest, same)

  -- two items at one front are one
  one_front : (c d x y : List ℕ) → IsItem asked c → IsItem asked d → c ++ x ≡ d ++ y → (c ≡ d) × (x ≡ y)
  one_front c d x y is_c is_d same =
      let len : length c ≡ length d =
      is_c ∙ sym (lengths.told c x (item_size c is_c)) ∙ ap asked same ∙ lengths.told d y (item_size d is_d) ∙ sym is_d in (
        sym (take_at c x (length c) refl) ∙ ap (take (length c)) same ∙ take_at d y (length c) (sym len),
        sym (drop_at c x (length c) refl) ∙ ap (drop (length c)) same ∙ drop_at d y (length c) (sym len),
      )

  -- after a tail's offset there is no item within the limit
  item_or_ends : (limit at : ℕ) (chunk more : List ℕ) (tail : Tail) → IsItem asked chunk → at + length chunk ≤ limit
      → Ends asked limit at (chunk ++ more) tail → ⊥
  item_or_ends limit at chunk more End item within ends =
      omega (arith, item_some chunk item, length-append chunk more, ap length ends.0)
  item_or_ends limit at chunk more (Truncated o) item within ends = item_or_rest chunk more item ends.2
  item_or_ends limit at chunk more TooLong item within ends =
      let room : length chunk ≤ limit - at = omega arith in
      let P : List ℕ → Type 0 = λ xs. IsRest asked xs in
      item_or_rest chunk (take (limit - at - length chunk) more) item
      (subst P (take-append-past chunk more (limit - at) room) ends.2)

  pub within-ends : (limit at : ℕ) (rest : List ℕ) (tail : Tail) → Ends asked limit at rest tail → at ≤ limit
  within-ends limit at rest End ends = ends.1
  within-ends limit at rest (Truncated o) ends = omega (arith, ends.3)
  within-ends limit at rest TooLong ends = ends.0

  one_tail : (limit at : ℕ) (rest : List ℕ) (t u : Tail) → Ends asked limit at rest t → Ends asked limit at rest u → t ≡ u
  one_tail limit at rest End End s t = refl
  one_tail limit at rest End (Truncated o) s t = absurd (omega (arith, ap length s.0, t.1))
  one_tail limit at rest End TooLong s t = absurd (omega (arith, ap length s.0, t.1, t.0))
  one_tail limit at rest (Truncated o) End s t = absurd (omega (arith, ap length t.0, s.1))
  one_tail limit at rest (Truncated o) (Truncated p) s t = ap Truncated (s.0 ∙ sym t.0)
  one_tail limit at rest (Truncated o) TooLong s t = absurd (omega (arith, s.3, t.1))
  one_tail limit at rest TooLong End s t = absurd (omega (arith, ap length t.0, s.1, s.0))
  one_tail limit at rest TooLong (Truncated p) s t = absurd (omega (arith, t.3, s.1))
  one_tail limit at rest TooLong TooLong s t = refl

  -- an item at the front of what is cut is its first item
  pub one_cutting_from : (limit at : ℕ) (bytes : List ℕ) (cs ds : List (List ℕ)) (t u : Tail)
      → CutsFrom asked limit at bytes cs t → CutsFrom asked limit at bytes ds u → (cs ≡ ds) × (t ≡ u)
  one_cutting_from limit at bytes [] [] t u p q =
      let same : p.rest ≡ q.rest = sym p.whole ∙ q.whole in
      let P : List ℕ → Type 0 = λ xs. Ends asked limit (at + 0) xs t in
      (refl, one_tail limit (at + 0) q.rest t u (subst P same p.ends) q.ends)
  one_cutting_from limit at bytes [] (d ∷ ds) t u p q =
      let same : p.rest ≡ d ++ (concat ds ++ q.rest) = sym p.whole ∙ q.whole ∙ append_assoc d (concat ds) q.rest in
      let P : List ℕ → Type 0 = λ xs. Ends asked limit (at + 0) xs t in
      absurd (item_or_ends limit (at + 0) d (concat ds ++ q.rest) t q.each.0
      (omega (arith, within-ends limit _ q.rest u q.ends, length-append d (concat ds))) (subst P same p.ends))
  one_cutting_from limit at bytes (c ∷ cs) [] t u p q =
      let same : q.rest ≡ c ++ (concat cs ++ p.rest) = sym q.whole ∙ p.whole ∙ append_assoc c (concat cs) p.rest in
      let P : List ℕ → Type 0 = λ xs. Ends asked limit (at + 0) xs u in
      absurd (item_or_ends limit (at + 0) c (concat cs ++ p.rest) u p.each.0
      (omega (arith, within-ends limit _ p.rest t p.ends, length-append c (concat cs))) (subst P same q.ends))
  one_cutting_from limit at bytes (c ∷ cs) (d ∷ ds) t u p q =
      let parts : c ++ (concat cs ++ p.rest) ≡ d ++ (concat ds ++ q.rest) =
      sym (append_assoc c (concat cs) p.rest) ∙ sym p.whole ∙ q.whole ∙ append_assoc d (concat ds) q.rest in
      let front = one_front c d (concat cs ++ p.rest) (concat ds ++ q.rest) p.each.0 q.each.0 parts in
      let E : ℕ → Type 0 = λ n. Ends asked limit n p.rest t in
      let F : ℕ → Type 0 = λ n. Ends asked limit n q.rest u in
      let len : length c ≡ length d = ap length front.0 in
      let rest = one_cutting_from limit (at + length c) (concat cs ++ p.rest) cs ds t u
      (record { rest = p.rest; whole = refl; each = p.each.1; ends = subst E (concat-length c cs at) p.ends })
      (record {
        rest = q.rest;
        whole = front.1;
        each = q.each.1;
        ends = subst F (concat-length d ds at ∙ ap (λ n. at + n + length (concat ds)) (sym len)) q.ends;
      }) in
      (cc, rest.1)

  -- what is at the front of a stream is cut as the stream begins
  front_cutting : (limit at : ℕ) (front more : List ℕ) (cs ds : List (List ℕ)) (t : Tail)
      → CutsFrom asked limit at (front ++ more) cs t → CutsFrom asked limit at front ds End → (rest : List (List ℕ)) × (cs ≡ ds ++ rest)
  front_cutting limit at front more cs [] t p q = (cs, refl)
  front_cutting limit at front more [] (d ∷ ds) t p q =
      let same : p.rest ≡ d ++ (concat ds ++ (q.rest ++ more)) =
      sym p.whole
      ∙ ap (λ xs. xs ++ more) q.whole
      ∙ append_assoc (d ++ concat ds) q.rest more
      ∙ append_assoc d (concat ds) (q.rest ++ more) in
      let P : List ℕ → Type 0 = λ xs. Ends asked limit (at + 0) xs t in
      absurd (item_or_ends limit (at + 0) d (concat ds ++ (q.rest ++ more)) t q.each.0
      (omega (arith, within-ends limit _ q.rest End q.ends, length-append d (concat ds))) (subst P same p.ends))
  front_cutting limit at front more (c ∷ cs) (d ∷ ds) t p q =
      let parts : c ++ (concat cs ++ p.rest) ≡ d ++ (concat ds ++ (q.rest ++ more)) =
      sym (append_assoc c (concat cs) p.rest)
      ∙ sym p.whole
      ∙ ap (λ xs. xs ++ more) q.whole
      ∙ append_assoc (d ++ concat ds) q.rest more
      ∙ append_assoc d (concat ds) (q.rest ++ more) in
      let first = one_front c d (concat cs ++ p.rest) (concat ds ++ (q.rest ++ more)) p.each.0 q.each.0 parts in
      let E : ℕ → Type 0 = λ n. Ends asked limit n p.rest t in
      let F : ℕ → Type 0 = λ n. Ends asked limit n q.rest End in
      let len : length c ≡ length d = ap length first.0 in
      let rest = front_cutting limit (at + length c) (concat ds ++ q.rest) more cs ds t
      (record {
        rest = p.rest;
        whole = append_assoc (concat ds) q.rest more ∙ sym first.1;
        each = p.each.1;
        ends = subst E (concat-length c cs at) p.ends;
      })
      (record {
        rest = q.rest;
        whole = refl;
        each = q.each.1;
        ends = subst F (concat-length d ds at ∙ ap (λ n. at + n + length (concat ds)) (sym len)) q.ends;
      }) in
      (rest.0, ap (λ x. x ∷ cs) first.0 ∙ ap (λ xs. d ∷ xs) rest.1)

  -- what follows items is cut in turn
  pub cuts_behind : (limit at : ℕ) (bytes : List ℕ) (cs ds : List (List ℕ)) (more : List ℕ) (tail : Tail)
      → bytes ≡ concat cs ++ more → AllByRecursion (IsItem asked) cs → CutsFrom asked limit (at + length (concat cs)) more ds tail
      → CutsFrom asked limit at bytes (cs ++ ds) tail
  cuts_behind limit at bytes [] ds more tail same each cut =
      let P : List ℕ → Type 0 = λ xs. CutsFrom asked limit at xs ds tail in
      let Q : ℕ → Type 0 = λ n. CutsFrom asked limit n more ds tail in
      let here : at + 0 ≡ at = omega arith in
      subst P (sym same) (subst Q here cut)
  cuts_behind limit at bytes (c ∷ cs) ds more tail same each cut =
      let Q : ℕ → Type 0 = λ n. CutsFrom asked limit n more ds tail in
      let rest = cuts_behind limit (at + length c) (concat cs ++ more) cs ds more tail refl each.1 (subst Q (concat-length c cs at) cut) in
      let E : ℕ → Type 0 = λ n. Ends asked limit n rest.rest tail in
      record {
        rest = rest.rest;
        whole = same ∙ append_assoc c (concat cs) more ∙ ap (λ xs. c ++ xs) rest.whole ∙ sym (append_assoc c (concat (cs ++ ds)) rest.rest);
        each = (each.0, rest.each);
        ends = subst E (sym (concat-length c (cs ++ ds) at)) rest.ends;
      }

  -- fewer bytes than the front asks for are a rest
  pub few-front : (n : ℕ) (bytes : List ℕ) → n ≤ length bytes → n < asked bytes → IsRest asked (take n bytes)
  few-front n bytes fits few =
      let len : length (take n bytes) ≡ n = length-take-le n bytes fits in
      elim (cases_lt n lengths.head) [
        | inl small ↦ omega (arith, len, lengths.least (take n bytes))
        | inr many ↦
            let enough : lengths.head ≤ length (take n bytes) = omega arith in
            let same : asked bytes ≡ asked (take n bytes) =
            ap asked (sym (take-append-drop n bytes)) ∙ lengths.told (take n bytes) (drop n bytes) enough in
            omega (arith, len, same)
      ]

  -- as many bytes as the front asks for are an item
  pub item_taken : (bytes : List ℕ) → asked bytes ≤ length bytes → IsItem asked (take (asked bytes) bytes)
  item_taken bytes whole =
      let n : ℕ = asked bytes in
      let len : length (take n bytes) ≡ n = length-take-le n bytes whole in
      let enough : lengths.head ≤ length (take n bytes) = omega (arith, len, lengths.least bytes) in
      len ∙ ap asked (sym (take-append-drop n bytes)) ∙ lengths.told (take n bytes) (drop n bytes) enough

  -- a rest makes a tail
  tail_of_rest : (limit at : ℕ) (bytes : List ℕ) → at ≤ limit → IsRest asked bytes → (tail : Tail) × Ends asked limit at bytes tail
  tail_of_rest limit at bytes within rest =
      elim (cases_lt limit (at + length bytes)) [
        | inl long ↦ (TooLong, (within, long, few-front (limit - at) bytes (omega arith) (omega arith)))
        | inr fits ↦ elim (cases_eq (length bytes) 0) [
          | inl none ↦ (End, (nil_from_length bytes none, within))
          | inr some ↦ (Truncated at, (refl, omega arith, rest, fits))
        ]
      ]

  -- each stream is cut somehow
  abbrev pub IsCut : ℕ → ℕ → List ℕ → Type 0
  IsCut limit at bytes = (chunks : List (List ℕ)) × (tail : Tail) × CutsFrom asked limit at bytes chunks tail

  cut_by_tail : (limit at : ℕ) (bytes : List ℕ) → (tail : Tail) × Ends asked limit at bytes tail → IsCut limit at bytes
  cut_by_tail limit at bytes tail =
      let E : ℕ → Type 0 = λ n. Ends asked limit n bytes tail.0 in
      let here : at ≡ at + 0 = omega arith in
      ([], tail.0, record { rest = bytes; whole = refl; each = tt; ends = subst E here tail.1 })

  cut_by_item : (limit at : ℕ) (chunk more : List ℕ) → IsItem asked chunk → IsCut limit (at + length chunk) more
      → IsCut limit at (chunk ++ more)
  cut_by_item limit at chunk more item cut =
      let E : ℕ → Type 0 = λ n. Ends asked limit n cut.2.rest cut.1 in (
        chunk ∷ cut.0,
        cut.1,
        record {
          rest = cut.2.rest;
          whole = ap (λ xs. chunk ++ xs) cut.2.whole ∙ sym (append_assoc chunk (concat cut.0) cut.2.rest);
          each = (item, cut.2.each);
          ends = subst E (sym (concat-length chunk cut.0 at)) cut.2.ends;
        },
      )

  pub some_cutting : (limit fuel at : ℕ) (bytes : List ℕ) → length bytes ≤ fuel → at ≤ limit → IsCut limit at bytes
  some_cutting limit zero at bytes enough within =
      cut_by_tail limit at bytes (tail_of_rest limit at bytes within (omega (arith, lengths.some, lengths.least bytes)))
  some_cutting limit (suc fuel) at bytes enough within =
      elim (cases_lt (length bytes) (asked bytes)) [
        | inl few ↦ cut_by_tail limit at bytes (tail_of_rest limit at bytes within few)
        | inr whole ↦ elim (cases_lt (limit - at) (asked bytes)) [
          | inl passes ↦ cut_by_tail limit at bytes (TooLong, (within, omega arith, few-front (limit - at) bytes (omega arith) passes))
          | inr fits ↦
              let n : ℕ = asked bytes in
              let len : length (take n bytes) ≡ n = length-take-le n bytes whole in
              let some : 0 < n = omega (arith, lengths.some, lengths.least bytes) in
              let P : List ℕ → Type 0 = λ xs. IsCut limit at xs in
              subst P (take-append-drop n bytes)
              (cut_by_item limit at (take n bytes) (drop n bytes) (item_taken bytes whole)
              (some_cutting limit fuel (at + length (take n bytes)) (drop n bytes) (omega (arith, length-drop n bytes)) (omega arith)))
        ]
      ]

  pub cuts_streams : CutsStreams asked
  cuts_streams =
      record {
        one = λ limit bytes cs ds t u p q. one_cutting_from limit 0 bytes cs ds t u p q;
        front = λ limit front more chunks first tail p q. front_cutting limit 0 front more chunks first tail p q;
        some = λ limit bytes. some_cutting limit (length bytes) 0 bytes (omega arith) (omega arith);
      }
