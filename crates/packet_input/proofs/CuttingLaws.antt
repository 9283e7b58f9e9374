-- An input is cut into packets in one way.
use Rattle.std.proofs.Common.{◌≡◌, ◌+◌, ℕ, List, [], ◌∷◌, ◌++◌, length, None, Some, refl, ap, sym, ◌∙◌, subst, arith, inl, inr}
use Rattle.std.specs.List.{concat}
use Rattle.std.proofs.lemmas.List.{length-append}
use Rattle.item_reader.specs.Cut.{items_from}
use Rattle.ump_words.specs.Cut.{Cuts}
use Rattle.ump_words.specs.declared.words.Framed.{Framed}
use Rattle.ump_words.specs.declared.words.Order.{Order}
use Rattle.item_reader.specs.declared.cutting.Tail as tails
use Rattle.item_reader.specs.declared.cutting.Tail.TheVariants as tail
use Rattle.ump_words.specs.Laws.{FrontsAreCutAsTheStream, StreamsAreCutInOneWay}
use Rattle.ump_grammar.specs.declared.packet.Bad.{Bad}
use Rattle.ump_grammar.specs.declared.packet.Packet.{Packet}
use Rattle.ump_grammar.specs.Reason.{reason as reason_of}
use Rattle.ump_grammar.specs.Spelling.{Spells}
use Rattle.pass_loop.specs.Pass.{CutsOnce, IsFront, Tail}
use Rattle.packet_input.specs.Packets.{AreRead, EndsAt, IsCutBehind, framed_behind, framed_of}
use Rattle.packet_input.specs.Packets.{packets_behind, reason_for, refusal_behind, room_behind}

abbrev head_or : {A : Type 0} → A → List A → A
head_or a [] = a
head_or a (x ∷ xs) = x

abbrev tail_of : {A : Type 0} → List A → List A
tail_of [] = []
tail_of (x ∷ xs) = xs

framed-then : (order : Order) (before at : ℕ) (ds more : List (List ℕ))
    → items_from (framed_behind before order) at (ds ++ more)
    ≡ items_from (framed_behind before order) at ds ++ items_from (framed_behind before order) (at + length (concat ds)) more
framed-then order before at [] more = let e : at ≡ at + 0 = omega arith in ap (λ n. items_from (framed_behind before order) n more) e
framed-then order before at (d ∷ ds) more =
    let e : (at + length d) + length (concat ds) ≡ at + length (concat (d ∷ ds)) = omega (arith, length-append d (concat ds)) in
    ap (λ fs. framed_behind before order at d ∷ fs)
    (framed-then order before (at + length d) ds more
    ∙ ap (λ n. items_from (framed_behind before order) (at + length d) ds ++ items_from (framed_behind before order) n more) e)

at_end : (before : ℕ) (t : tails.Tail) → None ≡ refusal_behind before t → t ≡ tail.End
at_end before tail.End e = refl
at_end before (tail.Truncated offset) e = let f : None ≡ refusal_behind before (tail.Truncated offset) = e in cc
at_end before tail.TooLong e = let f : None ≡ refusal_behind before tail.TooLong = e in cc

module _ (one_cutting : StreamsAreCutInOneWay) (fronts : FrontsAreCutAsTheStream)
    (one_packet : (p q : Packet) (words : List ℕ) → Spells p words → Spells q words → p ≡ q) (order : Order) (before : ℕ) where
  one_framed : (bytes : List ℕ) (fs gs : List Framed) (t u : tails.Tail) → IsCutBehind order before bytes fs t
      → IsCutBehind order before bytes gs u → (fs ≡ gs) × (t ≡ u)
  one_framed bytes fs gs t u p q =
      let one = one_cutting order (room_behind before) bytes p.chunks q.chunks t u p.cuts q.cuts in
      (p.same ∙ ap (items_from (framed_behind before order) 0) one.0 ∙ sym q.same, one.1)

  one_item : (i j : Framed × Packet) (items others : List (Framed × Packet)) → AreRead (i ∷ items) → AreRead (j ∷ others)
      → framed_of (i ∷ items) ≡ framed_of (j ∷ others) → i ≡ j
  one_item i j items others are are' same =
      let f : i.0 ≡ j.0 = ap (head_or i.0) same in
      let S : Framed → Type 0 = λ g. Spells i.1 g.words in
      ap (λ g. (g, i.1)) f ∙ ap (λ p. (j.0, p)) (one_packet i.1 j.1 j.0.words (subst S f are.0.spells) are'.0.spells)

  -- packets of the same words are the same
  one_items : (items others : List (Framed × Packet)) → AreRead items → AreRead others → framed_of items ≡ framed_of others → items ≡ others
  one_items [] [] are are' same = refl
  one_items [] (j ∷ others) are are' same = let f : [] ≡ j.0 ∷ framed_of others = same in cc
  one_items (i ∷ items) [] are are' same = let f : i.0 ∷ framed_of items ≡ [] = same in cc
  one_items (i ∷ items) (j ∷ others) are are' same =
      ap (λ x. x ∷ items) (one_item i j items others are are' same)
      ∙ ap (λ xs. j ∷ xs) (one_items items others are.1 are'.1 (ap tail_of same))

  -- the words of a packet that is read aren't refused
  fine_at : (items : List (Framed × Packet)) (earlier : List Framed) (f : Framed) (after : List Framed) → AreRead items
      → framed_of items ≡ earlier ++ f ∷ after → reason_of f.words ≡ None
  fine_at [] [] f after are same = let e : [] ≡ f ∷ after = same in cc
  fine_at [] (b ∷ earlier) f after are same = let e : [] ≡ b ∷ (earlier ++ f ∷ after) = same in cc
  fine_at (i ∷ items) [] f after are same =
      let R : Framed → Type 0 = λ g. reason_of g.words ≡ None in
      subst R (ap (head_or i.0) same) are.0.fine
  fine_at (i ∷ items) (b ∷ earlier) f after are same = fine_at items earlier f after are.1 (ap tail_of same)

  not_refused : (items : List (Framed × Packet)) (earlier : List Framed) (f : Framed) (after : List Framed) (cause : Bad) → AreRead items
      → framed_of items ≡ earlier ++ f ∷ after → reason_of f.words ≡ Some cause → ⊥
  not_refused items earlier f after cause are same is = let e : None ≡ Some cause = sym (fine_at items earlier f after are same) ∙ is in cc

  -- the first words that are refused stand in one place
  one_refused : (items others : List (Framed × Packet)) (f g : Framed) (after after' : List Framed) (cause cause' : Bad) → AreRead items
      → AreRead others → reason_of f.words ≡ Some cause → reason_of g.words ≡ Some cause'
      → framed_of items ++ f ∷ after ≡ framed_of others ++ g ∷ after' → (items ≡ others) × (f ≡ g)
  one_refused [] [] f g after after' cause cause' are are' is is' same = (refl, ap (head_or f) same)
  one_refused [] (j ∷ others) f g after after' cause cause' are are' is is' same =
      let R : Framed → Type 0 = λ x. reason_of x.words ≡ None in
      let e : None ≡ Some cause = sym (subst R (sym (ap (head_or f) same)) are'.0.fine) ∙ is in
      cc
  one_refused (i ∷ items) [] f g after after' cause cause' are are' is is' same =
      let R : Framed → Type 0 = λ x. reason_of x.words ≡ None in
      let e : None ≡ Some cause' = sym (subst R (ap (head_or i.0) same) are.0.fine) ∙ is' in
      cc
  one_refused (i ∷ items) (j ∷ others) f g after after' cause cause' are are' is is' same =
      let more = one_refused items others f g after after' cause cause' are.1 are'.1 is is' (ap tail_of same) in
      let first : i.0 ≡ j.0 = ap (head_or i.0) same in (
        ap (λ x. x ∷ items) (one_item i j [] [] (are.0, tt) (are'.0, tt) (ap (λ x. x ∷ []) first)) ∙ ap (λ xs. j ∷ xs) more.0,
        more.1,
      )

  one_end : (bytes : List ℕ) (items others : List (Framed × Packet)) (end end' : Tail) → packets_behind order before bytes items end
      → packets_behind order before bytes others end' → (items ≡ others) × (end ≡ end')
  one_end bytes items others end end' (are, inl p) (are', inl q) =
      let one = one_framed bytes (framed_of items) (framed_of others) p.tail q.tail p.cut q.cut in
      (one_items items others are are' one.0, p.end_is ∙ ap (refusal_behind before) one.1 ∙ sym q.end_is)
  one_end bytes items others end end' (are, inl p) (are', inr q) =
      let one = one_framed bytes (framed_of items) (framed_of others ++ q.refused ∷ q.after) p.tail q.tail p.cut q.cut in
      absurd (not_refused items (framed_of others) q.refused q.after q.cause are one.0 q.cause_is)
  one_end bytes items others end end' (are, inr p) (are', inl q) =
      let one = one_framed bytes (framed_of others) (framed_of items ++ p.refused ∷ p.after) q.tail p.tail q.cut p.cut in
      absurd (not_refused others (framed_of items) p.refused p.after p.cause are' one.0 p.cause_is)
  one_end bytes items others end end' (are, inr p) (are', inr q) =
      let one =
      one_framed bytes (framed_of items ++ p.refused ∷ p.after) (framed_of others ++ q.refused ∷ q.after) p.tail q.tail p.cut q.cut in
      let same = one_refused items others p.refused q.refused p.after q.after p.cause q.cause are are' p.cause_is q.cause_is one.0 in
      let R : Framed → Type 0 = λ f. reason_of f.words ≡ Some p.cause in
      let both : Some p.cause ≡ Some q.cause = sym (subst R same.1 p.cause_is) ∙ q.cause_is in
      let cause : p.cause ≡ q.cause = cc in (
        same.0,
        p.end_is
            ∙ ap (λ c. Some (reason_for c, p.refused.offset)) cause
            ∙ ap (λ f. Some (reason_for q.cause, f.offset)) same.1
            ∙ sym q.end_is,
      )

  -- ---- what stands at the front of an input stands at the front of its packets

  items_front : (items first : List (Framed × Packet)) (more : List Framed) → AreRead items → AreRead first
      → framed_of items ≡ framed_of first ++ more → (rest : List (Framed × Packet)) × (items ≡ first ++ rest)
  items_front items [] more are are' same = (items, refl)
  items_front [] (j ∷ first) more are are' same = let f : [] ≡ j.0 ∷ (framed_of first ++ more) = same in absurd cc
  items_front (i ∷ items) (j ∷ first) more are are' same =
      let front = items_front items first more are.1 are'.1 (ap tail_of same) in
      let one : i.0 ≡ j.0 = ap (head_or i.0) same in (
        front.0,
        ap (λ x. x ∷ items) (one_item i j [] [] (are.0, tt) (are'.0, tt) (ap (λ x. x ∷ []) one)) ∙ ap (λ xs. j ∷ xs) front.1,
      )

  -- the same before words that are refused
  items_before : (items first : List (Framed × Packet)) (refused : Framed) (after more : List Framed) (cause : Bad) → AreRead items
      → AreRead first → reason_of refused.words ≡ Some cause
      → framed_of items ++ refused ∷ after ≡ framed_of first ++ more → (rest : List (Framed × Packet)) × (items ≡ first ++ rest)
  items_before items [] refused after more cause are are' is same = (items, refl)
  items_before [] (j ∷ first) refused after more cause are are' is same =
      let R : Framed → Type 0 = λ f. reason_of f.words ≡ None in
      let e : None ≡ Some cause = sym (subst R (sym (ap (head_or refused) same)) are'.0.fine) ∙ is in
      absurd cc
  items_before (i ∷ items) (j ∷ first) refused after more cause are are' is same =
      let front = items_before items first refused after more cause are.1 are'.1 is (ap tail_of same) in
      let one : i.0 ≡ j.0 = ap (head_or i.0) same in (
        front.0,
        ap (λ x. x ∷ items) (one_item i j [] [] (are.0, tt) (are'.0, tt) (ap (λ x. x ∷ []) one)) ∙ ap (λ xs. j ∷ xs) front.1,
      )

  -- what is cut begins with what is cut of a front
  framed_front : (bytes start rest : List ℕ) (framed : List Framed) (first : List (Framed × Packet)) (end : tails.Tail)
      → bytes ≡ start ++ rest → IsCutBehind order before bytes framed end
      → EndsAt order before start first None → (more : List Framed) × (framed ≡ framed_of first ++ more)
  framed_front bytes start rest framed first end parts cut ends =
      let B : List ℕ → Type 0 = λ xs. Cuts order (room_behind before) xs cut.chunks end in
      let T : tails.Tail → Type 0 = λ t. Cuts order (room_behind before) start ends.cut.chunks t in
      let chunks =
      fronts order (room_behind before) start rest cut.chunks ends.cut.chunks end (subst B parts cut.cuts)
      (subst T (at_end before ends.tail ends.end_is) ends.cut.cuts) in
      let at : ℕ = 0 + length (concat ends.cut.chunks) in (
        items_from (framed_behind before order) at chunks.0,
        cut.same
            ∙ ap (items_from (framed_behind before order) 0) chunks.1
            ∙ framed-then order before 0 ends.cut.chunks chunks.0
            ∙ ap (λ fs. fs ++ items_from (framed_behind before order) at chunks.0) (sym ends.cut.same),
      )

  front : (bytes : List ℕ) (items first : List (Framed × Packet)) (end : Tail) → packets_behind order before bytes items end
      → IsFront (packets_behind order before) bytes first → (rest : List (Framed × Packet)) × (items ≡ first ++ rest)
  front bytes items first end cut (start, rest, parts, (are', inr q)) =
      absurd (let e : None ≡ Some (reason_for q.cause, q.refused.offset) = q.end_is in cc)
  front bytes items first end (are, inl p) (start, rest, parts, (are', inl q)) =
      let more = framed_front bytes start rest (framed_of items) first p.tail parts p.cut q in
      items_front items first more.0 are are' more.1
  front bytes items first end (are, inr p) (start, rest, parts, (are', inl q)) =
      let more = framed_front bytes start rest (framed_of items ++ p.refused ∷ p.after) first p.tail parts p.cut q in
      items_before items first p.refused p.after more.0 p.cause are are' p.cause_is more.1

  pub packets_once : CutsOnce (packets_behind order before)
  packets_once = record { one = one_end; front = front }
