-- An input is cut into its items in one way.
use Rattle.std.proofs.Common.{◌≡◌, ◌+◌, ℕ, List, [], ◌∷◌, ◌++◌, length, None, refl, ap, sym, ◌∙◌, subst, arith}
use Rattle.std.specs.List.{concat}
use Rattle.std.proofs.lemmas.List.{length-append}
use Rattle.item_reader.specs.Cut.{Cuts, items_from}
use Rattle.item_reader.specs.CutLaws.{CutsStreams}
use Rattle.item_reader.specs.declared.cutting.Tail as tails
use Rattle.item_reader.specs.declared.cutting.Tail.TheVariants as tail
use Rattle.pass_loop.specs.Items.{item_cutting, limit, refusal_at}
use Rattle.pass_loop.specs.Pass.{Tail, CutsOnce, IsFront}

items-then : {Item : Type 0} (item_of : ℕ → List ℕ → Item) (at : ℕ) (cs ds : List (List ℕ))
    → items_from item_of at (cs ++ ds) ≡ items_from item_of at cs ++ items_from item_of (at + length (concat cs)) ds
items-then item_of at [] ds = ap (λ n. items_from item_of n ds) (omega arith)
items-then item_of at (c ∷ cs) ds =
    ap (λ xs. item_of at c ∷ xs)
    (items-then item_of (at + length c) cs ds
    ∙ ap (λ n. items_from item_of (at + length c) cs ++ items_from item_of n ds) (omega (arith, length-append c (concat cs))))

is_end : (t : tails.Tail) → None ≡ refusal_at t → t ≡ tail.End
is_end tail.End e = refl
is_end (tail.Truncated offset) e = let f : None ≡ refusal_at (tail.Truncated offset) = e in cc
is_end tail.TooLong e = let f : None ≡ refusal_at tail.TooLong = e in cc

module _ {Item : Type 0} (asked : List ℕ → ℕ) (item_of : ℕ → List ℕ → Item) (laws : CutsStreams asked) where
  one_cut : (bytes : List ℕ) (items others : List Item) (end other : Tail) → item_cutting asked item_of bytes items end
      → item_cutting asked item_of bytes others other → (items ≡ others) × (end ≡ other)
  one_cut bytes items others end other p q =
      let one = laws.one limit bytes p.1.chunks q.1.chunks p.0 q.0 p.1.cuts q.1.cuts in
      (p.1.same ∙ ap (items_from item_of 0) one.0 ∙ sym q.1.same, p.2 ∙ ap refusal_at one.1 ∙ sym q.2)

  one_front : (bytes : List ℕ) (items first : List Item) (end : Tail) → item_cutting asked item_of bytes items end
      → IsFront (item_cutting asked item_of) bytes first → (rest : List Item) × (items ≡ first ++ rest)
  one_front bytes items first end p (start, rest, parts, q) =
      let B : List ℕ → Type 0 = λ xs. Cuts asked limit xs p.1.chunks p.0 in
      let T : tails.Tail → Type 0 = λ t. Cuts asked limit start q.1.chunks t in
      let chunks = laws.front limit start rest p.1.chunks q.1.chunks p.0 (subst B parts p.1.cuts) (subst T (is_end q.0 q.2) q.1.cuts) in
      let at : ℕ = 0 + length (concat q.1.chunks) in (
        items_from item_of at chunks.0,
        p.1.same
            ∙ ap (items_from item_of 0) chunks.1
            ∙ items-then item_of 0 q.1.chunks chunks.0
            ∙ ap (λ xs. xs ++ items_from item_of at chunks.0) (sym q.1.same),
      )

  pub items_once : CutsOnce (item_cutting asked item_of)
  items_once = record { one = one_cut; front = one_front }
