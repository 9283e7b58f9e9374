-- How a stream of bytes is cut into items of any kind, by `asked`: how many bytes the item at the front of some bytes has.
use Rattle.std.specs.Prelude.{◌≡◌, ℕ, ◌+◌, ◌-◌, ◌<◌, ◌≤◌, List, [], ◌∷◌, ◌++◌, length, take}
use Rattle.std.specs.List.{concat, AllByRecursion}
use Rattle.item_reader.specs.declared.cutting.Tail.{Tail}
use Rattle.item_reader.specs.declared.cutting.Tail.TheVariants.{End, Truncated, TooLong}

-- The first `head` bytes of an item tell its length, from one byte to sixteen, whatever follows them.
pub record IsLength (asked : List ℕ → ℕ) : Type 0 where
  pub head : ℕ
  pub some : 0 < head
  pub least : (bytes : List ℕ) → head ≤ asked bytes
  pub most : (bytes : List ℕ) → asked bytes ≤ 16
  pub told : (front more : List ℕ) → head ≤ length front → asked (front ++ more) ≡ asked front

-- the items as they are given out, by their offsets and bytes, the first of them at this offset
abbrev pub items_from : {Item : Type 0} → (ℕ → List ℕ → Item) → ℕ → List (List ℕ) → List Item
items_from item_of at [] = []
items_from item_of at (chunk ∷ chunks) = item_of at chunk ∷ items_from item_of (at + length chunk) chunks

module _ (asked : List ℕ → ℕ) where
  -- as many bytes as they ask for
  abbrev pub IsItem : List ℕ → Type 0
  IsItem bytes = length bytes ≡ asked bytes

  -- too few bytes for an item
  abbrev pub IsRest : List ℕ → Type 0
  IsRest bytes = length bytes < asked bytes

  -- how the items end, if these bytes follow them at an offset
  abbrev pub Ends : ℕ → ℕ → List ℕ → Tail → Type 0
  Ends limit at bytes End = (bytes ≡ []) × (at ≤ limit)
  Ends limit at bytes (Truncated o) = (o ≡ at) × (0 < length bytes) × IsRest bytes × (at + length bytes ≤ limit)
  Ends limit at bytes TooLong = (at ≤ limit) × (limit < at + length bytes) × IsRest (take (limit - at) bytes)

  -- From this offset on the bytes are these items' bytes, one after the other, all within the limit, and then what makes the tail.
  pub record CutsFrom (limit at : ℕ) (bytes : List ℕ) (chunks : List (List ℕ)) (tail : Tail) : Type 0 where
    pub rest : List ℕ
    pub whole : bytes ≡ concat chunks ++ rest
    pub each : AllByRecursion IsItem chunks
    pub ends : Ends limit (at + length (concat chunks)) rest tail

  -- The bytes of a whole stream are these items' bytes, and then what makes the tail.
  abbrev pub Cuts : ℕ → List ℕ → List (List ℕ) → Tail → Type 0
  Cuts limit bytes chunks tail = CutsFrom limit 0 bytes chunks tail

  -- these bytes are cut into these items, and then what makes the tail
  pub record IsCutInto {Item : Type 0} (item_of : ℕ → List ℕ → Item) (limit : ℕ) (bytes : List ℕ) (items : List Item) (tail : Tail) : Type 0
    where
      pub chunks : List (List ℕ)
      pub cuts : Cuts limit bytes chunks tail
      pub same : items ≡ items_from item_of 0 chunks
