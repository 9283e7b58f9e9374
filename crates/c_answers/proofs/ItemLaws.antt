-- The next item of a block: a buffer is short for it, or both have room and it is taken, cut off or refused.
use Rattle.std.proofs.Common.{ℕ, zero, suc, ◌≡◌, ◌≤◌, ◌<◌, ◌+◌, ◌*◌, ◌-◌, ◌%◌, ◌^◌, ◌∙◌, ap, sym, subst, arith, true, false}
use Rattle.std.proofs.Common.{Bool, List, [], ◌∷◌, ◌++◌, length, take, drop, get_or, length-drop}
use Rattle.std.proofs.Math.Seq.{drop-cons}
use Rattle.std.proofs.lemmas.Bool.{ltb-false}
use Rattle.std.proofs.lemmas.List.{length-take-le}
use Rattle.std.specs.Prelude.{◌||◌, ◌==◌, nat_lt, slice_index, slice_set}
use borrow.Rule.Slice.PartMut.{mid_of, put_mid}
use Rattle.c_answers.specs.Blocks.{AreTaken, Taking, is_one, is_short, lacks_item, leaves_few, with_item, with_need, with_refused}
use Rattle.c_answers.specs.Fronts.{with_front}
use Rattle.c_answers.specs.Numbers.{number_of}
use Rattle.c_answers.specs.declared.block.Block.{Block}
use Rattle.c_answers.specs.declared.status.Status.{Status}
use Rattle.c_answers.specs.declared.status.Status.TheVariants as statuses
use Rattle.c_answers.proofs.BlockLaws as laws
use Rattle.c_answers.proofs.BlockLaws.{AreSoFar}
use Rattle.c_answers.proofs.FrontLaws.{rest_given_back, rest_lent, rest_unchanged, set_front, written_behind}

-- what a call has done so far; more is left, and both buffers have room for one more item
pub record HasRoom {Held Item : Type 0} (taking : Taking Held Item) (Keeps : Held → Type 0) (held : Held) (offset : ℕ)
    (input old : List ℕ) (old_items : List Item) (block : Block) (next : ℕ) (now : Held) (buffer : List ℕ) (items : List Item) : Type 0 where
  pub are : AreSoFar taking Keeps held offset input old old_items block next now buffer items
  pub some : block.taken < length input
  pub room : laws.full_now taking Keeps held offset input old old_items block next now buffer items are ≡ false

-- The next item, by the words or bytes that are left: how many are its own.
pub record IsNext {Held Item : Type 0} (taking : Taking Held Item) (left : List ℕ) (count : ℕ) : Type 0 where
  pub asked : count ≡ taking.size_of (slice_index left 0)
  pub above : 0 < count
  pub there : count ≤ length left

next_is_one : {Held Item : Type 0} (taking : Taking Held Item) (left : List ℕ) (count : ℕ) → IsNext taking left count
    → is_one taking (take count left) ≡ true
next_is_one taking left zero is = absurd (omega (arith, is.above))
next_is_one taking [] (suc count) is = absurd (omega (arith, is.there))
next_is_one taking (first ∷ more) (suc count) is =
    let size : length (take (suc count) (first ∷ more)) ≡ suc count = length-take-le (suc count) (first ∷ more) is.there in
    same (taking.size_of first) (suc (length (take count more))) (sym is.asked ∙ sym size)
  where
    same : (n m : ℕ) → n ≡ m → (n == m) ≡ true
    same n m is = grind (arith, is)

-- a byte is an item by itself
pub byte_next : {Held Item : Type 0} (taking : Taking Held Item) → ((first : ℕ) → 1 ≡ taking.size_of first)
    → (bytes : List ℕ) (taken : ℕ) → taken < length bytes → IsNext taking (drop taken bytes) 1
byte_next taking one bytes taken some =
    record {
      asked = one (slice_index (drop taken bytes) 0);
      above = omega arith;
      there = omega (arith, some, length-drop taken bytes);
    }

pub next_byte : (bytes : List ℕ) (taken : ℕ) → taken < length bytes → take 1 (drop taken bytes) ≡ get_or bytes taken 0 ∷ []
next_byte bytes taken some = ap (take 1) (drop-cons bytes taken 0 some)

-- all items are taken
pub ends_all : {Held Item : Type 0} {taking : Taking Held Item} {Keeps : Held → Type 0} {held : Held} {offset : ℕ} {input old : List ℕ}
    {old_items : List Item} {block : Block} {next : ℕ} {now : Held} {buffer : List ℕ} {items : List Item}
    → AreSoFar taking Keeps held offset input old old_items block next now buffer items → length input ≤ block.taken →
    AreTaken taking held offset input old old_items (number_of statuses.Done) block buffer items now
ends_all {taking = taking} {Keeps} {held} {offset} {input} {old} {old_items} {block} {next} {now} {buffer} {items} are =
    laws.ends_done taking Keeps held offset input old old_items block next now buffer items are

module _ {Held Item : Type 0} {taking : Taking Held Item} {Keeps : Held → Type 0} {held : Held} {offset : ℕ} {input old : List ℕ}
    {old_items : List Item} {block : Block} {next : ℕ} {now : Held} {buffer : List ℕ} {items : List Item}
    (are : AreSoFar taking Keeps held offset input old old_items block next now buffer items) (some : block.taken < length input)
    {most : ℕ} (most_is : most ≡ taking.most_written now) (size : length buffer ≡ length old) (item_size : length items ≡ length old_items)
    {full : Bool} (answer : full ≡ leaves_few block (length buffer) most (length items) taking.most_items) where
  -- a call found that a buffer is short
  pub found_short : {found : Block} → full ≡ true → found ≡ with_need block (length buffer) most (length items) taking.most_items →
      AreTaken taking held offset input old old_items (number_of statuses.SmallBuffer) found buffer items now
  found_short {found} short need =
      laws.ends_full_by taking Keeps held offset input old old_items block next now buffer items are (length buffer) most (length items)
      found size most_is item_size some (sym answer ∙ short) need

  -- or room in both
  pub found_room : {found : Block} → full ≡ false → found ≡ block →
      HasRoom taking Keeps held offset input old old_items found next now buffer items
  found_room {found} room same =
      subst (λ b. HasRoom taking Keeps held offset input old old_items b next now buffer items) (sym same)
      (record {
        are = are;
        some = some;
        room = laws.full_by taking Keeps held offset input old old_items block next now buffer items are (length buffer) most (length items)
            size most_is item_size ∙ sym answer ∙ room;
      })

module _ {Held Item : Type 0} {taking : Taking Held Item} {Keeps : Held → Type 0} {held : Held} {offset : ℕ} {input old : List ℕ}
    {old_items : List Item} {block : Block} {next : ℕ} {now : Held} {buffer : List ℕ} {items : List Item}
    (has : HasRoom taking Keeps held offset input old old_items block next now buffer items) where
  -- the rest of the first buffer, as it is lent, and the buffer once this is given back
  abbrev pub lent : List ℕ
  lent = mid_of block.written (length buffer - block.written) buffer

  abbrev pub given_back : List ℕ → List ℕ
  given_back rest = put_mid block.written (length buffer - block.written) buffer rest

  -- one more item in the second buffer
  item_set : (item : Item) → taking.most_items ≡ 1 → length items ≡ length old_items →
      slice_set items block.items item ≡ with_front (has.are.progress.items ++ item ∷ []) old_items
  item_set item one size =
      let done : List Item = has.are.progress.items in
      let told : block.items ≡ length done =
      laws.told taking Keeps held offset input old old_items block next now buffer items has.are in
      let few : nat_lt (length old_items - length done) taking.most_items ≡ false =
      second_false (is_short taking (length old) has.are.progress) (lacks_item taking (length old_items) has.are.progress) has.room in
      let free : 1 ≤ length old_items - length done =
      subst (λ n. n ≤ length old_items - length done) one
      (ltb-false (length old_items - length done) taking.most_items few) in
      (λ i. slice_set (has.are.items_are i) (told i) item) ∙ set_front done old_items item (omega (arith, free))
    where
      second_false : (a b : Bool) → (a || b) ≡ false → b ≡ false
      second_false false b is = is
      second_false true b is = absurd (cc is)

  -- or several
  items_put : (more rest : List Item) → rest ≡ with_front more (mid_of block.items (length items - block.items) items) →
      put_mid block.items (length items - block.items) items rest ≡ with_front (has.are.progress.items ++ more) old_items
  items_put more rest is =
      rest_given_back block.items items rest
      ∙ written_behind has.are.progress.items more old_items items rest block.items
      (laws.told taking Keeps held offset input old old_items block next now buffer items has.are) has.are.items_are
      (is ∙ ap (with_front more) (rest_lent block.items items))

  module _ {left : List ℕ} (left_is : left ≡ drop block.taken input) {count : ℕ} where
    own_is : IsNext taking left count → take count left ≡ take (length (take count left)) (drop block.taken input)
    own_is is = λ i. take (sym (length-take-le count left is.there) i) (left_is i)

    fits : IsNext taking left count → length (take count left) ≤ length input - block.taken
    fits is = omega (arith, length-take-le count left is.there, is.there, ap length left_is, length-drop block.taken input)

    -- the next item is taken
    taken_next : {written : List ℕ} {more : List Item} {size : ℕ} {rest : List ℕ} {more_items : List Item} {after : Held} {out : Block}
        → IsNext taking left count → taking.Takes now next (take count left) written more after → Keeps after → size ≡ length written
        → rest ≡ with_front written lent → more_items ≡ with_front (has.are.progress.items ++ more) old_items
        → out ≡ with_item block count size (length more) →
        AreSoFar taking Keeps held offset input old old_items out ((next + taking.step * count) % 2 ^ 64) after (given_back rest) more_items
    taken_next {written} {more} {size} {rest} {more_items} {after} {out} is takes keeps size_is rest_is items_are out_is =
        let own : List ℕ = take count left in
        let own_size : length own ≡ count = length-take-le count left is.there in
        let S : Block → ℕ → List ℕ → Type 0 = λ b n words. AreSoFar taking Keeps held offset input old old_items b
        ((next + taking.step * n) % 2 ^ 64) after words more_items in
        let all : S (with_item block (length own) size (length more)) (length own) (take block.written buffer ++ rest) =
        laws.one_more taking Keeps held offset input old old_items block next now buffer items has.are own written more size rest more_items
        after (own_is is) (fits is) has.room (next_is_one taking left count is) takes size_is
        (rest_is ∙ ap (with_front written) (rest_lent block.written buffer)) items_are keeps in
        subst (λ b. S b count (given_back rest)) (sym out_is)
        (subst (λ words. S (with_item block count size (length more)) count words) (sym (rest_given_back block.written buffer rest))
        (subst (λ n. S (with_item block n size (length more)) n (take block.written buffer ++ rest)) own_size all))

    -- and one item more is in the second buffer
    pub taken_with_item : {written : List ℕ} {item : Item} {size : ℕ} {rest : List ℕ} {after : Held} {out : Block}
        → taking.most_items ≡ 1 → length items ≡ length old_items
        → IsNext taking left count → taking.Takes now next (take count left) written (item ∷ []) after → Keeps after → size ≡ length written
        → rest ≡ with_front written lent → out ≡ with_item block count size 1 →
        AreSoFar taking Keeps held offset input old old_items out ((next + taking.step * count) % 2 ^ 64) after (given_back rest)
        (slice_set items block.items item)
    taken_with_item {item = item} one size is takes keeps size_is rest_is out_is =
        taken_next is takes keeps size_is rest_is (item_set item one size) out_is

    -- or several
    pub taken_with_items : {written : List ℕ} {more rest_items : List Item} {size many : ℕ} {rest : List ℕ} {after : Held} {out : Block}
        → many ≡ length more → rest_items ≡ with_front more (mid_of block.items (length items - block.items) items)
        → IsNext taking left count → taking.Takes now next (take count left) written more after → Keeps after → size ≡ length written
        → rest ≡ with_front written lent → out ≡ with_item block count size many →
        AreSoFar taking Keeps held offset input old old_items out ((next + taking.step * count) % 2 ^ 64) after (given_back rest)
        (put_mid block.items (length items - block.items) items rest_items)
    taken_with_items {more = more} {rest_items = rest_items} {size = size} many_is items_are is takes keeps size_is rest_is out_is =
        taken_next is takes keeps size_is rest_is (items_put more rest_items items_are) (out_is ∙ ap (with_item block count size) many_is)

    -- its words aren't all there
    pub cut_next : count ≡ taking.size_of (slice_index left 0) → length left < count →
        AreTaken taking held offset input old old_items (number_of statuses.BadWordCount) block buffer items now
    cut_next asked short =
        let few : length input - block.taken < taking.size_of (slice_index (drop block.taken input) 0) =
        subst (λ n. length input - block.taken < n) (asked ∙ ap (λ words. taking.size_of (slice_index words 0)) left_is)
        (omega (arith, short, ap length left_is, length-drop block.taken input)) in
        laws.ends_cut taking Keeps held offset input old old_items block next now buffer items has.are has.some has.room few

    -- it is taken, and nothing is written for it
    pub taken_silent : {after : Held} {out : Block} → IsNext taking left count → taking.Takes now next (take count left) [] [] after
        → Keeps after → out ≡ with_item block count 0 0 →
        AreSoFar taking Keeps held offset input old old_items out ((next + taking.step * count) % 2 ^ 64) after buffer items
    taken_silent {after} {out} is takes keeps out_is =
        let own : List ℕ = take count left in
        let own_size : length own ≡ count = length-take-le count left is.there in
        let S : Block → ℕ → Type 0 = λ b n. AreSoFar taking Keeps held offset input old old_items b
        ((next + taking.step * n) % 2 ^ 64) after buffer items in
        subst (λ b. S b count) (sym out_is) (subst (λ n. S (with_item block n 0 0) n) own_size
        (laws.one_silent taking Keeps held offset input old old_items block next now buffer items has.are own after (own_is is) (fits is)
        has.room (next_is_one taking left count is) takes keeps))

    -- it is refused
    pub refused_silent : {why : Status} {after : Held} {out : Block} → count ≡ taking.size_of (slice_index left 0) → count ≤ length left
        → taking.Refuses now next (take count left) why after → out ≡ with_refused block count →
        AreTaken taking held offset input old old_items (number_of why) out buffer items after
    refused_silent {why} {after} {out} asked there refuses out_is =
        let R : List ℕ → Type 0 = λ words. taking.Refuses now next (take count words) why after in
        subst (λ b. AreTaken taking held offset input old old_items (number_of why) b buffer items after) (sym out_is)
        (laws.ends_refused taking Keeps held offset input old old_items block next now buffer items has.are count why after has.some has.room
        (asked ∙ ap (λ words. taking.size_of (slice_index words 0)) left_is)
        (omega (arith, there, ap length left_is, length-drop block.taken input)) (subst R left_is refuses))

    -- and the rest of the first buffer, which was lent, is given back as it was
    pub refused_next : {why : Status} {rest : List ℕ} {after : Held} {out : Block} → count ≡ taking.size_of (slice_index left 0)
        → count ≤ length left → taking.Refuses now next (take count left) why after → rest ≡ lent → out ≡ with_refused block count →
        AreTaken taking held offset input old old_items (number_of why) out (given_back rest) items after
    refused_next {why} {rest} {after} {out} asked there refuses rest_is out_is =
        subst (λ words. AreTaken taking held offset input old old_items (number_of why) out words items after)
        (sym (rest_unchanged block.written buffer rest rest_is)) (refused_silent asked there refuses out_is)
