-- Items that are taken one after another.
use Rattle.std.proofs.Common.{ℕ, suc, ◌≡◌, ◌≤◌, ◌<◌, ◌+◌, ◌*◌, ◌-◌, ◌%◌, ◌^◌, ◌∙◌, refl, ap, sym, subst, arith, true, false}
use Rattle.std.proofs.Common.{Bool, List, [], ◌∷◌, ◌++◌, length, take, drop, length-append, length-drop}
use Rattle.std.proofs.Math.Seq.{take-add}
use Rattle.std.proofs.lemmas.Bool.{le-ltb, lt-ltb}
use Rattle.std.proofs.lemmas.List.{append-nil, length-take-le, take-append-drop}
use Rattle.std.specs.Prelude.{◌||◌, nat_lt, slice_index}
use Rattle.c_answers.specs.Fronts.{with_front}
use Rattle.c_answers.specs.Numbers.{number_of}
use Rattle.c_answers.specs.declared.status.Status.{Status}
use Rattle.c_answers.specs.declared.status.Status.TheVariants as statuses
use Rattle.c_answers.specs.Blocks.{AreTaken, Goes, Progress, Taking, begun, ends, is_full, is_one, leaves_few}
use Rattle.c_answers.specs.Blocks.{nothing_taken, with_item, with_need, with_refused}
use Rattle.c_answers.specs.Blocks as blocks
use Rattle.c_answers.specs.declared.block.Block.{Block}
use Rattle.c_answers.proofs.FrontLaws.{written_behind}

-- ---- so far

-- all that a call has done so far: nothing is refused, and no buffer is short
abbrev pub so_far : {Held Item : Type 0} → Progress Held Item → Block
so_far progress =
    record {
      taken = length progress.taken;
      written = length progress.written;
      items = length progress.items;
      refused = 0;
      need = 0;
      need_items = 0;
    }

-- what was taken so far, of items whose states keep something
pub record AreSoFar {Held Item : Type 0} (taking : Taking Held Item) (Keeps : Held → Type 0) (held : Held) (offset : ℕ)
    (input old : List ℕ) (old_items : List Item) (block : Block) (next : ℕ) (now : Held) (buffer : List ℕ) (items : List Item) : Type 0 where
  pub count : ℕ
  pub progress : Progress Held Item
  pub goes : Goes taking old old_items held offset count progress
  pub taken_are : take block.taken input ≡ progress.taken
  pub within : block.taken ≤ length input
  pub block_is : block ≡ so_far progress
  pub next_is : next ≡ progress.next
  pub left : now ≡ progress.held
  pub keeps : Keeps now
  pub front : buffer ≡ with_front progress.written old
  pub items_are : items ≡ with_front progress.items old_items

pub none_yet : {Held Item : Type 0} (taking : Taking Held Item) (Keeps : Held → Type 0) (held : Held) (offset : ℕ) (input old : List ℕ)
    (old_items : List Item) → Keeps held →
    AreSoFar taking Keeps held offset input old old_items nothing_taken offset held old old_items
none_yet taking Keeps held offset input old old_items keeps =
    record {
      count = 0;
      progress = begun held offset;
      goes = refl;
      taken_are = refl;
      within = omega arith;
      block_is = refl;
      next_is = refl;
      left = refl;
      keeps = keeps;
      front = refl;
      items_are = refl;
    }

module _ {Held Item : Type 0} (taking : Taking Held Item) (Keeps : Held → Type 0) (held : Held) (offset : ℕ) (input old : List ℕ)
    (old_items : List Item) (block : Block) (next : ℕ) (now : Held) (buffer : List ℕ) (items : List Item)
    (are : AreSoFar taking Keeps held offset input old old_items block next now buffer items) where
  pub used : block.taken ≡ length are.progress.taken
  used = ap (λ (b : Block). b.taken) are.block_is

  pub put : block.written ≡ length are.progress.written
  put = ap (λ (b : Block). b.written) are.block_is

  pub told : block.items ≡ length are.progress.items
  told = ap (λ (b : Block). b.items) are.block_is

  abbrev pub full_now : Bool
  full_now = is_full taking old old_items are.progress

  -- ---- room

  -- whether a buffer is short, by the block
  pub full_is : full_now ≡ leaves_few block (length old) (taking.most_written now) (length old_items) taking.most_items
  full_is = λ i. leaves_few (sym are.block_is i) (length old) (taking.most_written (sym are.left i)) (length old_items) taking.most_items

  -- the same by the numbers that a call has
  pub full_by : (size most item_size : ℕ) → size ≡ length old → most ≡ taking.most_written now → item_size ≡ length old_items →
      full_now ≡ leaves_few block size most item_size taking.most_items
  full_by size most item_size size_is most_is items_are =
      full_is ∙ (λ i. leaves_few block (sym size_is i) (sym most_is i) (sym items_are i) taking.most_items)

  -- ---- one more item, which writes after those before it

  pub one_more : (own written : List ℕ) (more : List Item) (size : ℕ) (rest : List ℕ) (more_items : List Item) (after : Held)
      → own ≡ take (length own) (drop block.taken input) → length own ≤ length input - block.taken → full_now ≡ false
      → is_one taking own ≡ true → taking.Takes now next own written more after → size ≡ length written
      → rest ≡ with_front written (drop block.written buffer) → more_items ≡ with_front (are.progress.items ++ more) old_items → Keeps after →
      AreSoFar taking Keeps held offset input old old_items (with_item block (length own) size (length more))
      ((next + taking.step * length own) % 2 ^ 64) after (take block.written buffer ++ rest) more_items
  one_more own written more size rest more_items after own_is there room whole takes size_is rest_is items_are keeps =
      let before = are.progress in
      let T : Held → Type 0 = λ it. taking.Takes it before.next own written more after in
      let N : ℕ → Type 0 = λ at. taking.Takes now at own written more after in
      let progress : Progress Held Item = record {
        taken = before.taken ++ own;
        written = before.written ++ written;
        items = before.items ++ more;
        next = (next + taking.step * length own) % 2 ^ 64;
        held = after;
      } in
      let e_taken : block.taken + length own ≡ length progress.taken = omega (arith, used, length-append before.taken own) in
      let e_written : block.written + size ≡ length progress.written =
      omega (arith, put, size_is, length-append before.written written) in
      let e_items : block.items + length more ≡ length progress.items = omega (arith, told, length-append before.items more) in
      record {
        count = suc are.count;
        progress = progress;
        goes = (
          before,
          are.goes,
          record {
            own = own;
            written = written;
            items = more;
            room = room;
            whole = whole;
            takes = subst T are.left (subst N are.next_is takes);
            taken_are = refl;
            written_are = refl;
            items_are = refl;
            next_is = ap (λ at. (at + taking.step * length own) % 2 ^ 64) are.next_is;
          },
        );
        taken_are =
            take-add block.taken (length own) input
            ∙ ap (λ front. front ++ take (length own) (drop block.taken input)) are.taken_are
            ∙ ap (λ more. before.taken ++ more) (sym own_is);
        within = omega (arith, are.within, there);
        block_is = λ i. record {
          taken = e_taken i;
          written = e_written i;
          items = e_items i;
          refused = (are.block_is i).refused;
          need = (are.block_is i).need;
          need_items = (are.block_is i).need_items;
        };
        next_is = refl;
        left = refl;
        keeps = keeps;
        front = written_behind before.written written old buffer rest block.written put are.front rest_is;
        items_are = items_are;
      }

  -- one that writes nothing
  pub one_silent : (own : List ℕ) (after : Held) → own ≡ take (length own) (drop block.taken input)
      → length own ≤ length input - block.taken → full_now ≡ false → is_one taking own ≡ true → taking.Takes now next own [] [] after
      → Keeps after →
      AreSoFar taking Keeps held offset input old old_items (with_item block (length own) 0 0)
      ((next + taking.step * length own) % 2 ^ 64) after buffer items
  one_silent own after own_is there room whole takes keeps =
      let more =
      one_more own [] [] 0 (drop block.written buffer) items after own_is there room whole takes refl refl
      (are.items_are ∙ ap (λ front. with_front front old_items) (sym (append-nil are.progress.items))) keeps in
      subst (λ b. AreSoFar taking Keeps held offset input old old_items (with_item block (length own) 0 0)
      ((next + taking.step * length own) % 2 ^ 64) after b items) (take-append-drop block.written buffer) more

  -- there is room for one more
  pub room_left : taking.most_written now ≤ length old - block.written → taking.most_items ≤ length old_items - block.items
      → full_now ≡ false
  room_left written some =
      full_is
      ∙ ap (λ short. short || nat_lt (length old_items - block.items) taking.most_items)
      (le-ltb (length old - block.written) (taking.most_written now) written)
      ∙ le-ltb (length old_items - block.items) taking.most_items some

  -- ---- the end

  ended : (status : ℕ) (out : Block) (after : Held) → ends taking (drop block.taken input) old old_items are.progress status out after →
      AreTaken taking held offset input old old_items status out buffer items after
  ended status out after end =
      record {
        count = are.count;
        progress = are.progress;
        rest = drop block.taken input;
        goes = are.goes;
        taken_are = sym (take-append-drop block.taken input) ∙ ap (λ front. front ++ drop block.taken input) are.taken_are;
        written_are = are.front;
        items_are = are.items_are;
        end = end;
      }

  -- nothing more is taken
  same_block : block ≡ blocks.block_after are.progress 0 0 0
  same_block =
      let all : length are.progress.taken ≡ length are.progress.taken + 0 = omega arith in
      are.block_is ∙ (λ i. record {
        taken = all i;
        written = length are.progress.written;
        items = length are.progress.items;
        refused = 0;
        need = 0;
        need_items = 0;
      })

  -- all are taken
  pub ends_done : length input ≤ block.taken → AreTaken taking held offset input old old_items (number_of statuses.Done) block buffer items now
  ends_done all =
      ended (number_of statuses.Done) block now (go (drop block.taken input) (omega (arith, all, length-drop block.taken input)))
    where
      go : (rest : List ℕ) → length rest ≡ 0 → ends taking rest old old_items are.progress (number_of statuses.Done) block now
      go [] none = (refl, same_block, are.left)
      go (first ∷ more) none = absurd (omega (arith, none))

  -- the next item isn't taken
  stopped : (status : ℕ) (out : Block) (after : Held) → block.taken < length input
      → ((first : ℕ) (more : List ℕ) → drop block.taken input ≡ first ∷ more →
      blocks.ends_full taking full_now old old_items are.progress (taking.size_of first) (first ∷ more) status out after) →
      AreTaken taking held offset input old old_items status out buffer items after
  stopped status out after some stops =
      ended status out after (go (drop block.taken input) (omega (arith, some, length-drop block.taken input)) refl)
    where
      go : (rest : List ℕ) → 0 < length rest → drop block.taken input ≡ rest → ends taking rest old old_items are.progress status out after
      go [] none is = absurd (omega (arith, none))
      go (first ∷ more) none is = stops first more is

  -- a buffer is short for one more
  pub ends_full : block.taken < length input → full_now ≡ true →
      AreTaken taking held offset input old old_items (number_of statuses.SmallBuffer)
      (with_need block (length old) (taking.most_written now) (length old_items) taking.most_items) buffer items now
  ends_full some full =
      let out : Block = with_need block (length old) (taking.most_written now) (length old_items) taking.most_items in
      let all : length are.progress.taken ≡ length are.progress.taken + 0 = omega arith in
      stopped (number_of statuses.SmallBuffer) out now some (λ first more is.
      subst (λ f. blocks.ends_full taking f old old_items are.progress (taking.size_of first) (first ∷ more)
      (number_of statuses.SmallBuffer) out now) (sym full) (
        refl,
        (λ i. with_need (are.block_is i) (length old) (taking.most_written (are.left i)) (length old_items) taking.most_items)
            ∙ (λ i. record {
              taken = all i;
              written = length are.progress.written;
              items = length are.progress.items;
              refused = 0;
              need = blocks.needed (blocks.is_short taking (length old) are.progress) (taking.most_written are.progress.held);
              need_items = blocks.needed (blocks.lacks_item taking (length old_items) are.progress) taking.most_items;
            }),
        are.left,
      ))

  -- the same by the numbers that a call has
  pub ends_full_by : (size most item_size : ℕ) (out : Block) → size ≡ length old → most ≡ taking.most_written now
      → item_size ≡ length old_items → block.taken < length input → leaves_few block size most item_size taking.most_items ≡ true
      → out ≡ with_need block size most item_size taking.most_items →
      AreTaken taking held offset input old old_items (number_of statuses.SmallBuffer) out buffer items now
  ends_full_by size most item_size out size_is most_is items_are some full out_is =
      subst (λ b. AreTaken taking held offset input old old_items (number_of statuses.SmallBuffer) b buffer items now)
      (sym (out_is ∙ (λ i. with_need block (size_is i) (most_is i) (items_are i) taking.most_items)))
      (ends_full some (full_by size most item_size size_is most_is items_are ∙ full))

  -- nothing of the next item is taken
  pub none_refused : with_refused block 0 ≡ block
  none_refused =
      let all : block.taken + 0 ≡ block.taken = omega arith in
      let none : 0 ≡ block.refused = sym (ap (λ (b : Block). b.refused) are.block_is) in
      λ i. record {
        taken = all i;
        written = block.written;
        items = block.items;
        refused = none i;
        need = block.need;
        need_items = block.need_items;
      }

  -- the words of the next item aren't all there
  pub ends_cut : block.taken < length input → full_now ≡ false
      → length input - block.taken < taking.size_of (slice_index (drop block.taken input) 0) →
      AreTaken taking held offset input old old_items (number_of statuses.BadWordCount) block buffer items now
  ends_cut some full short =
      stopped (number_of statuses.BadWordCount) block now some (λ first more is.
      let few : length (first ∷ more) < taking.size_of first =
      subst (λ rest. length rest < taking.size_of (slice_index rest 0)) is (omega (arith, short, length-drop block.taken input)) in
      subst (λ f. blocks.ends_full taking f old old_items are.progress (taking.size_of first) (first ∷ more)
      (number_of statuses.BadWordCount) block now) (sym full)
      (subst (λ cut. blocks.ends_whole taking cut are.progress (taking.size_of first) (first ∷ more)
      (number_of statuses.BadWordCount) block now)
      (sym (lt-ltb (length (first ∷ more)) (taking.size_of first) few)) (refl, same_block, are.left)))

  -- the next item is refused
  pub ends_refused : (count : ℕ) (why : Status) (after : Held) → block.taken < length input → full_now ≡ false
      → count ≡ taking.size_of (slice_index (drop block.taken input) 0) → count ≤ length input - block.taken
      → taking.Refuses now next (take count (drop block.taken input)) why after →
      AreTaken taking held offset input old old_items (number_of why) (with_refused block count) buffer items after
  ends_refused count why after some full asked there refuses =
      let out : Block = with_refused block count in
      stopped (number_of why) out after some (λ first more is.
      let rest : List ℕ = first ∷ more in
      let count_is : count ≡ taking.size_of first = asked ∙ ap (λ words. taking.size_of (slice_index words 0)) is in
      let enough : count ≤ length rest = subst (λ all. count ≤ length all) is (omega (arith, there, length-drop block.taken input)) in
      let size : count ≡ length (take count rest) = sym (length-take-le count rest enough) in
      let taken : block.taken + count ≡ length are.progress.taken + length (take count rest) = omega (arith, used, size) in
      let A : ℕ → Type 0 = λ n. blocks.ends_whole taking (nat_lt (length rest) n) are.progress n rest (number_of why) out after in
      let R : List ℕ → Type 0 = λ words. taking.Refuses now next (take count words) why after in
      let H : Held → Type 0 = λ it. taking.Refuses it next (take count rest) why after in
      let N : ℕ → Type 0 = λ at. taking.Refuses are.progress.held at (take count rest) why after in
      subst (λ f. blocks.ends_full taking f old old_items are.progress (taking.size_of first) rest (number_of why) out after) (sym full)
      (subst A count_is
      (subst (λ cut. blocks.ends_whole taking cut are.progress count rest (number_of why) out after)
      (sym (le-ltb (length rest) count enough)) (
        why,
        refl,
        (λ i. record {
          taken = taken i;
          written = (are.block_is i).written;
          items = (are.block_is i).items;
          refused = size i;
          need = (are.block_is i).need;
          need_items = (are.block_is i).need_items;
        }),
        subst N are.next_is (subst H are.left (subst R is refuses)),
      ))))
