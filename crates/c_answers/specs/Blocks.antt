-- How far a block call came. A block is words or bytes that are taken from the front, one item after another:
-- a packet of words, or one byte of a stream. All calls of this kind have this one definition.
use Rattle.std.specs.Prelude.{◌≡◌, ◌+◌, ◌*◌, ◌-◌, ◌%◌, ◌^◌, ◌==◌, ◌||◌, if◌then◌else◌, nat_lt, ℕ, zero, suc, Bool, true, false}
use Rattle.std.specs.Prelude.{List, [], ◌∷◌, ◌++◌, length, take}
use Rattle.c_answers.specs.Fronts.{with_front}
use Rattle.c_answers.specs.Numbers.{number_of}
use Rattle.c_answers.specs.declared.block.Block.{Block}
use Rattle.c_answers.specs.declared.status.Status.{Status}
use Rattle.c_answers.specs.declared.status.Status.TheVariants as statuses

-- nothing is taken
abbrev pub nothing_taken : Block
nothing_taken = record { taken = 0; written = 0; items = 0; refused = 0; need = 0; need_items = 0 }

-- what is needed of a buffer: `most` places if it is short, otherwise 0
abbrev pub needed : Bool → ℕ → ℕ
needed short most = if short then most else 0

-- whether the rest of the first or of the second buffer is too small for one more item, by their sizes and
-- the most places that an item may need in each
abbrev pub leaves_few : Block → ℕ → ℕ → ℕ → ℕ → Bool
leaves_few block size most item_size most_items = nat_lt (size - block.written) most || nat_lt (item_size - block.items) most_items

-- the block with what is needed of each buffer then
abbrev pub with_need : Block → ℕ → ℕ → ℕ → ℕ → Block
with_need block size most item_size most_items =
    record {
      taken = block.taken;
      written = block.written;
      items = block.items;
      refused = block.refused;
      need = needed (nat_lt (size - block.written) most) most;
      need_items = needed (nat_lt (item_size - block.items) most_items) most_items;
    }

-- the block after one more item that is taken: `count` words or bytes, and the places that it writes
abbrev pub with_item : Block → ℕ → ℕ → ℕ → Block
with_item block count written items =
    record {
      taken = block.taken + count;
      written = block.written + written;
      items = block.items + items;
      refused = block.refused;
      need = block.need;
      need_items = block.need_items;
    }

-- the block after an item of `count` words or bytes that is refused
abbrev pub with_refused : Block → ℕ → Block
with_refused block count =
    record {
      taken = block.taken + count;
      written = block.written;
      items = block.items;
      refused = count;
      need = block.need;
      need_items = block.need_items;
    }

-- ---- one item

-- How a handle takes one item:
--   size_of, step: the number of words or bytes of the item that begins with this one; what each adds to the offset
--   Takes: an item that is taken, by the state before it, its offset, its words or bytes, what it writes to
--   the first buffer and to the second one, and the state after it
--   Refuses: an item that is refused, with the status and the state after it
--   most_written, most_items: the most places that an item may need in the first buffer, and in the second one
pub record Taking (Held Item : Type 0) : Type 1 where
  pub size_of : ℕ → ℕ
  pub step : ℕ
  pub Takes : Held → ℕ → List ℕ → List ℕ → List Item → Held → Type 0
  pub Refuses : Held → ℕ → List ℕ → Status → Held → Type 0
  pub most_written : Held → ℕ
  pub most_items : ℕ

-- these are all the words or bytes of one item
abbrev pub is_one : {Held Item : Type 0} → Taking Held Item → List ℕ → Bool
is_one taking [] = false
is_one taking (first ∷ more) = taking.size_of first == length (first ∷ more)

-- ---- the items so far

-- the words or bytes of the items so far, what they wrote to both buffers, each in order, the offset of the
-- next item, and the state after them
pub record Progress (Held Item : Type 0) : Type 0 where
  pub taken : List ℕ
  pub written : List ℕ
  pub items : List Item
  pub next : ℕ
  pub held : Held

abbrev pub begun : {Held Item : Type 0} → Held → ℕ → Progress Held Item
begun held offset = record { taken = []; written = []; items = []; next = offset; held = held }

-- whether the rest of a first buffer of this size has fewer places than an item may need
abbrev pub is_short : {Held Item : Type 0} → Taking Held Item → ℕ → Progress Held Item → Bool
is_short taking size progress = nat_lt (size - length progress.written) (taking.most_written progress.held)

-- whether the rest of a second buffer of this size has
abbrev pub lacks_item : {Held Item : Type 0} → Taking Held Item → ℕ → Progress Held Item → Bool
lacks_item taking size progress = nat_lt (size - length progress.items) taking.most_items

-- whether one of the two is short, so that no item is taken
abbrev pub is_full : {Held Item : Type 0} → Taking Held Item → List ℕ → List Item → Progress Held Item → Bool
is_full taking old old_items progress = is_short taking (length old) progress || lacks_item taking (length old_items) progress

-- one more item, for which both buffers had room
pub record Adds {Held Item : Type 0} (taking : Taking Held Item) (old : List ℕ) (old_items : List Item)
    (before after : Progress Held Item) : Type 0 where
  pub own : List ℕ
  pub written : List ℕ
  pub items : List Item
  pub room : is_full taking old old_items before ≡ false
  pub whole : is_one taking own ≡ true
  pub takes : taking.Takes before.held before.next own written items after.held
  pub taken_are : after.taken ≡ before.taken ++ own
  pub written_are : after.written ≡ before.written ++ written
  pub items_are : after.items ≡ before.items ++ items
  pub next_is : after.next ≡ (before.next + taking.step * length own) % 2 ^ 64

-- the progress after `count` items, from this state and this offset on
abbrev pub Goes : {Held Item : Type 0} → Taking Held Item → List ℕ → List Item → Held → ℕ → ℕ → Progress Held Item → Type 0
Goes taking old old_items held offset zero progress = progress ≡ begun held offset
Goes {Held} {Item} taking old old_items held offset (suc count) progress =
    (before : Progress Held Item) × Goes taking old old_items held offset count before × Adds taking old old_items before progress

-- ---- the end

-- the block of this progress, by the words or bytes of a refused item and the places that are needed
abbrev pub block_after : {Held Item : Type 0} → Progress Held Item → ℕ → ℕ → ℕ → Block
block_after progress refused need need_items =
    record {
      taken = length progress.taken + refused;
      written = length progress.written;
      items = length progress.items;
      refused = refused;
      need = need;
      need_items = need_items;
    }

-- an item is refused with this status: it counts as taken, and nothing is written for it
abbrev pub EndsRefused : {Held Item : Type 0} → Taking Held Item → Progress Held Item → List ℕ → ℕ → Block → Held → Type 0
EndsRefused taking progress own status block after =
    (why : Status) × (status ≡ number_of why) × (block ≡ block_after progress (length own) 0 0)
    × taking.Refuses progress.held progress.next own why after

-- by whether some of the next item's `count` words are missing
abbrev pub ends_whole : {Held Item : Type 0} → Taking Held Item → Bool → Progress Held Item → ℕ → List ℕ → ℕ → Block → Held → Type 0
ends_whole taking true progress count rest status block after =
    (status ≡ number_of statuses.BadWordCount) × (block ≡ block_after progress 0 0 0) × (after ≡ progress.held)
ends_whole taking false progress count rest status block after = EndsRefused taking progress (take count rest) status block after

-- by whether a buffer is short
abbrev pub ends_full : {Held Item : Type 0} → Taking Held Item → Bool → List ℕ → List Item → Progress Held Item → ℕ → List ℕ → ℕ → Block
    → Held → Type 0
ends_full taking true old old_items progress count rest status block after =
    (status ≡ number_of statuses.SmallBuffer)
    × (block ≡ block_after progress 0 (needed (is_short taking (length old) progress) (taking.most_written progress.held))
    (needed (lacks_item taking (length old_items) progress) taking.most_items))
    × (after ≡ progress.held)
ends_full taking false old old_items progress count rest status block after =
    ends_whole taking (nat_lt (length rest) count) progress count rest status block after

-- by the words or bytes that are left
abbrev pub ends : {Held Item : Type 0} → Taking Held Item → List ℕ → List ℕ → List Item → Progress Held Item → ℕ → Block → Held → Type 0
ends taking [] old old_items progress status block after =
    (status ≡ number_of statuses.Done) × (block ≡ block_after progress 0 0 0) × (after ≡ progress.held)
ends taking (first ∷ more) old old_items progress status block after =
    ends_full taking (is_full taking old old_items progress) old old_items progress (taking.size_of first) (first ∷ more) status block after

-- The items at the front are taken one after another: all of them, or up to one for which a buffer is short,
-- whose words aren't all there, or that is refused. What they write is at the front of the buffers.
pub record AreTaken {Held Item : Type 0} (taking : Taking Held Item) (held : Held) (offset : ℕ) (input old : List ℕ)
    (old_items : List Item) (status : ℕ) (block : Block) (new : List ℕ) (items : List Item) (after : Held) : Type 0 where
  pub count : ℕ
  pub progress : Progress Held Item
  pub rest : List ℕ
  pub goes : Goes taking old old_items held offset count progress
  pub taken_are : input ≡ progress.taken ++ rest
  pub written_are : new ≡ with_front progress.written old
  pub items_are : items ≡ with_front progress.items old_items
  pub end : ends taking rest old old_items progress status block after

-- the same of a call without buffers and offsets: the items write nothing
abbrev pub AreTakenAlone : {Held : Type 0} → Taking Held (Unit {0}) → Held → List ℕ → ℕ → Block → Held → Type 0
AreTakenAlone taking held input status block after = AreTaken taking held 0 input [] [] status block [] [] after
