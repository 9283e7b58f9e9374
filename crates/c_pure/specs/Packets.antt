-- Bytes that are cut into the words of whole packets.
use Rattle.std.specs.Prelude.{◌≡◌, ◌-◌, ◌*◌, ◌==◌, nat_lt, if◌then◌else◌, ℕ, All, List, [], ◌∷◌, ◌++◌, length, flat_map}
use Rattle.std.specs.Prelude.{Option, Some, None}
use Rattle.std.specs.List.{concat}
use Rattle.packet_words.specs.Words.{IsPacket, word_at, words_asked, words_of}
use Rattle.packet_words.specs.declared.words.Order.{Order}
use Rattle.packet_words.specs.declared.words.Order.TheVariants.{Big, Little}
use Rattle.c_answers.specs.Blocks.{nothing_taken}
use Rattle.c_answers.specs.Fronts.{with_front}
use Rattle.c_answers.specs.Numbers.{number_of}
use Rattle.c_answers.specs.declared.block.Block.{Block}
use Rattle.c_answers.specs.declared.status.Status.{Status}
use Rattle.c_answers.specs.declared.status.Status.TheVariants as statuses

-- how many words the packet has that begins with these bytes
abbrev pub count_at : Order → List ℕ → ℕ
count_at order bytes = words_asked (word_at order bytes 0)

-- Why no packet is taken from the front of these bytes, by the number of places for its words, and how many
-- places it needs: there are no bytes; they are fewer than a word has; its words don't fit; its bytes aren't
-- all there.
abbrev pub stop_before : Order → ℕ → List ℕ → Option (Status × ℕ)
stop_before order places [] = Some (statuses.Done, 0)
stop_before order places (first ∷ more) =
    if nat_lt (length (first ∷ more)) 4 then Some (statuses.BadSize, 0)
    else (if nat_lt places (count_at order (first ∷ more)) then Some (statuses.SmallBuffer, count_at order (first ∷ more))
    else (if nat_lt (length (first ∷ more)) (4 * count_at order (first ∷ more)) then Some (statuses.BadSize, 0) else None))

-- the words of packets, of which these are the bytes
abbrev pub words_by : Order → List (List ℕ) → List ℕ
words_by order packets = flat_map (words_of order) packets

-- the block of these packets that were taken, with the number of places that are needed
abbrev pub block_of : Order → List (List ℕ) → ℕ → Block
block_of order packets need =
    record nothing_taken { taken = length (concat packets); written = length (words_by order packets); need = need }

-- The packets at the front of the bytes are taken, up to the first one that can't be: each has the number of
-- bytes that its first word says. Their words are at the front of the buffer.
pub record AreCut (order : Order) (bytes old : List ℕ) (status : ℕ) (new : List ℕ) (block : Block) : Type 0 where
  pub packets : List (List ℕ)
  pub rest : List ℕ
  pub why : Status
  pub need : ℕ
  pub whole : All (IsPacket order) packets
  pub bytes_are : bytes ≡ concat packets ++ rest
  pub end : stop_before order (length old - length (words_by order packets)) rest ≡ Some (why, need)
  pub answer : status ≡ number_of why
  pub front : new ≡ with_front (words_by order packets) old
  pub block_is : block ≡ block_of order packets need

-- the order that the flags ask for: the first byte of a word is its highest, or its lowest
abbrev pub order_by : ℕ → Option Order
order_by flags = if flags == 0 then Some Big else (if flags == 8 then Some Little else None)

abbrev pub cuts_by : Option Order → List ℕ → List ℕ → ℕ → List ℕ → Block → Type 0
cuts_by None bytes old status new block = (status ≡ number_of statuses.BadFlags) × (new ≡ old) × (block ≡ nothing_taken)
cuts_by (Some order) bytes old status new block = AreCut order bytes old status new block

abbrev pub ArePacketsIn : List ℕ → ℕ → List ℕ → ℕ → List ℕ → Block → Type 0
ArePacketsIn bytes flags old status new block = cuts_by (order_by flags) bytes old status new block
