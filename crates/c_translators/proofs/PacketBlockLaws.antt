-- Packets that are taken one after another.
use Rattle.std.proofs.Common.{ℕ, ◌≡◌, ◌≤◌, ◌<◌, ◌+◌, ◌*◌, ◌-◌, ◌%◌, ◌^◌, ◌∙◌, refl, ap, sym, subst, arith, Bool, true, false}
use Rattle.std.proofs.Common.{List, [], ◌∷◌, ◌++◌, length, take, drop, length-drop, Option, Some, None}
use Rattle.std.proofs.lemmas.List.{length-take-le}
use Rattle.std.specs.Prelude.{nat_lt, slice_index, slice_set}
use Rattle.std.proofs.lemmas.Bool.{ltb-false, ltb-true}
use Rattle.packet_words.specs.Words.{words_asked}
use Rattle.ump_grammar.specs.Reason.{reason}
use Rattle.ump_grammar.specs.declared.packet.Packet.{Packet}
use Rattle.midi_meaning.specs.declared.listed.Listed.{Listed}
use Rattle.midi_meaning.specs.Listing.{is_carried, listed as line_of}
use Rattle.midi_meaning.specs.Parts.{group_of}
use Rattle.down_translator.specs.Held.{DownState, begun_at_in, paired_of, whole_in}
use Rattle.down_translator.specs.Step.{lane_of, piece_of}
use Rattle.c_answers.specs.Blocks.{is_full, is_one, leaves_few, nothing_taken, with_item, with_refused}
use Rattle.c_answers.specs.Fronts.{with_front}
use Rattle.c_answers.specs.Numbers.{number_of}
use Rattle.c_answers.specs.Whole.{is_whole}
use Rattle.c_answers.specs.declared.status.Status.{Status}
use Rattle.c_answers.specs.declared.block.Block.{Block}
use Rattle.c_translators.specs.Down.{IsTaken, most_bytes}
use Rattle.c_translators.proofs.DownLaws.{refuses_keeps}
use Rattle.c_translators.specs.PacketBlocks.{AreTaken, is_front_refused, packets}
use Rattle.c_translators.specs.Pieces.{piece_shown}
use Rattle.c_translators.specs.declared.piece.Piece.{Piece}
use Rattle.c_answers.proofs.BlockLaws as laws
use Rattle.c_answers.proofs.FrontLaws.{set_front}

pub piece_written : (count lane : ℕ) (line : Option Listed) → (piece_shown count lane line).written ≡ count
piece_written count lane None = refl
piece_written count lane (Some line) = refl

-- the first two words
pub two_in : (words : List ℕ) → 2 ≤ length words → take 2 words ≡ slice_index words 0 ∷ slice_index words 1 ∷ []
two_in [] there = absurd (omega (arith, there))
two_in (first ∷ []) there = absurd (omega (arith, there))
two_in (first ∷ second ∷ more) there = refl

-- words that are as many as the first one asks for are those of one packet
pub whole_is_one : (words : List ℕ) → is_whole words ≡ true → is_one packets words ≡ true
whole_is_one [] whole = whole
whole_is_one (first ∷ more) whole = whole

-- so far: a buffer that was large enough stays so
abbrev pub AreSoFar : DownState → ℕ → List ℕ → List ℕ → List Piece → Block → ℕ → DownState → List ℕ → List Piece → Type 0
AreSoFar state offset words old old_pieces block next now buffer pieces =
    laws.AreSoFar packets (λ held. most_bytes held ≡ most_bytes state) state offset words old old_pieces block next now buffer pieces

pub none_yet : (state : DownState) (offset : ℕ) (words old : List ℕ) (old_pieces : List Piece)
    → AreSoFar state offset words old old_pieces nothing_taken offset state old old_pieces
none_yet state offset words old old_pieces =
    laws.none_yet packets (λ held. most_bytes held ≡ most_bytes state) state offset words old old_pieces refl

module _ (state : DownState) (offset : ℕ) (words old : List ℕ) (old_pieces : List Piece) (block : Block) (next : ℕ) (now : DownState)
    (buffer : List ℕ) (pieces : List Piece)
    (are : AreSoFar state offset words old old_pieces block next now buffer pieces) where
  -- whether a buffer is short, by the numbers that a call has
  pub full_by : (size most item_size : ℕ) → size ≡ length old → most ≡ most_bytes now → item_size ≡ length old_pieces →
      is_full packets old old_pieces are.progress ≡ leaves_few block size most item_size 1
  full_by = laws.full_by packets (λ held. most_bytes held ≡ most_bytes state) state offset words old old_pieces block next now buffer pieces are

  -- one more packet is written after those before it
  pub one_more : (count : ℕ) (packet : Packet) (piece : Piece) (rest : List ℕ) (after : DownState) → count ≤ length words - block.taken
      → is_full packets old old_pieces are.progress ≡ false → block.items < length old_pieces →
      IsTaken now next (take count (drop block.taken words)) packet piece after
      → rest ≡ with_front (piece_of now packet) (drop block.written buffer) → most_bytes after ≡ most_bytes now →
      AreSoFar state offset words old old_pieces (with_item block count piece.written 1)
      ((next + 4 * count) % 2 ^ 64) after (take block.written buffer ++ rest) (slice_set pieces block.items piece)
  one_more count packet piece rest after there full room taken is keeps =
      let own = take count (drop block.taken words) in
      let size : length own ≡ count = length-take-le count (drop block.taken words) (omega (arith, there, length-drop block.taken words)) in
      let bytes = piece_of now packet in
      let piece_size : piece.written ≡ length bytes =
      ap (λ (p : Piece). p.written) taken.shown
      ∙ piece_written (length bytes) (lane_of (group_of packet) (is_carried (paired_of now) (whole_in now packet) packet))
      (line_of (paired_of now) (begun_at_in now packet) next packet) in
      let told : block.items ≡ length are.progress.items = ap (λ (b : Block). b.items) are.block_is in
      let own_is : own ≡ take (length own) (drop block.taken words) = ap (λ n. take n (drop block.taken words)) (sym size) in
      let set : slice_set pieces block.items piece ≡ with_front (are.progress.items ++ piece ∷ []) old_pieces =
      ap (λ n. slice_set pieces n piece) told
      ∙ ap (λ ps. slice_set ps (length are.progress.items) piece) are.items_are
      ∙ set_front are.progress.items old_pieces piece (omega (arith, told, room)) in
      let S : ℕ → Type 0 =
      λ n. AreSoFar state offset words old old_pieces (with_item block n piece.written 1)
      ((next + 4 * n) % 2 ^ 64) after (take block.written buffer ++ rest) (slice_set pieces block.items piece) in
      subst S size
      (laws.one_more packets (λ held. most_bytes held ≡ most_bytes state) state offset words old old_pieces block next now buffer pieces are
      own bytes (piece ∷ []) piece.written rest (slice_set pieces block.items piece) after own_is (omega (arith, size, there)) full
      (whole_is_one own taken.read.whole)
      (record { packet = packet; piece = piece; taken = taken; bytes_are = refl; pieces_are = refl }) piece_size is set (keeps ∙ are.keeps))

  -- what is left of a call that ends since the next packet isn't taken
  pub record EndsAtFront (lent : List ℕ) (refused : Status × ℕ) (new : List ℕ) (after : DownState) : Type 0 where
    pub taken : AreTaken state offset words old old_pieces (number_of refused.0) (with_refused block refused.1) buffer pieces after
    pub same : new ≡ lent
    pub keeps : most_bytes after ≡ most_bytes now

  pub ends_at_front : (rest lent : List ℕ) (refused : Status × ℕ) (piece : Piece) (new : List ℕ) (after : DownState)
      → block.taken < length words → is_full packets old old_pieces are.progress ≡ false → rest ≡ drop block.taken words →
      is_front_refused (nat_lt (length rest) (words_asked (slice_index rest 0))) now next rest lent (words_asked (slice_index rest 0))
      refused piece new after →
      EndsAtFront lent refused new after
  ends_at_front rest lent refused piece new after some full rest_is front = go (nat_lt (length rest) count) refl front
    where
      count : ℕ
      count = words_asked (slice_index rest 0)

      size : length rest ≡ length words - block.taken
      size = ap length rest_is ∙ length-drop block.taken words

      asked : count ≡ words_asked (slice_index (drop block.taken words) 0)
      asked = ap (λ ws. words_asked (slice_index ws 0)) rest_is

      go : (cut : Bool) → nat_lt (length rest) count ≡ cut → is_front_refused cut now next rest lent count refused piece new after →
          EndsAtFront lent refused new after
      go true short none =
          let T : Block → Type 0 = λ b. AreTaken state offset words old old_pieces (number_of refused.0) b buffer pieces after in
          let S : Status → Type 0 = λ why. AreTaken state offset words old old_pieces (number_of why) block buffer pieces after in
          let H : DownState → Type 0 =
          λ held. AreTaken state offset words old old_pieces (number_of (refused.0)) block buffer pieces held in
          let few : length words - block.taken < words_asked (slice_index (drop block.taken words) 0) =
          omega (arith, size, asked, ltb-true (length rest) count short) in
          let same_block : block ≡ with_refused block refused.1 =
          sym (laws.none_refused packets (λ held. most_bytes held ≡ most_bytes state) state offset words old old_pieces block next now buffer
          pieces are) ∙ ap (λ (r : Status × ℕ). with_refused block r.1) (sym none.0) in
          record {
            taken = subst T same_block (subst H (sym none.2)
                (subst (λ (r : Status × ℕ). AreTaken state offset words old old_pieces (number_of r.0) block buffer pieces now) (sym none.0)
                (laws.ends_cut packets (λ held. most_bytes held ≡ most_bytes state) state offset words old old_pieces block next now buffer
                pieces are some full few)));
            same = none.1;
            keeps = ap most_bytes none.2;
          }
      go false long (counted, taken) =
          let T : ℕ → Type 0 =
          λ n. AreTaken state offset words old old_pieces (number_of refused.0) (with_refused block n) buffer pieces after in
          let R : List ℕ → Type 0 =
          λ ws. packets.Refuses now next (take count ws) refused.0 after in
          record {
            taken = subst T (sym counted)
                (laws.ends_refused packets (λ held. most_bytes held ≡ most_bytes state) state offset words old old_pieces block next now buffer
                pieces are count refused.0 after some full asked
                (omega (arith, size, ltb-false (length rest) count long)) (subst R rest_is taken.0));
            same = taken.1;
            keeps = refuses_keeps (is_whole (take count rest)) (reason (take count rest)) now (take count rest) refused.0 after taken.0;
          }
