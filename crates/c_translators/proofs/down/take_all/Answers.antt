use Rattle.std.proofs.Common.{◌≡◌, ◌≤◌, ◌<◌, ◌+◌, ◌*◌, ◌-◌, ◌%◌, ◌^◌, ◌∙◌, ℕ, false, List}
use Rattle.std.proofs.Common.{length, length-drop, take, drop, sym, ap, subst, arith}
use Rattle.std.proofs.lemmas.List.{set-get_or, take_all}
use borrow.Rule.Slice.PartMut.{put_mid}
use Rattle.std.specs.Prelude.{Ok, slice_set}
use Rattle.down_translator.specs.Step.{piece_of}
use Rattle.down_translator.specs.Held.{DownState}
use Rattle.c_answers.specs.Blocks.{is_full, leaves_few, with_item}
use Rattle.c_answers.specs.Fronts.{with_front}
use Rattle.c_answers.specs.Numbers.{number_of}
use Rattle.c_answers.specs.declared.block.Block.{Block}
use Rattle.c_translators.specs.PacketBlocks.{AreTaken, packets}
use Rattle.c_translators.specs.Down.{IsTaken, IsTakenOrRefused, most_bytes}
use Rattle.c_translators.specs.declared.piece.Piece.{Piece}
use Rattle.c_answers.proofs.BlockLaws as laws
use Rattle.c_translators.proofs.PacketBlockLaws.{AreSoFar, ends_at_front, full_by, one_more, piece_written}
use Rattle.c_translators.proofs.DownLaws.{taken_keeps}
use Rattle.c_answers.proofs.FrontLaws.{front_fits, rest_given_back, rest_lent, rest_unchanged}
use Rattle.c_translators.proofs.down.take_all.Goals as goal

pub returns-then-is_full-clause-answer : goal.returns-then-is_full-clause-answer
returns-then-is_full-clause-answer c =
    let l = c.loop-block in
    laws.ends_full_by packets (λ held. most_bytes held ≡ most_bytes c.args.down.now) c.args.down.now c.args.offset c.args.words.now
    c.args.buffer.now c.args.pieces.now l.block l.next l.down l.buffer l.pieces l.invariant (length l.buffer) c.args.most_written
    (length l.pieces) c.is_full.new.self l.auto.buffer (c.requires ∙ sym l.invariant.keeps) l.auto.pieces c.loop-block-test.true
    (sym c.is_full.ensures.answer ∙ c.if-is_full.true) (c.is_full.ensures.short c.if-is_full.true)

-- the bytes of the packet are in the rest of the buffer
fitting : (state : DownState) (offset : ℕ) (words old : List ℕ) (piece : Piece) (new : List ℕ) (after : DownState)
    → IsTakenOrRefused state offset words old (Ok piece) new after → length new ≡ length old → piece.written ≤ length old
fitting state offset words old piece new after taken same =
    let packet = taken.0 in
    let size : piece.written ≡ length (piece_of state packet) =
    ap (λ (p : Piece). p.written) taken.1.shown ∙ piece_written (length (piece_of state packet)) _ _ in
    omega (arith, size, front_fits (piece_of state packet) old new taken.2 same)

pub add-requires-clause-written : goal.add-requires-clause-written
add-requires-clause-written c =
    let l = c.loop-block in
    let fits = fitting l.down l.next _ _ c.take_front.new.piece c.take_front.new.buffer c.take_front.new.down c.in-Ok.ensures.answer.2
    c.take_front.auto.buffer in
    omega (arith, fits)

pub loop-block-preserved : goal.loop-block-preserved
loop-block-preserved c =
    let l = c.loop-block in
    let b = c.is_full.new.self in
    let same : b ≡ l.block = c.is_full.ensures.same c.if-is_full.false in
    let are : AreSoFar c.args.down.now c.args.offset c.args.words.now c.args.buffer.now c.args.pieces.now b l.next l.down l.buffer l.pieces
    = subst (λ block. AreSoFar c.args.down.now c.args.offset c.args.words.now c.args.buffer.now c.args.pieces.now block l.next l.down l.buffer
    l.pieces) (sym same) l.invariant in
    let full : is_full packets c.args.buffer.now c.args.pieces.now are.progress ≡ false =
    full_by c.args.down.now c.args.offset c.args.words.now c.args.buffer.now c.args.pieces.now b l.next l.down l.buffer l.pieces are
    (length l.buffer) c.args.most_written (length l.pieces) l.auto.buffer (c.requires ∙ sym are.keeps) l.auto.pieces
    ∙ ap (λ block. leaves_few block (length l.buffer) c.args.most_written (length l.pieces) 1) same
    ∙ sym c.is_full.ensures.answer ∙ c.if-is_full.false in
    let count = c.in-Ok.count in
    let taken = c.in-Ok.ensures.answer.2 in
    let packet = taken.0 in
    let rest : List ℕ = take (length c.args.words.now - b.taken) (drop b.taken c.args.words.now) in
    let rest_is : rest ≡ drop b.taken c.args.words.now =
    take_all (length c.args.words.now - b.taken) (drop b.taken c.args.words.now) (omega (arith, length-drop b.taken c.args.words.now)) in
    let T : List ℕ → Type 0 = λ words. IsTaken l.down l.next (take count words) packet c.take_front.new.piece c.take_front.new.down in
    let front = taken.2 ∙ ap (with_front (piece_of l.down packet)) (rest_lent b.written l.buffer) in
    let keeps = taken_keeps l.down l.next _ _ (Ok c.take_front.new.piece) c.take_front.new.buffer c.take_front.new.down taken in
    let there : count ≤ length c.args.words.now - b.taken =
    omega (arith, c.in-Ok.ensures.answer.1, ap length rest_is, length-drop b.taken c.args.words.now) in
    let more =
    one_more c.args.down.now c.args.offset c.args.words.now c.args.buffer.now c.args.pieces.now b l.next l.down l.buffer l.pieces are
    count packet c.take_front.new.piece c.take_front.new.buffer c.take_front.new.down there full
    (omega (arith, c.is_full.ensures.item_room c.if-is_full.false, ap (λ (block : Block). block.items) same, l.auto.pieces))
    (subst T rest_is taken.1) front keeps in
    let B : List ℕ → Type 0 = λ buffer. AreSoFar c.args.down.now c.args.offset c.args.words.now c.args.buffer.now c.args.pieces.now
    (with_item b count c.take_front.new.piece.written 1)
    ((l.next + 4 * count) % 2 ^ 64) c.take_front.new.down buffer (slice_set l.pieces b.items c.take_front.new.piece) in
    let A : Block → Type 0 = λ block. AreSoFar c.args.down.now c.args.offset c.args.words.now c.args.buffer.now c.args.pieces.now block
    ((l.next + 4 * count) % 2 ^ 64) c.take_front.new.down
    (put_mid b.written (length l.buffer - b.written) l.buffer c.take_front.new.buffer) (slice_set l.pieces b.items c.take_front.new.piece) in
    subst A (sym c.add.ensures) (subst B (sym (rest_given_back b.written l.buffer c.take_front.new.buffer)) more)

pub returns-in-Err : goal.returns-in-Err
returns-in-Err c =
    let l = c.loop-block in
    let b = c.is_full.new.self in
    let same : b ≡ l.block = c.is_full.ensures.same c.if-is_full.false in
    let are : AreSoFar c.args.down.now c.args.offset c.args.words.now c.args.buffer.now c.args.pieces.now b l.next l.down l.buffer l.pieces
    = subst (λ block. AreSoFar c.args.down.now c.args.offset c.args.words.now c.args.buffer.now c.args.pieces.now block l.next l.down l.buffer
    l.pieces) (sym same) l.invariant in
    let full : is_full packets c.args.buffer.now c.args.pieces.now are.progress ≡ false =
    full_by c.args.down.now c.args.offset c.args.words.now c.args.buffer.now c.args.pieces.now b l.next l.down l.buffer l.pieces are
    (length l.buffer) c.args.most_written (length l.pieces) l.auto.buffer (c.requires ∙ sym are.keeps) l.auto.pieces
    ∙ ap (λ block. leaves_few block (length l.buffer) c.args.most_written (length l.pieces) 1) same
    ∙ sym c.is_full.ensures.answer ∙ c.if-is_full.false in
    let rest : List ℕ = take (length c.args.words.now - b.taken) (drop b.taken c.args.words.now) in
    let rest_is : rest ≡ drop b.taken c.args.words.now =
    take_all (length c.args.words.now - b.taken) (drop b.taken c.args.words.now) (omega (arith, length-drop b.taken c.args.words.now)) in
    let some : b.taken < length c.args.words.now = omega (arith, ap (λ (block : Block). block.taken) same, c.loop-block-test.true) in
    let ends =
    ends_at_front c.args.down.now c.args.offset c.args.words.now c.args.buffer.now c.args.pieces.now b l.next l.down l.buffer l.pieces are
    rest _ (c.in-Err.why, c.in-Err.count) c.take_front.new.piece c.take_front.new.buffer c.take_front.new.down some full rest_is
    c.in-Err.ensures.answer in
    let kept : slice_set l.pieces b.items c.take_front.new.piece ≡ l.pieces =
    ap (slice_set l.pieces b.items) c.in-Err.ensures.kept ∙ set-get_or l.pieces b.items _ in
    let A : Block → List ℕ → List Piece → Type 0 =
    λ block buffer pieces. AreTaken c.args.down.now c.args.offset c.args.words.now c.args.buffer.now c.args.pieces.now
    (number_of c.in-Err.why) block buffer pieces c.take_front.new.down in
    let buffer : List ℕ = put_mid b.written (length l.buffer - b.written) l.buffer c.take_front.new.buffer in
    record {
      answer = subst (λ pieces. A c.refuse.new.self buffer pieces) (sym kept)
          (subst (λ buffer. A c.refuse.new.self buffer l.pieces)
          (sym (rest_unchanged b.written l.buffer c.take_front.new.buffer ends.same))
          (subst (λ block. A block l.buffer l.pieces) (sym c.refuse.ensures) ends.taken));
      most = ends.keeps ∙ are.keeps;
    }
