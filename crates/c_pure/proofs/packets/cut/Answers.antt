use Rattle.std.proofs.Common.{◌≡◌, ◌≤◌, ◌+◌, ◌*◌, ◌-◌, ◌∙◌, ℕ, List, length, take, drop, refl, ap, sym, subst, arith, length-drop}
use borrow.Rule.Slice.PartMut.{put_mid}
use Rattle.packet_words.specs.Words.{IsPacket, words_of}
use Rattle.c_answers.specs.Fronts.{with_front}
use Rattle.c_answers.proofs.FrontLaws.{rest_given_back, rest_lent}
use Rattle.c_pure.proofs.CutLaws.{AreSoFar, one_more}
use Rattle.c_pure.proofs.packets.cut.Goals as goal

pub loop-packet-preserved : goal.loop-packet-preserved
loop-packet-preserved c =
    let l = c.loop-packet in
    let bytes = c.args.bytes.now in
    let words : List ℕ = c.as_slice-own.result.now in
    let same : words ≡ c.in-Ok.packet = c.as_slice-own.ensures.words in
    let F : List ℕ → List ℕ → Type 0 =
    λ left own. IsPacket c.args.order (take (4 * length own) left) × (own ≡ words_of c.args.order (take (4 * length own) left))
    × (4 * length own ≤ length left) × (length own ≤ length l.words - l.written) in
    let has = subst (F (drop l.taken bytes)) (sym same)
    (subst (λ left. F left c.in-Ok.packet) (rest_lent l.taken bytes) c.in-Ok.ensures) in
    let A : ℕ → List ℕ → Type 0 =
    λ count buffer. AreSoFar c.args.order bytes c.args.words.now (l.taken + 4 * length words) (l.written + count) buffer in
    subst (λ n. A n (put_mid l.written (length l.words - l.written) l.words c.put_words-written.new.buffer))
    (sym c.put_words-written.ensures.count)
    (subst (A (length words)) (sym (rest_given_back l.written l.words c.put_words-written.new.buffer))
    (one_more c.args.order bytes c.args.words.now l.taken l.written l.words l.invariant (length words) words
    c.put_words-written.new.buffer
    refl (omega (arith, has.2, length-drop l.taken bytes)) (omega (arith, has.3)) has.0 has.1
    (c.put_words-written.ensures.written ∙ ap (with_front words) (rest_lent l.written l.words))))
