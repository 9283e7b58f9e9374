use Rattle.std.proofs.Common.{◌≡◌, ◌≤◌, ◌*◌, ◌∙◌, ℕ, List, length, take, ap, sym, subst, arith}
use Rattle.packet_words.specs.Words.{IsPacket, words_asked, words_of}
use Rattle.c_pure.proofs.CutLaws.{own_count, own_packet}
use Rattle.c_pure.proofs.packets.front.Goals as goal

pub returns : goal.returns
returns c =
    let order = c.args.order in
    let bytes = c.args.bytes.now in
    let words : List ℕ = c.words_in.result in
    let count = c.words_in_packet-count.result in
    let there : 4 * count ≤ length bytes = c.if-bytes-count.false in
    let size : length words ≡ count = ap length c.words_in.ensures ∙ own_count order bytes count there in
    let asked = c.words_in_packet-count.ensures.count in
    let packet : IsPacket order (take (4 * count) bytes) =
    own_packet order bytes count (asked ∙ ap words_asked c.word_in.ensures)
    (omega (arith, asked, c.words_in_packet-count.ensures.size)) there in
    let F : ℕ → Type 0 = λ n. IsPacket order (take (4 * n) bytes) × (words ≡ words_of order (take (4 * n) bytes))
    × (4 * n ≤ length bytes) × (n ≤ c.args.places) in
    subst F (sym size) (packet, c.words_in.ensures, there, c.if-places-count.false)
