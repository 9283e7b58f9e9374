use Rattle.std.proofs.Common.{rules, ◌≡◌, ◌/◌, length, arith}
use Rattle.packet_words.proofs.Counts.{packet_count}
use Rattle.packet_words.proofs.words.words_in.Goals as goal
use Rattle.packet_words.proofs.words.words_in.Goals.{in-1, in-2, in-3, in_default}

pub invariant_of-result : goal.invariant_of-result
invariant_of-result c = packet_count c.args.order c.args.bytes.now c.requires

pub returns : goal.returns
returns c = elim c.match-count-div4.branch [
  | in-1 w ↦ search (rules, w.in-1, w.cells-is, c.word_in-first.ensures)
  | in-2 w ↦ search (rules, w.in-2, w.cells-is, c.word_in-first.ensures, w.word_in.ensures)
  | in-3 w ↦ search (rules, w.in-3, w.cells-is, c.word_in-first.ensures)
  | in_default w ↦
      let count = packet_count c.args.order c.args.bytes.now c.requires in
      let four : length c.args.bytes.now / 4 ≡ 4 = omega (arith, count.0, count.1, w.in_default) in
      search (
        rules,
        four,
        w.cells-is,
        c.word_in-first.ensures,
        w.word_in-in_default.ensures,
        w.word_in-in_default-2.ensures,
        w.word_in-in_default-3.ensures,
      )
]
