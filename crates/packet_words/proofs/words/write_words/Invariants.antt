use Rattle.std.proofs.Common.{◌≡◌, ◌*◌, length, flat_map, take}
use Rattle.packet_words.specs.Words.{word_bytes}
use Rattle.packet_words.proofs.words.write_words.Given as goal

abbrev pub invariant-loop-word : goal.invariant-loop-word
invariant-loop-word l = (l.bytes ≡ flat_map (word_bytes l.order) (take l.word-index l.words)) × (length l.bytes ≡ 4 * l.word-index)
