use Rattle.std.proofs.Common.{◌≡◌, ◌+◌, ◌*◌, ◌++◌, length, take}
use Rattle.text_lines.specs.Fields.{hex_words}
use Rattle.text_lines.proofs.packets.put_words.Given as goal

abbrev pub invariant-loop-word : goal.invariant-loop-word
invariant-loop-word l =
    (l.line ≡ l.initial.line ++ hex_words (take l.word-index l.words)) × (length l.line ≡ length l.initial.line + 9 * l.word-index)
