-- How many words spell a packet.
use Rattle.std.proofs.Common.{◌≡◌, ◌<◌, ℕ, ◌/◌, ◌^◌, List, length, get_or, sym, ◌∙◌, ap, arith}
use Rattle.packet_words.specs.Words.{IsWhole, word_counts}
use Rattle.ump_grammar.specs.declared.packet.Packet.{Packet}
use Rattle.ump_grammar.specs.declared.packet.Packet.TheVariants as packet
use Rattle.ump_grammar.specs.WordFields.{type_of}
use Rattle.ump_grammar.specs.Reading.{Encodes}
use Rattle.ump_grammar.specs.Replies.{word_count}
use Rattle.ump_grammar.specs.Spelling.{Spells}

-- as many as their type asks for
of_type : (words : List ℕ) (kind : ℕ) → get_or words 0 0 < 2 ^ 32 → IsWhole words → type_of words ≡ kind
    → length words ≡ get_or word_counts kind 4
of_type words kind below whole is =
    let top : get_or words 0 0 / 2 ^ 28 ≡ kind = omega arith in
    whole ∙ ap (λ n. get_or word_counts n 4) top

-- as many as the row of the packet says
pub spelled-count : (p : Packet) (words : List ℕ) → get_or words 0 0 < 2 ^ 32 → Spells p words → length words ≡ word_count p
spelled-count (packet.Utility status value) words below s = of_type words 0 below s.whole s.row.0
spelled-count (packet.System group message) words below s = of_type words 1 below s.whole s.row.0
spelled-count (packet.Voice1 group message) words below s = of_type words 2 below s.whole s.row.0
spelled-count (packet.Exclusive group form bytes) words below s = of_type words 3 below s.whole s.row.0
spelled-count (packet.Voice2 group message) words below s = of_type words 4 below s.whole s.row.0
spelled-count (packet.Data8 group kept) words below s = of_type words 5 below s.whole s.row.0
spelled-count (packet.Flex group kept) words below s = of_type words 13 below s.whole s.row.0
spelled-count (packet.Stream format status low second third fourth) words below s = of_type words 15 below s.whole s.row.0
spelled-count (packet.Reserved kept) words below s = sym (ap length s.row.1)

-- the words that are lent of an encoded packet are as many as its row says
pub encoded_count : (p : Packet) (words encoded : List ℕ) → words ≡ encoded → get_or words 0 0 < 2 ^ 32 → Encodes p encoded
    → length words ≡ word_count p
encoded_count p words encoded same below e =
    let first : get_or encoded 0 0 < 2 ^ 32 = rw (← same) below in
    ap length same ∙ spelled-count p encoded first e.spelled
