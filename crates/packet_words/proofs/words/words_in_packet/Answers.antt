use Rattle.std.proofs.Common.{◌/◌, arith}
use Rattle.std.proofs.lemmas.List.{get_or_default}
use Rattle.packet_words.specs.Words.{word_counts}
use Rattle.packet_words.proofs.Counts.{words_asked_in}
use Rattle.packet_words.proofs.words.words_in_packet.Goals as goal

pub returns-clause-count : goal.returns-clause-count
returns-clause-count c = get_or_default word_counts (c.args.first / 268435456) 0 4 (omega arith)

pub returns-clause-size : goal.returns-clause-size
returns-clause-size c = words_asked_in c.args.first
