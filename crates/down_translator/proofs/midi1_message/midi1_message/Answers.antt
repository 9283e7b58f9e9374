use Rattle.std.proofs.Common.{◌≡◌, List, ℕ, None, sym, ◌∙◌}
use Rattle.ump_grammar.specs.Reason.{reason}
use Rattle.ump_grammar.specs.Spelling.{Spells}
use Rattle.down_translator.proofs.Midi1Laws.{carries, none_begins}
use Rattle.down_translator.proofs.midi1_message.midi1_message.Goals as goal

pub returns-then-begins_midi1 : goal.returns-then-begins_midi1
returns-then-begins_midi1 c =
    let words : List ℕ = c.words-words.result.now in
    let fine : reason words ≡ None = c.words-words.ensures.0 in
    let spells : Spells c.args.packet.now words = c.words-words.ensures.1 in
    carries c.args.packet.now words c.message_in.result
    (record {
      lane = c.message_in.ensures.lane;
      status = c.message_in.ensures.status;
      first = c.message_in.ensures.first;
      second = c.message_in.ensures.second;
      attribute = c.message_in.ensures.attribute;
    })
    (sym c.begins_midi1.ensures ∙ c.if-begins_midi1.true) fine spells.row
    (c.spelled_packets_fit.ensures c.args.packet.now words spells fine)

pub returns-else-begins_midi1 : goal.returns-else-begins_midi1
returns-else-begins_midi1 c =
    none_begins c.args.packet.now c.words-words.result.now (sym c.begins_midi1.ensures ∙ c.if-begins_midi1.false) c.words-words.ensures.1.row
