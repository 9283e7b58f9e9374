use Rattle.sysex8_streams.proofs.HistoryLaws.{answers-alone, begun-alone}
use Rattle.sysex8_streams.proofs.OpenedLaws.{opens, opened-by}
use Rattle.sysex8_streams.proofs.TableLaws.{table-begun, table-answers, table-full, table-others}
use Rattle.sysex8_streams.proofs.laws.fed_streams_are_the_definition.Goals as goal

pub returns : goal.returns
returns c = record {
  opens = opens c.parts_of_one_group.ensures;
  opened = opened-by c.parts_of_one_group.ensures;
  begun = table-begun c.parts_of_one_group.ensures;
  answers = table-answers c.parts_of_one_group.ensures;
  begun_alone = begun-alone c.parts_of_one_group.ensures;
  answers_alone = answers-alone c.parts_of_one_group.ensures;
  full = table-full;
  others = table-others;
}
