use Rattle.std.proofs.Common.{None}
use Rattle.std.proofs.lemmas.List.{get_or-set_other}
use Rattle.sysex_groups.proofs.TableLaws.{table-begun, table-answers, table-alone, table-begun_alone}
use Rattle.sysex_groups.proofs.laws.fed_parts_are_the_definition.Goals as goal

pub returns : goal.returns
returns c = record {
  begun = table-begun;
  answers = table-answers;
  answers_alone = table-alone;
  begun_alone = table-begun_alone;
  others = λ table part group other. get_or-set_other table.groups part.group group _ None other;
}
