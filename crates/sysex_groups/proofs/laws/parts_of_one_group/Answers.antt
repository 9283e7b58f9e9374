use Rattle.std.proofs.lemmas.Bool.{eq-eqb, ne_eqb}
use Rattle.sysex_groups.proofs.ExclusiveLaws.{of_other_group, of_own_group, bytes_of-more, opened-other, begun_over-own}
use Rattle.sysex_groups.proofs.TableLaws.{of_group-of_group}
use Rattle.sysex_groups.proofs.laws.parts_of_one_group.Goals as goal

pub returns : goal.returns
returns c = record {
  of_another = λ group part past other. of_other_group group part past (ne_eqb part.group group other);
  of_its_own = λ group part past same. of_own_group group part past (eq-eqb part.group group same);
  of_itself = of_group-of_group;
  bytes = bytes_of-more;
  open_stays = λ room group part past other. opened-other room group part past (ne_eqb part.group group other);
  begun = λ room group part past same fitting. begun_over-own room part group past (eq-eqb part.group group same) fitting;
}
