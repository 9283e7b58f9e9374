use Rattle.std.proofs.Common.{refl}
use Rattle.ci_responder.proofs.RowLaws.{own_first, version_00_next}
use Rattle.ci_responder.proofs.laws.rows_stand_in_their_order.Goals as goal

pub returns-clause-order : goal.returns-clause-order
returns-clause-order c = record { collision = own_first; old_version = version_00_next }

pub returns-clause-worked : goal.returns-clause-worked
returns-clause-worked c = record {
  own_discovery_of_version_00 = refl;
  own_invalidation = refl;
  version_00_to_another = refl;
  invalidation_to_another = refl;
  report_to_another = refl;
  invalidation_of_another = refl;
  invalidation_to_all = refl;
  report_to_all = refl;
  nak_to_all = refl;
  inquiry_to_all = refl;
  named_switch_to_all = refl;
  properties_to_all = refl;
  discovery_to_all = refl;
  named_switch = refl;
  endpoint_of_status_1 = refl;
  switch_that_is_not_named = refl;
  properties = refl;
}
