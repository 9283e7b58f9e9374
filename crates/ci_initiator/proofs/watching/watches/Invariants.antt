use Rattle.std.proofs.Common.{◌≡◌, take}
use Rattle.std.specs.List.{flat_map}
use Rattle.ci_initiator.specs.Watching.{HasIds, watch_where}
use Rattle.ci_initiator.proofs.watching.watches.Given as goal

abbrev pub invariant-loop-profile : goal.invariant-loop-profile
invariant-loop-profile l = record {
  watches : l.watches.items ≡ flat_map (watch_where l.watched l.first) (take l.profile-index l.profiles);
  ids : HasIds (take l.profile-index l.profiles);
}
