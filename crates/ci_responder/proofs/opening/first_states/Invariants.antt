use Rattle.std.proofs.Common.{◌≡◌, take, length}
use Rattle.ci_responder.specs.Keys.{first_states}
use Rattle.ci_responder.proofs.opening.first_states.Given as goal

abbrev pub invariant-loop-profile : goal.invariant-loop-profile
invariant-loop-profile l = record {
  states : l.states.entries ≡ first_states (take l.profile-index l.profiles);
  count : length l.states.entries ≡ l.profile-index;
}
