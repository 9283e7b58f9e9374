use Rattle.std.proofs.Common.{◌≡◌, ◌≤◌, ◌+◌, ◌-◌, ◌*◌, ◌%◌, length, true, false, take}
use Rattle.ci_messages.specs.Fields.{IsData}
use Rattle.ci_responder.specs.Replies.{ids_of}
use Rattle.ci_responder.proofs.profiles.ids_at.Given as goal

abbrev pub invariant-loop-key : goal.invariant-loop-key
invariant-loop-key l = record {
  on : l.ids.on ≡ ids_of true l.block l.place (take l.k l.states.entries);
  off : l.ids.off ≡ ids_of false l.block l.place (take l.k l.states.entries);
  few : length l.ids.on + length l.ids.off ≤ 5 * l.k;
  on_fives : length l.ids.on % 5 ≡ 0;
  off_fives : length l.ids.off % 5 ≡ 0;
  on_data : IsData l.ids.on;
  off_data : IsData l.ids.off;
  within : l.k ≤ length l.states.entries;
}

abbrev pub decreases-loop-key : goal.decreases-loop-key
decreases-loop-key l = length l.states.entries - l.k
