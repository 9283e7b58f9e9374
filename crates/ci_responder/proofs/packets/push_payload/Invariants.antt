use Rattle.std.proofs.Common.{◌≡◌, ◌≤◌, ◌-◌, ◌*◌, [], length}
use Rattle.ump_grammar.specs.Replies.{AddsPackets}
use Rattle.sysex_groups.specs.Cut.{part_count}
use Rattle.ci_responder.specs.Replies.{first_packets}
use Rattle.ci_responder.proofs.packets.push_payload.Given as goal

abbrev pub invariant-loop-form : goal.invariant-loop-form
invariant-loop-form l = record {
  packets : AddsPackets (first_packets l.group l.payload l.k) [] l.replies;
  count : length l.replies ≡ 2 * l.k;
  within : l.k ≤ part_count l.payload;
}

abbrev pub decreases-loop-form : goal.decreases-loop-form
decreases-loop-form l = part_count l.payload - l.k
