use Rattle.std.proofs.Common.{◌≡◌, ◌++◌}
use Rattle.voice_state.proofs.channel.Channel.put_facts.Given as goal

abbrev pub invariant-loop-fact : goal.invariant-loop-fact
invariant-loop-fact l = l.facts.items ≡ l.initial.facts.items ++ l.yielded
