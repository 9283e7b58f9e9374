use Rattle.std.proofs.Common.{◌≡◌, ◌++◌}
use Rattle.midi_meaning.specs.Messages.{Scale}
use Rattle.midi_meaning.specs.State.{GroupState}
use Rattle.voice_state.specs.Facts.{facts_of_channels}
use Rattle.voice_state.specs.Kept.{KeepsGroup}
use Rattle.voice_state.proofs.group.Group.put_channel_facts.Given as goal

abbrev pub invariant-loop-index : goal.invariant-loop-index
invariant-loop-index l =
    (scale : Scale) (state : GroupState) → KeepsGroup scale l.self state
    → l.facts.items ≡ l.initial.facts.items ++ facts_of_channels l.index scale l.group state
