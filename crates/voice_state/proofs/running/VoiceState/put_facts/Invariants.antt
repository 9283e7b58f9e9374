use Rattle.std.proofs.Common.{◌≡◌, ◌++◌}
use Rattle.midi_meaning.specs.Messages.{Scale}
use Rattle.voice_state.specs.Facts.{facts_of_groups}
use Rattle.voice_state.specs.Kept.{Keeps}
use Rattle.voice_state.specs.States.{States}
use Rattle.voice_state.proofs.running.VoiceState.put_facts.Given as goal

abbrev pub invariant-loop-index : goal.invariant-loop-index
invariant-loop-index l =
    (scale : Scale) (states : States) → Keeps scale l.self states
    → l.facts.items ≡ l.initial.facts.items ++ facts_of_groups l.index scale states
