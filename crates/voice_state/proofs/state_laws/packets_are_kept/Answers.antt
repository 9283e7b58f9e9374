use Rattle.voice_state.proofs.StateLaws.{packets_kept}
use Rattle.voice_state.proofs.state_laws.packets_are_kept.Goals as goal

pub returns : goal.returns
returns c = packets_kept
