use Rattle.voice_state.proofs.StateLaws.{bytes_kept}
use Rattle.voice_state.proofs.state_laws.bytes_are_kept.Goals as goal

pub returns : goal.returns
returns c = bytes_kept
