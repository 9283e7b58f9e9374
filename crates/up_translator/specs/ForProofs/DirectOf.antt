-- The direct message to which a voice message is raised.
use Rattle.std.specs.Prelude.{◌≡◌, true, Some}
use Rattle.voice_messages.specs.declared.voice1.Voice1.{Voice1}
use Rattle.encoded_packets.specs.declared.direct_message.DirectMessage.{DirectMessage}
use Rattle.encoded_packets.specs.DirectMessages.{direct_voice}
use Rattle.up_translator.specs.Direct.{RaisesTo, goes_direct}
use Rattle.up_translator.specs.DirectWords.{IsRaisedDirect}
use Rattle.up_translator.specs.Held.{RaiserState}

-- in the group of a raiser, by what it holds
pub record IsDirectOf (raiser : RaiserState) (message : Voice1) (to : DirectMessage) : Type 0 where
  pub alone : goes_direct (Some raiser.holding.paired) message ≡ true
  pub raised_direct : IsRaisedDirect to
  pub group_is : to.group ≡ raiser.group
  pub raises : RaisesTo message (direct_voice to)
