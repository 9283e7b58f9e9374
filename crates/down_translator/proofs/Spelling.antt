-- A system message is spelled alike whether it is a common or a Real Time one.
use Rattle.std.proofs.Common.{◌≡◌, refl}
use Rattle.voice_messages.specs.declared.voice1.System.{System}
use Rattle.voice_messages.specs.declared.voice1.System.TheVariants as system
use Rattle.midi1_bytes.specs.Messages.{system_message, spelled, spelled_system}

pub spelled_message_of : (message : System) → spelled (system_message message) ≡ spelled_system message
spelled_message_of (system.Quarter value) = refl
spelled_message_of (system.Position value) = refl
spelled_message_of (system.Song value) = refl
spelled_message_of system.Tune = refl
spelled_message_of system.Clock = refl
spelled_message_of system.Start = refl
spelled_message_of system.Continue = refl
spelled_message_of system.Stop = refl
spelled_message_of system.Sensing = refl
spelled_message_of system.Reset = refl
