-- The bytes of a MIDI 1.0 channel voice message that alone carries a packet.
use Rattle.std.specs.Prelude.{ℕ, Bool, List, ◌∷◌, if◌then◌else◌}
use Rattle.std.specs.Option.{option_to_list}
use Rattle.down_translator.specs.declared.lowered.LoweredMessage.{LoweredMessage}
use Rattle.down_translator.specs.declared.shortened.ShortenedMessage.{ShortenedMessage}

abbrev pub lowered_bytes : LoweredMessage → List ℕ
lowered_bytes m = m.status ∷ m.first ∷ option_to_list m.second

-- these data bytes after their status byte, which is left out if it is the running status
abbrev pub unless_running : Bool → ℕ → List ℕ → List ℕ
unless_running is_running status bytes = if is_running then bytes else status ∷ bytes

-- without its status byte if that is the running status
abbrev pub shortened_bytes : ShortenedMessage → List ℕ
shortened_bytes m = unless_running m.is_running m.status (m.first ∷ option_to_list m.second)
