-- What a self test plays: channel voice messages that neither way refuses.
use Rattle.std.specs.Prelude.{◌≡◌, ℕ, List, [], ◌∷◌, Some, None}
use Rattle.voice_messages.specs.Ranges.{IsVoice2}
use Rattle.ump_grammar.specs.declared.packet.Packet.{Packet}
use Rattle.ump_grammar.specs.declared.packet.Packet.TheVariants as packet
use Rattle.midi1_bytes.specs.Messages.{voice}
use Rattle.midi1_bytes.specs.Steps.{Step, held, completes, step_of}
use Rattle.midi_meaning.specs.Refusal.{bad_voice1, bad_voice2}

-- a MIDI 2.0 channel voice message in group 0, with its fields in range, and no data increment or decrement
abbrev pub IsPlayed : Packet → Type 0
IsPlayed (packet.Voice2 group message) = (group ≡ 0) × IsVoice2 message × (bad_voice2 message ≡ None)
IsPlayed _ = ⊥

-- a byte of such messages: it is held, or completes a channel voice message other than a data increment or
-- decrement
abbrev pub IsPlayedStep : Step → Type 0
IsPlayedStep held = Unit {0}
IsPlayedStep (completes (voice message)) = bad_voice1 message ≡ None
IsPlayedStep _ = ⊥

-- each of these bytes is one, after those before it; they are listed newest first
abbrev pub ArePlayed : List ℕ → Type 0
ArePlayed [] = Unit {0}
ArePlayed (byte ∷ past) = IsPlayedStep (step_of (Some 6) past byte) × ArePlayed past
