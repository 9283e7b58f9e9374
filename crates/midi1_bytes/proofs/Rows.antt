-- Worked rows, computed from the definitions alone.
use Rattle.std.proofs.Common.{◌≡◌, refl, [], ◌∷◌, reverse}
use Rattle.voice_messages.specs.declared.voice1.Voice1.TheVariants as voice1
use Rattle.voice_messages.specs.declared.voice1.System.TheVariants as system
use Rattle.midi1_bytes.specs.Sorts.{sort_of}
use Rattle.midi1_bytes.specs.Messages.{voice, real_time}
use Rattle.midi1_bytes.specs.Steps.{completed}

pub clock_between_data_bytes : completed (reverse (0x90 ∷ 0x3c ∷ 0x64 ∷ 0x3e ∷ 0xf8 ∷ 0x64 ∷ []))
    ≡ voice (voice1.NoteOn 0 0x3c 0x64) ∷ real_time system.Clock ∷ voice (voice1.NoteOn 0 0x3e 0x64) ∷ []
unfolding sort_of
clock_between_data_bytes = refl
