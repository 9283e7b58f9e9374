-- The messages that a parser completes, by their bytes.
use Rattle.std.specs.Prelude.{ℕ, [], ◌∷◌}
use Rattle.voice_messages.specs.declared.voice1.Voice1.{Voice1}
use Rattle.voice_messages.specs.declared.voice1.System.{System}
use Rattle.voice_messages.specs.declared.voice1.System.TheVariants as system
use Rattle.midi1_bytes.specs.declared.spoken.VoiceBytes.{VoiceBytes}
use Rattle.midi1_bytes.specs.declared.spoken.CommonBytes.{CommonBytes}
use Rattle.midi1_bytes.specs.declared.spoken.RealTimeByte.{RealTimeByte}
use Rattle.midi1_bytes.specs.Sorts.{one, two, Sort, voice_status, common_status, sort_of}
use Rattle.midi1_bytes.specs.Messages.{voice_of, common_of, real_time_of}

abbrev pub voice_by : Sort → ℕ → ℕ → ℕ → Voice1
voice_by (voice_status one) status first second = voice_of one status first []
voice_by _ status first second = voice_of two status second (first ∷ [])

abbrev pub voice_in : VoiceBytes → Voice1
voice_in bytes = voice_by (sort_of bytes.status) bytes.status bytes.first bytes.second

abbrev pub common_by : Sort → ℕ → ℕ → ℕ → System
common_by (common_status one) status first second = common_of one status first []
common_by (common_status two) status first second = common_of two status second (first ∷ [])
common_by _ status first second = system.Tune

abbrev pub common_in : CommonBytes → System
common_in bytes = common_by (sort_of bytes.status) bytes.status bytes.first bytes.second

abbrev pub real_time_in : RealTimeByte → System
real_time_in byte = real_time_of byte.status
