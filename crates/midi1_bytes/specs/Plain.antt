-- What a parser has of one more byte, if the byte is only held or completes a voice message.
use Rattle.std.specs.Prelude.{◌≡◌, Bool, true, false}
use Rattle.midi1_bytes.specs.declared.step.PlainStep.{PlainStep}
use Rattle.midi1_bytes.specs.declared.step.PlainStep.TheVariants as plain
use Rattle.midi1_bytes.specs.Messages.{voice}
use Rattle.midi1_bytes.specs.Parsing.{Parsing, Parsed, quiet}
use Rattle.midi1_bytes.specs.Spoken.{voice_in}
use Rattle.midi1_bytes.specs.Steps.{Step, held, completes}

-- it belongs to what is open or opens it, or it completes a voice message
abbrev pub is_plain : Step → Bool
is_plain held = true
is_plain (completes (voice message)) = true
is_plain _ = false

-- By what the byte does, and the state before it and after the call. A byte that is held is taken. One that
-- completes a message isn't yet; after it nothing is open, and the running status stays.
abbrev pub IsPlain : PlainStep → Parsed → Parsing → Parsing → Type 0
IsPlain plain.Held parsed old new = (parsed.step ≡ held) × (new ≡ parsed.after)
IsPlain (plain.Voice bytes) parsed old new =
    (parsed.step ≡ completes (voice (voice_in bytes))) × (parsed.after ≡ quiet old.room old.running) × (new ≡ old)
IsPlain plain.Other parsed old new = (is_plain parsed.step ≡ false) × (new ≡ old)
