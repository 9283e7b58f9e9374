-- The lines of a stream of MIDI 1.0 bytes, each at the offset of the byte that completes a message: as those
-- of packets, with no group. An exclusive is told by its length.
use Rattle.std.specs.Prelude.{ℕ, ◌≤◌, List, ◌++◌, codes, decimal, length, Option, None, Some}
use Rattle.voice_messages.specs.declared.voice1.System.TheVariants as system
use Rattle.midi1_bytes.specs.declared.step.AfterCut.TheVariants as after
use Rattle.midi1_bytes.specs.declared.step.Step.{Step as CodeStep}
use Rattle.midi1_bytes.specs.declared.step.Step.TheVariants as code
use Rattle.midi1_bytes.specs.Messages.{Message, voice, common, exclusive, real_time}
use Rattle.midi1_bytes.specs.Steps.{Step, completes, cut}
use Rattle.text_lines.specs.Fields.{field}
pub use Rattle.text_lines.specs.ListingLines.{byte_listing_text}
use Rattle.text_lines.specs.Voice1Lines.{voice1_fields, system_fields}

-- the kind of a message and its fields
abbrev pub message_fields : Message → List ℕ
message_fields (voice message) = voice1_fields None message
message_fields (common message) = system_fields None message
message_fields (real_time message) = system_fields None message
message_fields (exclusive bytes) = codes "exclusive" ++ field (codes "length") (length bytes)

abbrev pub message_text : Message → ℕ → List ℕ
message_text message offset = decimal offset ++ codes " " ++ message_fields message ++ codes "\n"

-- the line of a byte's step, if the byte completes a message; a tune request is one also if it cuts
-- something off
abbrev pub step_text : Step → ℕ → Option (List ℕ)
step_text (completes message) offset = Some (message_text message offset)
step_text (cut start what after.Tune) offset = Some (message_text (common system.Tune) offset)
step_text _ offset = None

-- an exclusive that is lent has its F0 and its F7
abbrev pub HasBothEnds : CodeStep → Type 0
HasBothEnds (code.Exclusive bytes) = 2 ≤ length bytes.now
HasBothEnds _ = Unit {0}
