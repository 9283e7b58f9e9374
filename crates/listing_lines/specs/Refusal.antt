-- Why a packet or a byte is refused.
use Rattle.std.specs.Prelude.{ℕ, Option, None, Some}
use Rattle.std.specs.Option.{option_map}
use Rattle.midi1_bytes.specs.Steps.{Step, too_long}
use Rattle.listing_terms.specs.declared.listed.BadStep.{BadStep}
use Rattle.listing_terms.specs.declared.listed.BadStep.TheVariants as bad
use Rattle.pass_loop.specs.Pass.{Tail}
use Rattle.pass_loop.specs.declared.ends.Reason.{Reason}
use Rattle.pass_loop.specs.declared.ends.Reason.TheVariants as reasons

-- the reason for a step that is refused
abbrev pub reason_of : BadStep → Reason
reason_of bad.DataIncrement = reasons.DataIncrement
reason_of bad.DataDecrement = reasons.DataDecrement
reason_of bad.ExclusiveTooLong = reasons.ExclusiveTooLong

-- such a step is refused at this offset
abbrev pub refusal_by : Option BadStep → ℕ → Tail
refusal_by bad offset = option_map (λ b. (reason_of b, offset)) bad

-- if only the room counts, a byte is refused exactly if its exclusive passes it
abbrev pub refusal_of : Step → ℕ → Tail
refusal_of too_long offset = Some (reasons.ExclusiveTooLong, offset)
refusal_of _ offset = None
