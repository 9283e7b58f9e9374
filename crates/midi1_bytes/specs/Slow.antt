-- What the slow program tells of a step.
use Rattle.std.specs.Prelude.{length}
use Rattle.midi1_bytes.specs.declared.slow.SlowStep.{SlowStep}
use Rattle.midi1_bytes.specs.declared.slow.SlowStep.TheVariants as slow
use Rattle.midi1_bytes.specs.Messages.{Message, voice, common, exclusive, real_time}
use Rattle.midi1_bytes.specs.Steps.{Step, held, completes, stray, undefined, cut, too_long}

abbrev pub told_message : Message → SlowStep
told_message (voice message) = slow.Voice message
told_message (common message) = slow.Common message
told_message (exclusive bytes) = slow.Exclusive (length bytes)
told_message (real_time message) = slow.RealTime message

abbrev pub told : Step → SlowStep
told held = slow.Held
told (completes message) = told_message message
told stray = slow.Stray
told undefined = slow.Undefined
told (cut start what after) = slow.Cut start what after
told too_long = slow.TooLong
