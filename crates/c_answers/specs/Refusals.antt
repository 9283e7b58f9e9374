-- The statuses of words, packets and bytes that are refused.
use Rattle.ump_grammar.specs.declared.packet.Bad.{Bad}
use Rattle.ump_grammar.specs.declared.packet.Bad.TheVariants as bad
use Rattle.listing_terms.specs.declared.listed.BadStep.{BadStep}
use Rattle.listing_terms.specs.declared.listed.BadStep.TheVariants as step
use Rattle.c_answers.specs.declared.status.Status.{Status}
use Rattle.c_answers.specs.declared.status.Status.TheVariants as statuses

abbrev pub status_of_bad : Bad → Status
status_of_bad bad.BadCount = statuses.BadCount
status_of_bad bad.HighBit = statuses.HighBit

abbrev pub status_of_step : BadStep → Status
status_of_step step.DataIncrement = statuses.DataIncrement
status_of_step step.DataDecrement = statuses.DataDecrement
status_of_step step.ExclusiveTooLong = statuses.ExclusiveTooLong
