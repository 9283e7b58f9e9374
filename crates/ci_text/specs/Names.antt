-- What the line of a message says that a responder heard.
use Rattle.ci_responder.specs.declared.heard.Heard.{Heard}
use Rattle.ci_responder.specs.declared.heard.Heard.TheVariants as heard
use Rattle.endpoint_lines.specs.declared.endpoint.OutcomeName.{OutcomeName}
use Rattle.endpoint_lines.specs.declared.endpoint.OutcomeName.TheVariants as names

abbrev pub name_of_heard : Heard → OutcomeName
name_of_heard heard.NoBlock = names.NoBlock
name_of_heard heard.Silent = names.Silent
name_of_heard heard.Collision = names.Collision
name_of_heard heard.OldVersion = names.OldVersion
name_of_heard heard.NotOurs = names.NotOurs
name_of_heard heard.Moved = names.Moved
name_of_heard heard.Report = names.Report
name_of_heard heard.Broadcast = names.Broadcast
name_of_heard heard.Answered = names.Answered
name_of_heard heard.Passed = names.Passed
name_of_heard heard.Nak = names.Nak
