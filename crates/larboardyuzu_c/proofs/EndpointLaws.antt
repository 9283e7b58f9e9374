-- An endpoint that isn't opened leaves its handle closed.
use Rattle.std.proofs.Common.{◌≡◌, ℕ, ap, inl, inr, Ok, Err, None, Option, Result}
use Rattle.function_blocks.specs.Rules.{Read}
use Rattle.function_blocks.specs.Setups.{SetupData}
use Rattle.ump_endpoint.specs.Held.{EndpointState}
use Rattle.c_answers.specs.Numbers.{number_of}
use Rattle.c_answers.specs.declared.status.Status.{Status}
use Rattle.c_endpoint.specs.Opening.{OpensBy}
use Rattle.c_handles.specs.declared.engine.Engine.{Engine}
use Rattle.larboardyuzu_c.specs.EndpointCalls.{Makes}

-- the number of the status of an error
abbrev number_told : Result EndpointState Status → ℕ
number_told (Ok held) = 0
number_told (Err why) = number_of why

pub opened_fails : (read : Read SetupData) (room old new : ℕ) (why : Status) (after : Option Engine) → after ≡ None →
    OpensBy read room (Err why) old new → Makes read room (number_of why) old new after
opened_fails (Ok setup) room old new why after closed (none, same) = rw closed (ap number_of none, same)
opened_fails (Err fault) room old new why after closed (inl (none, same)) = (inl (ap number_told none, same), closed)
opened_fails (Err fault) room old new why after closed (inr (told, same)) = (inr (ap number_told told, same), closed)
