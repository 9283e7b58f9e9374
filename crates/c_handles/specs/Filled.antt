-- What a handle holds after it was filled, or after there was no memory for that.
use Rattle.std.specs.Prelude.{◌≡◌, ℕ, Option, MatchOption}
use Rattle.c_answers.specs.Numbers.{number_of}
use Rattle.c_answers.specs.declared.status.Status.TheVariants as statuses
use Rattle.c_handles.specs.declared.engine.Engine.{Engine}

abbrev pub IsFilled : Engine → ℕ → Option Engine → Type 0
IsFilled engine status after =
    MatchOption after (status ≡ number_of statuses.NoMemory) (λ held. (held ≡ engine) × (status ≡ number_of statuses.Done))
