-- An endpoint keeps its setup and its room, whatever comes to it.
use Rattle.std.proofs.Common.{◌≡◌, refl, Option, None, Some}
use Rattle.std.specs.Prelude.{Ok, Err}
use Rattle.function_blocks.specs.Setups.{SetupData}
use Rattle.ci_responder.specs.Held.{Held}
use Rattle.ci_responder.specs.Laws.{StaysOfItsSetup}
use Rattle.ci_responder.specs.Reset.{IsOf}
use Rattle.ump_endpoint.specs.Answers.{SaidOrFault}
use Rattle.ump_endpoint.specs.Held.{after_part}

module _ (stays : StaysOfItsSetup) where
  pub of_its_setup : (setup : SetupData) (held : Held) (said : Option SaidOrFault) → IsOf setup held → IsOf setup (after_part held said)
  of_its_setup setup held None is = is
  of_its_setup setup held (Some (Ok received)) is = stays.after setup held received is
  of_its_setup setup held (Some (Err fault)) is = is

  pub room_kept : (held : Held) (said : Option SaidOrFault) → (after_part held said).room ≡ held.room
  room_kept held None = refl
  room_kept held (Some (Ok received)) = stays.room held received
  room_kept held (Some (Err fault)) = refl
