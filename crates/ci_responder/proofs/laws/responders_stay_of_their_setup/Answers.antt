use Rattle.ci_responder.proofs.StayLaws.{made_of, room_stays, stays_of}
use Rattle.ci_responder.proofs.laws.responders_stay_of_their_setup.Goals as goal

pub returns : goal.returns
returns c = record { at = made_of; after = stays_of; room = room_stays }
