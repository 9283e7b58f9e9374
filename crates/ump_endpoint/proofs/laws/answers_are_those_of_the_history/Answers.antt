use Rattle.std.proofs.Common.{map, refl}
use Rattle.ump_endpoint.specs.Answers.{received_in_packets}
use Rattle.ump_endpoint.proofs.HistoryLaws.{begins_again, begun_is, held_next, packet_listed_is, packet_outcome_is}
use Rattle.ump_endpoint.proofs.HistoryLaws.{packet_replies_are, protocol_next, refusal_is}
use Rattle.ump_endpoint.proofs.laws.answers_are_those_of_the_history.Goals as goal

pub returns : goal.returns
returns c =
    let fed = c.fed_parts_are_the_definition.ensures in
    let history = c.held_is_the_history.ensures in
    let follows = c.protocol_follows_the_requests.ensures in
    record {
      begins = λ setup room. refl;
      reset = begins_again;
      refusal = λ setup room past least are. refusal_is fed room past least are setup;
      replies = λ setup room past least are. packet_replies_are fed room past least are setup history;
      outcome = λ setup room past least are. packet_outcome_is fed room past least are setup history;
      listed = λ setup room past least are. packet_listed_is fed room past least are setup;
      after = λ setup room past least are distinct placed.
          held_next fed room past least are setup history distinct placed
          (protocol_next follows.protocol follows.unread setup (map (λ placed. placed.packet) past) placed.packet);
      begun = λ setup room past least are. begun_is fed room past least are;
      muid = λ setup room past. history.muid setup room (received_in_packets room past);
      on = λ setup room past. history.on setup room (received_in_packets room past);
    }
