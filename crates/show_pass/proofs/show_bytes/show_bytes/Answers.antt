use Rattle.std.proofs.Common.{false, []}
use Rattle.midi_meaning.specs.Messages.{as_they_come, meaning1}
use Rattle.voice_state.specs.States.{first_states, states_of_stream}
use Rattle.show_pass.proofs.KeptLaws.{stands_too}
use Rattle.show_pass.proofs.show_bytes.show_bytes.Goals as goal

pub drive-requires-clause-ready : goal.drive-requires-clause-ready
drive-requires-clause-ready g c =
    record {
      empty = c.requires.empty;
      stands =
          stands_too as_they_come c.args.state (first_states as_they_come) (states_of_stream (meaning1 false []))
          c.bytes_are_kept.ensures.first c.requires.new;
    }
