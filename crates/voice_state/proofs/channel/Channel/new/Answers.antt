use Rattle.std.proofs.Common.{refl}
use Rattle.bit_scaling.specs.Scaling.{up}
use Rattle.midi_meaning.specs.Messages.{as_they_come, raised}
use Rattle.voice_state.proofs.channel.Channel.new.Goals as goal

pub returns-clause-midi1 : goal.returns-clause-midi1
returns-clause-midi1 c = record {
  acts = c.in_ok-acts.ensures;
  poly = c.in_ok-poly.ensures;
  controllers = c.in_ok-controllers.ensures;
  pressure = refl;
  bend = refl;
  program = refl;
  params = c.in_ok-params.ensures as_they_come;
  registers = c.unset.ensures;
}

pub returns-clause-packets : goal.returns-clause-packets
unfolding up
returns-clause-packets c = record {
  acts = c.in_ok-acts.ensures;
  poly = c.in_ok-poly.ensures;
  controllers = c.in_ok-controllers.ensures;
  pressure = refl;
  bend = refl;
  program = refl;
  params = c.in_ok-params.ensures raised;
  registers = c.unset.ensures;
}
