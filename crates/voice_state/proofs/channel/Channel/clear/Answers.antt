use Rattle.std.proofs.Common.{refl}
use Rattle.bit_scaling.specs.Scaling.{up}
use Rattle.midi_meaning.specs.Messages.{as_they_come, raised}
use Rattle.voice_state.proofs.channel.Channel.clear.Goals as goal

pub returns-clause-midi1 : goal.returns-clause-midi1
returns-clause-midi1 c = record {
  acts = c.clear.ensures;
  poly = c.clear-2.ensures;
  controllers = c.clear-3.ensures;
  pressure = refl;
  bend = refl;
  program = refl;
  params = c.clear-4.ensures as_they_come;
  registers = c.unset-self.ensures;
}

pub returns-clause-packets : goal.returns-clause-packets
unfolding up
returns-clause-packets c = record {
  acts = c.clear.ensures;
  poly = c.clear-2.ensures;
  controllers = c.clear-3.ensures;
  pressure = refl;
  bend = refl;
  program = refl;
  params = c.clear-4.ensures raised;
  registers = c.unset-self.ensures;
}
