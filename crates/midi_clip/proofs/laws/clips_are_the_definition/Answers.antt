use Rattle.midi_clip.proofs.ClipLaws.{end-is, ended, ends, fault-leaves, stage-is, started, starts, steps-are, ticks-are}
use Rattle.midi_clip.proofs.laws.clips_are_the_definition.Goals as goal

pub returns : goal.returns
returns c =
    record {
      starts = starts;
      started = started;
      ends = ends;
      ended = ended;
      stage = stage-is;
      steps = steps-are;
      ticks = ticks-are;
      end = end-is;
      fault = fault-leaves;
    }
