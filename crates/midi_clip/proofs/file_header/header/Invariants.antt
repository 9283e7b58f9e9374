use Rattle.std.proofs.Common.{◌-◌, ◌≡◌, ◌≤◌, length, take}
use Rattle.outside.specs.Outside.{Loses}
use Rattle.midi_clip.proofs.file_header.header.Given as goal

abbrev pub invariant-loop-count : goal.invariant-loop-count
invariant-loop-count g l =
    record {
      lost : Loses (g.S.Source.left l.fn.source) (g.S.Source.left l.source) (take l.count l.bytes);
      size : length l.bytes ≡ 8;
      most : l.count ≤ 8;
      faults : g.S.Source.faults l.source ≡ g.S.Source.faults l.fn.source;
    }

abbrev pub decreases-loop-count : goal.decreases-loop-count
decreases-loop-count g l = 8 - l.count
