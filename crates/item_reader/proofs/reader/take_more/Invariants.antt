use Rattle.std.proofs.Common.{◌≡◌, ◌-◌, length}
use Rattle.item_reader.specs.ForProofs.Front.{Sees}
use Rattle.outside.specs.Outside.{ahead}
use Rattle.item_reader.specs.Reading.{Keeps}
use Rattle.item_reader.specs.declared.reader.Front.TheVariants.{Partial}
use Rattle.item_reader.proofs.reader.take_more.Given as goal

abbrev pub invariant-loop-window : goal.invariant-loop-window
invariant-loop-window g l =
    record {
      same : ahead l.window.bytes (g.S.Source.left l.src) ≡ ahead l.fn.window.bytes (g.S.Source.left l.fn.src);
      kept : Keeps l.fn.window.bytes l.window.bytes;
      sees : Sees (g.H.Cut.asked l.how) l.window.bytes l.room Partial;
      faults : g.S.Source.faults l.src ≡ g.S.Source.faults l.fn.src;
    }

abbrev pub decreases-loop-window : goal.decreases-loop-window
decreases-loop-window g l = 16 - length l.window.bytes
