use Rattle.std.proofs.Common.{◌≡◌, ◌≤◌, ◌-◌, List}
use Rattle.sysex_groups.specs.Cut.{part_count}
use Rattle.midi_meaning.specs.Raising.{first_exclusive_packets}
use Rattle.pass_loop.specs.Places.{over_puts}
use Rattle.pass_loop.specs.Put.{Put}
use Rattle.translation_passes.specs.Raised.{AreDone}
use Rattle.translation_passes.proofs.raised.put_payload.Given as goal

abbrev pub invariant-loop-form : goal.invariant-loop-form
invariant-loop-form g l =
    record {
      within : l.k ≤ part_count l.payload;
      puts : List Put;
      done : AreDone (g.P.PacketWork.IsDone l.offset) l.fn.work (first_exclusive_packets l.group l.payload l.k) l.work puts;
      stands : g.O.Outputs.places l.outputs ≡ over_puts puts (g.O.Outputs.places l.fn.outputs);
    }

abbrev pub decreases-loop-form : goal.decreases-loop-form
decreases-loop-form g l = part_count l.payload - l.k
