use Rattle.std.proofs.Common.{arith, ◌∙◌}
use Rattle.midi_clip.proofs.HeaderLaws.{ends-early, lost-more, size-stays}
use Rattle.midi_clip.proofs.file_header.header.Goals as goal

pub returns-in-Ok-eq0-clause-bytes : goal.returns-in-Ok-eq0-clause-bytes
returns-in-Ok-eq0-clause-bytes g c =
    let i = c.loop-count.invariant in
    ends-early _ _ _ c.loop-count.count c.in-Ok-eq0.field-0 c.loop-count.bytes c.take.new.buf i.size c.loop-count-test.true
    c.in-Ok-eq0.field-0-test i.lost c.in-Ok-eq0.ensures.bytes.0 c.in-Ok-eq0.ensures.bytes.1

pub loop-count-preserved : goal.loop-count-preserved
loop-count-preserved g c =
    let i = c.loop-count.invariant in
    record {
      lost =
          lost-more _ _ _ c.loop-count.count c.in-Ok.more _ c.loop-count.bytes c.take.new.buf (omega arith) c.in-Ok.ensures.bound i.lost
          c.in-Ok.ensures.bytes.0;
      size = size-stays c.loop-count.count c.loop-count.bytes c.take.new.buf i.size i.most (omega arith);
      most = omega (arith, c.in-Ok.ensures.bound);
      faults = c.in-Ok.ensures.cause.kept ∙ i.faults;
    }
