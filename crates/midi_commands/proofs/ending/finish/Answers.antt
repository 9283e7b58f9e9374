use Rattle.midi_edge.specs.Adapters.{accepted}
use Rattle.midi_commands.proofs.EndingLaws.{ends_as, quiet_notes}
use Rattle.midi_commands.proofs.ending.finish.Goals as goal

pub returns-clause-ends : goal.returns-clause-ends
returns-clause-ends g c is = (
  c.after_writing.result,
  c.exit_code.ensures,
  ends_as c.args.status c.write_out-written.result c.after_writing.result c.flush.result
      (record { lanes = c.args.lanes.now.faults; output = c.args.output.now.faults; notes = c.args.notes.now.faults })
      (record {
        lanes = c.write_out-written.new.lanes.faults;
        output = c.write_out-written.new.output.faults;
        notes = c.flush.new.self.faults;
      })
      c.tell_fault.new.notes.faults
      (accepted g.N.Write.contents c.args.notes.now) (accepted g.N.Write.contents c.tell_fault.new.notes)
      (accepted g.N.Write.contents c.flush.new.self)
      is (c.write_out-written.ensures.written is) (c.tell_fault.ensures.told is)
      (λ none. quiet_notes g.N.Write.contents c.args.notes.now c.tell_fault.new.notes c.flush.new.self c.flush.result
      (c.tell_fault.ensures.none none) c.flush.ensures.cause c.flush.ensures.bytes)
      c.flush.ensures.cause c.flush.ensures.bytes
      c.after_writing.ensures.written c.after_writing.ensures.fault c.after_writing.ensures.cause,
)
