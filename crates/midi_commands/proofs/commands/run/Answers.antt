use Rattle.std.proofs.Common.{map, string_bytes, refl}
use Rattle.command_line.specs.Rules.{command_of}
use Rattle.midi_commands.specs.LastLine.{last_puts}
use Rattle.midi_commands.specs.Run.{objects}
use Rattle.midi_commands.proofs.RunLaws.{done_with_more}
use Rattle.midi_commands.proofs.WholeLaws.{run_leaves}
use Rattle.midi_commands.proofs.commands.run.Goals as goal

pub returns-clause-complete : goal.returns-clause-complete
returns-clause-complete g c =
    done_with_more (last_puts c.answer-status.result) (command_of (map string_bytes c.args.words.now))
    (objects g.S.Source g.L.Lanes g.W.Sink g.N.Sink g.K.Shelf c.args.input.now c.args.lanes.now c.args.output.now c.args.notes.now
    c.args.shelf.now)
    (objects g.S.Source g.L.Lanes g.W.Sink g.N.Sink g.K.Shelf c.answer-status.new.input c.answer-status.new.lanes c.answer-status.new.output
    c.answer-status.new.notes c.answer-status.new.shelf)
    (objects g.S.Source g.L.Lanes g.W.Sink g.N.Sink g.K.Shelf c.answer-status.new.input c.put_last.new.lanes c.put_last.new.output
    c.put_last.new.notes c.answer-status.new.shelf)
    c.answer-status.result c.put_last.ensures.0 refl refl c.put_last.ensures.1 c.answer-status.ensures.complete

pub returns-clause-whole : goal.returns-clause-whole
returns-clause-whole g c is =
    run_leaves c.a_command_that_is_done_leaves_the_whole.ensures (command_of (map string_bytes c.args.words.now))
    (objects g.S.Source g.L.Lanes g.W.Sink g.N.Sink g.K.Shelf c.args.input.now c.args.lanes.now c.args.output.now c.args.notes.now
    c.args.shelf.now)
    (objects g.S.Source g.L.Lanes g.W.Sink g.N.Sink g.K.Shelf c.answer-status.new.input c.answer-status.new.lanes c.answer-status.new.output
    c.answer-status.new.notes c.answer-status.new.shelf)
    (objects g.S.Source g.L.Lanes g.W.Sink g.N.Sink g.K.Shelf c.answer-status.new.input c.put_last.new.lanes c.put_last.new.output
    c.put_last.new.notes c.answer-status.new.shelf)
    c.answer-status.result is c.answer-status.ensures.says (c.put_last.ensures.0, refl, refl, refl, c.put_last.ensures.1)
