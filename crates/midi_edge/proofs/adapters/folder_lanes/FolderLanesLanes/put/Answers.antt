use Rattle.std.proofs.Common.{rules}
use Rattle.std.proofs.lemmas.Option.{slice_get_read}
use Rattle.midi_edge.proofs.Accepting.{accepts_counted}
use Rattle.midi_edge.proofs.adapters.folder_lanes.FolderLanesLanes.put.Goals as goal

pub returns-clause-accepts : goal.returns-clause-accepts
returns-clause-accepts g c =
    let before = c.index_mut.result.now in
    let after = c.put-answer.new.self in (
      before,
      after,
      search (slice_get_read, rules),
      search rules,
      accepts_counted _ _ c.put-answer.result c.counted.result c.args.piece.now c.counted.ensures.value c.put-answer.ensures.accepts,
    )
