use Rattle.std.proofs.Common.{Some, lit<}
use Rattle.std.proofs.lemmas.Bool.{le-leb}
use Rattle.std.specs.Prelude.{length}
use Rattle.sysex8_streams.specs.History.{taken}
use Rattle.sysex8_streams.proofs.laws.cut8_payload_is_joined.Goals as goal

pub returns : goal.returns
returns c = λ slots room payload within key offsets past all k few own.
    c.payload_of_any_size_is_joined.ensures 13 (lit< tt) (Some room) payload (le-leb (length payload) room within) key offsets past
    (taken slots room all) k few own
