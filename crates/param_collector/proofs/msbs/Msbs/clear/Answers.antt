use Rattle.std.proofs.Common.{◌≡◌, arith, vec_len}
use Rattle.param_collector.proofs.Meaning.{filled}
use Rattle.param_collector.proofs.msbs.Msbs.clear.Goals as goal

pub returns : goal.returns
returns c =
    let table = c.self.inside.table in
    let size : vec_len table ≡ 524288 = omega (arith, table.ok.0, c.self.invariant) in
    filled 524288 (vec_len table) c.low_bits.result c.fill.new.self.items c.low_bits.ensures size (c.fill.ensures.items (λ y e. e))
