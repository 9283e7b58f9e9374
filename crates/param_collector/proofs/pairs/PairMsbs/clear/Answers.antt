use Rattle.std.proofs.Common.{◌≡◌, ◌∙◌, ap, arith, length, vec_len}
use Rattle.param_collector.proofs.Meaning.{filled}
use Rattle.param_collector.proofs.pairs.PairMsbs.clear.Goals as goal

pub returns : goal.returns
returns c =
    let table = c.self.inside.table in
    let inner : vec_len table ≡ length table.items = omega (arith, table.ok.0) in
    let size : vec_len table ≡ length c.args.self.now = inner ∙ ap length c.self.view_is in
    filled (length c.args.self.now) (vec_len table) c.low_bits.result c.fill.new.self.items c.low_bits.ensures size
    (c.fill.ensures.items (λ y e. e))
