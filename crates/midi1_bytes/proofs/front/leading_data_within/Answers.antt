use Rattle.std.proofs.Common.{ℕ, ◌≤◌, rules, subst, sym, take}
use Rattle.midi1_bytes.specs.Messages.{AreData}
use Rattle.midi1_bytes.proofs.FrontLaws.{leading_are_data, leading_within}
use Rattle.midi1_bytes.proofs.front.leading_data_within.Goals as goal

pub returns-then-bytes-most-clause-data_bytes : goal.returns-then-bytes-most-clause-data_bytes
returns-then-bytes-most-clause-data_bytes c =
    subst (λ (n : ℕ). AreData (take n c.args.bytes.now)) (sym c.leading_data.ensures.count) (leading_are_data c.args.bytes.now)

pub returns-else-bytes-most-clause-data_bytes : goal.returns-else-bytes-most-clause-data_bytes
returns-else-bytes-most-clause-data_bytes c =
    let most : c.leading_data-else-bytes-most.result ≤ c.args.most = search rules in
    leading_within c.args.bytes.now c.args.most _ c.leading_data-else-bytes-most.ensures.count most
