use Rattle.std.proofs.Common.{◌≡◌, List, ℕ, Some, sym, ◌∙◌}
use Rattle.down_translator.specs.Uncarried.{uncarried_kind}
use Rattle.down_translator.proofs.UncarriedLaws.{group_is, kind_is}
use Rattle.down_translator.proofs.uncarried.read_uncarried.Goals as goal

pub returns-in-Some : goal.returns-in-Some
returns-in-Some c =
    let words : List ℕ = c.words-words.result.now in
    let row = c.words-words.ensures.1.row in
    let kind : uncarried_kind c.args.packet.now ≡ Some c.in-Some.kind =
    sym (kind_is c.rows_are_not_reserved.ensures c.args.packet.now words row) ∙ sym c.in-Some.ensures in
    record { kind = kind; group = group_is c.args.packet.now words c.in-Some.kind row kind ∙ sym c.group_in.ensures }

pub returns-in-None : goal.returns-in-None
returns-in-None c =
    sym (kind_is c.rows_are_not_reserved.ensures c.args.packet.now c.words-words.result.now c.words-words.ensures.1.row) ∙ sym c.in-None.ensures
