use Rattle.std.proofs.Common.{List, ℕ, subst, sym}
use Rattle.std.specs.Str.{IsUtf8}
use Rattle.function_blocks.proofs.Printable.{utf8_of_printable}
use Rattle.function_blocks.proofs.whole.Setup.product_id.Goals as goal

pub unreachable-requires : goal.unreachable-requires
unreachable-requires c =
    let id : List ℕ = c.self.inside.endpoint.id in
    let P : List ℕ → Type 0 = IsUtf8 in
    c.in-Err.ensures.cases.0 (subst P (sym c.as_slice.ensures.value) (utf8_of_printable id c.self.invariant.endpoint.printable))
