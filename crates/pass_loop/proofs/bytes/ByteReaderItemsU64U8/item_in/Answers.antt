use Rattle.std.proofs.Common.{ℕ}
use Rattle.item_reader.specs.ByteReader.{byte_at, each_byte, one_byte}
use Rattle.item_reader.specs.Reading.{cursor, passed}
use Rattle.pass_loop.specs.Bytes.{placed_at}
use Rattle.pass_loop.proofs.ByteLaws.{at_place}
use Rattle.pass_loop.proofs.ItemLaws.{placed}
use Rattle.pass_loop.proofs.bytes.ByteReaderItemsU64U8.item_in.Goals as goal

pub returns-in-Some-clause-answer : goal.returns-in-Some-clause-answer
returns-in-Some-clause-answer c = λ first all left items so_far.
    let before = passed c.args.place c.args.self.now in
    let after = passed c.in-Some.given.1 c.args.self.now in
    let gives = c.in-Some.ensures.gives left in
    let item : ℕ × ℕ = (c.in-Some.given.0.1, c.in-Some.given.0.0) in
    let one = placed one_byte byte_at (cursor before left) (cursor after left) c.in-Some.given.0 gives in
    let laws = c.items_are_taken_in_order.ensures (λ how. placed_at) in (
      laws.given_more each_byte before all left items so_far after left item one,
      at_place (cursor before left) (cursor after left) all items c.in-Some.given.0 so_far gives,
      laws.front_more each_byte before all left items so_far after left item one,
    )
