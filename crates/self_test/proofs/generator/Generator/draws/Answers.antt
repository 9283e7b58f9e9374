use Rattle.std.proofs.Common.{◌+◌, ◌*◌, refl, arith}
use Rattle.self_test.proofs.GeneratorLaws.{after_at, drawn_at}
use Rattle.self_test.proofs.generator.Generator.draws.Goals as goal

pub returns-clause-drawn : goal.returns-clause-drawn
returns-clause-drawn c = λ seed count given.
    let one = after_at seed (5 * count) (5 * count + 1) _ _ refl given c.draw-kind.ensures.after in
    let two = after_at seed (5 * count + 1) (5 * count + 2) _ _ (omega arith) one c.draw-channel.ensures.after in
    let three = after_at seed (5 * count + 2) (5 * count + 3) _ _ (omega arith) two c.draw-number.ensures.after in
    let four = after_at seed (5 * count + 3) (5 * count + 4) _ _ (omega arith) three c.draw-high.ensures.after in
    record {
      kind = drawn_at seed (5 * count) _ _ given c.draw-kind.ensures.drawn;
      channel = drawn_at seed (5 * count + 1) _ _ one c.draw-channel.ensures.drawn;
      number = drawn_at seed (5 * count + 2) _ _ two c.draw-number.ensures.drawn;
      high = drawn_at seed (5 * count + 3) _ _ three c.draw-high.ensures.drawn;
      low = drawn_at seed (5 * count + 4) _ _ four c.draw-low.ensures.drawn;
    }

pub returns-clause-after : goal.returns-clause-after
returns-clause-after c = λ seed count given.
    let one = after_at seed (5 * count) (5 * count + 1) _ _ refl given c.draw-kind.ensures.after in
    let two = after_at seed (5 * count + 1) (5 * count + 2) _ _ (omega arith) one c.draw-channel.ensures.after in
    let three = after_at seed (5 * count + 2) (5 * count + 3) _ _ (omega arith) two c.draw-number.ensures.after in
    let four = after_at seed (5 * count + 3) (5 * count + 4) _ _ (omega arith) three c.draw-high.ensures.after in
    after_at seed (5 * count + 4) (5 * (count + 1)) _ _ (omega arith) four c.draw-low.ensures.after
