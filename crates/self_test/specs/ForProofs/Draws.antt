-- The five draws of a packet.
use Rattle.std.specs.Prelude.{◌≡◌, ℕ, ◌+◌, ◌*◌}
use Rattle.self_test.specs.declared.generator.Draws.{Draws}
use Rattle.self_test.specs.Generator.{draw_at}

-- these are the draws of a packet of a seed, by its place
pub record AreDrawn (seed place : ℕ) (draws : Draws) : Type 0 where
  pub kind : draws.kind ≡ draw_at seed (5 * place)
  pub channel : draws.channel ≡ draw_at seed (5 * place + 1)
  pub number : draws.number ≡ draw_at seed (5 * place + 2)
  pub high : draws.high ≡ draw_at seed (5 * place + 3)
  pub low : draws.low ≡ draw_at seed (5 * place + 4)
