-- What an endpoint may be asked for. `room` is the most bytes that an exclusive may have between F0 and F7.
use Rattle.std.specs.Prelude.{ℕ}
use Rattle.packet_words.specs.declared.words.Order.{Order}
use Rattle.function_blocks.specs.Setups.{SetupData}

-- a recording of a peer that is answered by an endpoint of this setup
pub record EndpointOptions : Type 0 where
  pub setup : SetupData
  pub order : Order
  pub room : ℕ
