-- What the passes may be asked for. `room` is the most bytes that an exclusive may have between F0 and F7.
use Rattle.std.specs.Prelude.{ℕ, Bool}
use Rattle.packet_words.specs.declared.words.Order.{Order}
use Rattle.midi_meaning.specs.Styles.{Style}

-- a recording that is carried down, with paired controllers or without, in a style
pub record DownOptions : Type 0 where
  pub paired : Bool
  pub style : Style
  pub order : Order
  pub room : ℕ

-- a stream of MIDI 1.0 bytes that is raised to packets of a group, with paired controllers or without, whose words have an order
pub record UpOptions : Type 0 where
  pub paired : Bool
  pub group : ℕ
  pub order : Order
  pub room : ℕ

-- such a stream whose packets come down again, and so have no words
pub record BackOptions : Type 0 where
  pub paired : Bool
  pub group : ℕ
  pub room : ℕ
