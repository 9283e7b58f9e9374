-- What is shown, and how. `room` is the most bytes that an exclusive may have between F0 and F7.
use Rattle.std.specs.Prelude.{ℕ, Bool, true, false}
use Rattle.packet_words.specs.declared.words.Order.{Order}

-- a recording whose packets are shown, with the state at its end or without
pub record PacketLineOptions : Type 0 where
  pub state : Bool
  pub order : Order
  pub room : ℕ

-- a stream of MIDI 1.0 bytes whose messages are shown, with the state at its end or without
pub record ByteLineOptions : Type 0 where
  pub state : Bool
  pub room : ℕ

-- lines of packets, or of bytes
pub data ShowOptions : Type 0 where
  of_packets : PacketLineOptions → ShowOptions
  of_bytes : ByteLineOptions → ShowOptions

-- lines of bytes, which have no order of words, or of packets
abbrev pub show_options : Bool → Bool → Order → ℕ → ShowOptions
show_options true state order room = of_bytes (record { state = state; room = room })
show_options false state order room = of_packets (record { state = state; order = order; room = room })

-- whether the state is asked for
abbrev pub asks_state : ShowOptions → Bool
asks_state (of_packets options) = options.state
asks_state (of_bytes options) = options.state
