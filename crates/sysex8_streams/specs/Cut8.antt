-- A payload cut into the packets of one 8-bit exclusive (M2-104-UM, system exclusive 8-bit messages): thirteen bytes in
-- each but the last.
use Rattle.std.specs.Prelude.{◌≡◌, ℕ, ◌-◌, List, length, drop, replicate, false, Option}
use Rattle.std.specs.Option.{option_map}
use Rattle.ump_grammar.specs.WordFields.{byte, type_of}
use Rattle.sysex_groups.specs.Cut.{cut_packet}
use Rattle.sysex8_streams.specs.Reading.{data_places, is_left_out, Spells8}
use Rattle.sysex8_streams.specs.declared.part8.Part8.{Part8}

-- packet k of an exclusive of a stream, counted from 0
abbrev pub part8_at : ℕ → ℕ → List ℕ → ℕ → Option Part8
part8_at group stream payload k =
    option_map (λ packet. record { group = group; form = packet.0; stream = stream; bytes = packet.1 })
    (cut_packet 13 payload k)

-- ---- as words

-- the stream id
abbrev pub stream_of : List ℕ → ℕ
stream_of words = byte words 3

-- the words of a packet that says this, with zeros after its bytes
pub record Encodes8 (part : Part8) (words : List ℕ) : Type 0 where
  pub four : length words ≡ 4
  pub kind : type_of words ≡ 0x5
  pub kept : is_left_out words ≡ false
  pub spelled : Spells8 part words
  pub zeros : drop (length part.bytes) (data_places words) ≡ replicate (13 - length part.bytes) 0
