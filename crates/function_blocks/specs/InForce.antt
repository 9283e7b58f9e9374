-- The protocol in force after stream packets, looking back over them, and the replies to one more.
use Rattle.std.specs.Prelude.{ℕ, if◌then◌else◌, List, [], ◌∷◌, Option, Some, None, unwrap_or, option_and_then}
use Rattle.std.specs.Option.{option_map_or}
use Rattle.ump_grammar.specs.declared.packet.Packet.{Packet}
use Rattle.ump_grammar.specs.declared.packet.Packet.TheVariants as packet
use Rattle.system_stream.specs.declared.message.StreamMessage.{StreamMessage}
use Rattle.system_stream.specs.declared.message.StreamMessage.TheVariants as stream
use Rattle.system_stream.specs.Layout.{has_bad_format, message_in}
use Rattle.function_blocks.specs.Endpoints.{is_supported}
use Rattle.function_blocks.specs.Replies.{stream_replies}
use Rattle.function_blocks.specs.Setups.{SetupData}

-- the message of a stream packet, if its format is one that its status has
abbrev pub message_read : Packet → Option StreamMessage
message_read (packet.Stream format status low second third fourth) =
    if has_bad_format (packet.Stream format status low second third fourth) then None
    else Some (message_in (packet.Stream format status low second third fourth))
message_read _ = None

-- the protocol of a request for one that is supported
abbrev pub protocol_requested : SetupData → StreamMessage → Option ℕ
protocol_requested setup (stream.ConfigRequest wanted jr) =
    if is_supported setup.endpoint.midi1 setup.endpoint.midi2 wanted then Some wanted else None
protocol_requested setup _ = None

-- the protocol in force after packets, newest first: that of the last request for one that is supported, else
-- the setup's
abbrev pub protocol_at : SetupData → List Packet → ℕ
protocol_at setup [] = setup.endpoint.protocol
protocol_at setup (packet ∷ past) = unwrap_or (option_and_then (protocol_requested setup) (message_read packet)) (protocol_at setup past)

-- the replies to a packet that comes after others
abbrev pub replies_at : SetupData → List Packet → Packet → List Packet
replies_at setup past packet = option_map_or (stream_replies setup (protocol_at setup past)) (message_read packet) []
