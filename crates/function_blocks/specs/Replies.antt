-- The replies to stream messages (M2-104-UM, UMP stream messages), and the protocol in force.
use Rattle.std.specs.Prelude.{ℕ, ◌+◌, ◌==◌, Bool, true, false, if◌then◌else◌, List, [], ◌∷◌, ◌++◌, length, Option, Some, None, slice_get}
use Rattle.std.proofs.Common.{zero, suc}
use Rattle.ump_grammar.specs.declared.packet.Packet.{Packet}
use Rattle.system_stream.specs.declared.message.StreamMessage.{StreamMessage}
use Rattle.system_stream.specs.declared.message.StreamMessage.TheVariants as stream
use Rattle.system_stream.specs.declared.texts.TextKind.{TextKind}
use Rattle.system_stream.specs.declared.texts.TextKind.TheVariants as kind
use Rattle.system_stream.specs.Cut.{message_at, part_count}
use Rattle.system_stream.specs.Layout.{flag, packet_of}
use Rattle.function_blocks.specs.declared.setup.Block.{Block}
use Rattle.function_blocks.specs.Endpoints.{is_supported}
use Rattle.function_blocks.specs.Setups.{SetupData, in_two_bytes}

-- these replies, if they are asked for
abbrev pub asked : Bool → List Packet → List Packet
asked true replies = replies
asked false replies = []

-- the packets of a text: the first ones, by their number, and all
abbrev pub first_packets : TextKind → ℕ → List ℕ → ℕ → List Packet
first_packets kind block text zero = []
first_packets kind block text (suc k) =
    first_packets kind block text k ++ packet_of (message_at kind block text k) ∷ []

abbrev pub text_packets : TextKind → ℕ → List ℕ → List Packet
text_packets kind block text = first_packets kind block text (part_count kind text)

-- version 1.1 of the format, and no jitter reduction
abbrev pub info_of : SetupData → StreamMessage
info_of setup = stream.Info 1 1 setup.endpoint.fixed (length setup.blocks) setup.endpoint.midi2 setup.endpoint.midi1 false false

abbrev pub identity_message : SetupData → StreamMessage
identity_message setup =
    stream.Identity setup.endpoint.manufacturer (in_two_bytes setup.endpoint.family) (in_two_bytes setup.endpoint.model)
    setup.endpoint.revision

abbrev pub notice_of : ℕ → StreamMessage
notice_of protocol = stream.ConfigNotice protocol 0

-- bit 0 of the filter asks for the info, bit 1 for the identity, bit 2 for the name, bit 3 for the product
-- id, bit 4 for the notice
abbrev pub discovery_replies : SetupData → ℕ → ℕ → List Packet
discovery_replies setup protocol filter =
    asked (flag filter 0) (packet_of (info_of setup) ∷ [])
    ++ asked (flag filter 1) (packet_of (identity_message setup) ∷ [])
    ++ asked (flag filter 2) (text_packets kind.EndpointName 0 setup.endpoint.name)
    ++ asked (flag filter 3) (text_packets kind.ProductId 0 setup.endpoint.id)
    ++ asked (flag filter 4) (packet_of (notice_of protocol) ∷ [])

abbrev pub block_info_of : ℕ → Block → StreamMessage
block_info_of number block =
    stream.BlockInfo block.active number block.hint block.midi1 block.direction block.first block.count block.ci block.sysex8

-- bit 0 of the filter asks for the info, bit 1 for the name
abbrev pub block_replies : ℕ → ℕ → Block → List Packet
block_replies filter number block =
    asked (flag filter 0) (packet_of (block_info_of number block) ∷ [])
    ++ asked (flag filter 1) (text_packets kind.BlockName number block.name)

-- the blocks from a number on, one after the other
abbrev pub replies_from : ℕ → ℕ → List Block → List Packet
replies_from filter number [] = []
replies_from filter number (block ∷ blocks) = block_replies filter number block ++ replies_from filter (number + 1) blocks

abbrev pub replies_of_named : ℕ → ℕ → Option Block → List Packet
replies_of_named filter number None = []
replies_of_named filter number (Some block) = block_replies filter number block

-- all blocks for the number 255, else the block of the number, if there is one
abbrev pub blocks_replies : SetupData → ℕ → ℕ → List Packet
blocks_replies setup number filter =
    if number == 255 then replies_from filter 0 setup.blocks else replies_of_named filter number (slice_get setup.blocks number)

-- a request for a protocol that is supported puts it in force
abbrev pub requested : SetupData → ℕ → ℕ → ℕ
requested setup protocol wanted = if is_supported setup.endpoint.midi1 setup.endpoint.midi2 wanted then wanted else protocol

-- the protocol in force after a message
abbrev pub protocol_after : SetupData → ℕ → StreamMessage → ℕ
protocol_after setup protocol (stream.ConfigRequest wanted jr) = requested setup protocol wanted
protocol_after setup protocol _ = protocol

-- the replies to a message, with the protocol in force before it
abbrev pub stream_replies : SetupData → ℕ → StreamMessage → List Packet
stream_replies setup protocol (stream.Discovery major minor filter) = discovery_replies setup protocol filter
stream_replies setup protocol (stream.ConfigRequest wanted jr) = packet_of (notice_of (requested setup protocol wanted)) ∷ []
stream_replies setup protocol (stream.BlockDiscovery number filter) = blocks_replies setup number filter
stream_replies setup protocol _ = []
