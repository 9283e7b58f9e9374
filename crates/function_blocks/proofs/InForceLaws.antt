-- The protocol in force, kept message by message.
use Rattle.std.proofs.Common.{Bool, true, false, ℕ, ◌≡◌, ◌∙◌, ap, sym, refl, List, [], ◌∷◌, Some, None, cond, option_and_then}
use Rattle.std.specs.Prelude.{unwrap_or}
use Rattle.std.specs.Option.{option_map_or}
use Rattle.ump_grammar.specs.declared.packet.Packet.{Packet}
use Rattle.system_stream.specs.declared.message.StreamMessage.{StreamMessage}
use Rattle.system_stream.specs.declared.message.StreamMessage.TheVariants as stream
use Rattle.function_blocks.specs.Endpoints.{is_supported}
use Rattle.function_blocks.specs.InForce.{message_read, protocol_at, protocol_requested, replies_at}
use Rattle.function_blocks.specs.Replies.{protocol_after, stream_replies}
use Rattle.function_blocks.specs.Setups.{SetupData}

-- one message
after-requested : (setup : SetupData) (protocol : ℕ) (m : StreamMessage)
    → protocol_after setup protocol m ≡ unwrap_or (protocol_requested setup m) protocol
after-requested setup protocol (stream.ConfigRequest wanted jr) = go (is_supported setup.endpoint.midi1 setup.endpoint.midi2 wanted)
  where
    go : (t : Bool) → cond t wanted protocol ≡ unwrap_or (cond t (Some wanted) None) protocol
    go true = refl
    go false = refl
after-requested setup protocol (stream.Discovery major minor filter) = refl
after-requested setup protocol (stream.Info major minor fixed blocks midi2 midi1 receives sends) = refl
after-requested setup protocol (stream.Identity manufacturer family model revision) = refl
after-requested setup protocol (stream.Name f text) = refl
after-requested setup protocol (stream.ProductId f text) = refl
after-requested setup protocol (stream.ConfigNotice wanted jr) = refl
after-requested setup protocol (stream.BlockDiscovery block filter) = refl
after-requested setup protocol (stream.BlockInfo active block hint midi1 direction first count ci sysex8) = refl
after-requested setup protocol (stream.BlockName f block text) = refl
after-requested setup protocol stream.StartClip = refl
after-requested setup protocol stream.EndClip = refl
after-requested setup protocol stream.Other = refl

pub protocol-follows : (setup : SetupData) (past : List Packet) (packet : Packet) (m : StreamMessage) → message_read packet ≡ Some m →
    protocol_after setup (protocol_at setup past) m ≡ protocol_at setup (packet ∷ past)
protocol-follows setup past packet m is =
    after-requested setup (protocol_at setup past) m
    ∙ ap (λ o. unwrap_or (option_and_then (protocol_requested setup) o) (protocol_at setup past)) (sym is)

pub replies-follow : (setup : SetupData) (past : List Packet) (packet : Packet) (m : StreamMessage) → message_read packet ≡ Some m →
    stream_replies setup (protocol_at setup past) m ≡ replies_at setup past packet
replies-follow setup past packet m is = ap (λ o. option_map_or (stream_replies setup (protocol_at setup past)) o []) (sym is)

pub protocol-stays : (setup : SetupData) (past : List Packet) (packet : Packet) → message_read packet ≡ None
    → protocol_at setup (packet ∷ past) ≡ protocol_at setup past
protocol-stays setup past packet none = ap (λ o. unwrap_or (option_and_then (protocol_requested setup) o) (protocol_at setup past)) none
