-- Each reply to a stream message has four words.
use Rattle.std.proofs.Common.{Bool, true, false, ℕ, ◌≡◌, ◌+◌, refl, List, [], ◌∷◌, ◌++◌, Option, Some, None, cond, eqb, zero, suc}
use Rattle.std.specs.List.{All, slice_get}
use Rattle.std.proofs.lemmas.List.Elements.{All-append, All-cons, All-nil}
use Rattle.ump_grammar.specs.declared.packet.Packet.{Packet}
use Rattle.ump_grammar.specs.Replies.{word_count}
use Rattle.system_stream.specs.declared.message.StreamMessage.{StreamMessage}
use Rattle.system_stream.specs.declared.message.StreamMessage.TheVariants as stream
use Rattle.system_stream.specs.declared.texts.TextKind.{TextKind}
use Rattle.system_stream.specs.declared.texts.TextKind.TheVariants as kind
use Rattle.system_stream.specs.Cut.{form_at, message_at, part_bytes, part_count}
use Rattle.system_stream.specs.Layout.{flag, packet_of}
use Rattle.system_stream.specs.Texts.{part_size}
use Rattle.function_blocks.specs.declared.setup.Block.{Block}
use Rattle.function_blocks.specs.Replies.{asked, first_packets, text_packets, info_of, identity_message, notice_of, block_info_of}
use Rattle.function_blocks.specs.Replies.{block_replies, replies_from, replies_of_named, discovery_replies, blocks_replies, stream_replies}
use Rattle.function_blocks.specs.Setups.{SetupData}
use Rattle.function_blocks.proofs.PushLaws.{part_four_words}

abbrev HasFour : Packet → Type 0
HasFour packet = word_count packet ≡ 4

one : (p : Packet) → word_count p ≡ 4 → All HasFour (p ∷ [])
one p four = All-cons HasFour p [] four (All-nil HasFour)

asked-four : (b : Bool) (ps : List Packet) → All HasFour ps → All HasFour (asked b ps)
asked-four true ps all = all
asked-four false ps all = All-nil HasFour

text-four : (k : TextKind) (block : ℕ) (text : List ℕ) (n : ℕ) → All HasFour (first_packets k block text n)
text-four k block text zero = All-nil HasFour
text-four k block text (suc n) =
    All-append HasFour (first_packets k block text n) (packet_of (message_at k block text n) ∷ []) (text-four k block text n)
    (one (packet_of (message_at k block text n))
    (part_four_words k (form_at (part_count k text) n) block (part_bytes (part_size k) text n)))

block-four : (filter number : ℕ) (b : Block) → All HasFour (block_replies filter number b)
block-four filter number b =
    All-append HasFour (asked (flag filter 0) (packet_of (block_info_of number b) ∷ []))
    (asked (flag filter 1) (text_packets kind.BlockName number b.name))
    (asked-four (flag filter 0) (packet_of (block_info_of number b) ∷ []) (one (packet_of (block_info_of number b)) refl))
    (asked-four (flag filter 1) (text_packets kind.BlockName number b.name)
    (text-four kind.BlockName number b.name (part_count kind.BlockName b.name)))

from-four : (filter number : ℕ) (bs : List Block) → All HasFour (replies_from filter number bs)
from-four filter number [] = All-nil HasFour
from-four filter number (b ∷ bs) =
    All-append HasFour (block_replies filter number b) (replies_from filter (number + 1) bs) (block-four filter number b)
    (from-four filter (number + 1) bs)

named-four : (filter number : ℕ) (o : Option Block) → All HasFour (replies_of_named filter number o)
named-four filter number None = All-nil HasFour
named-four filter number (Some b) = block-four filter number b

blocks-four : (setup : SetupData) (number filter : ℕ) → All HasFour (blocks_replies setup number filter)
blocks-four setup number filter = go (eqb number 255)
  where
    go : (t : Bool)
        → All HasFour (cond t (replies_from filter 0 setup.blocks) (replies_of_named filter number (slice_get setup.blocks number)))
    go true = from-four filter 0 setup.blocks
    go false = named-four filter number (slice_get setup.blocks number)

discovery-four : (setup : SetupData) (protocol filter : ℕ) → All HasFour (discovery_replies setup protocol filter)
discovery-four setup protocol filter =
    let a : List Packet = asked (flag filter 0) (packet_of (info_of setup) ∷ []) in
    let b : List Packet = asked (flag filter 1) (packet_of (identity_message setup) ∷ []) in
    let c : List Packet = asked (flag filter 2) (text_packets kind.EndpointName 0 setup.endpoint.name) in
    let d : List Packet = asked (flag filter 3) (text_packets kind.ProductId 0 setup.endpoint.id) in
    let e : List Packet = asked (flag filter 4) (packet_of (notice_of protocol) ∷ []) in
    All-append HasFour (a ++ b ++ c ++ d) e
    (All-append HasFour (a ++ b ++ c) d
    (All-append HasFour (a ++ b) c
    (All-append HasFour a b
    (asked-four (flag filter 0) (packet_of (info_of setup) ∷ []) (one (packet_of (info_of setup)) refl))
    (asked-four (flag filter 1) (packet_of (identity_message setup) ∷ []) (one (packet_of (identity_message setup)) refl)))
    (asked-four (flag filter 2) (text_packets kind.EndpointName 0 setup.endpoint.name)
    (text-four kind.EndpointName 0 setup.endpoint.name (part_count kind.EndpointName setup.endpoint.name))))
    (asked-four (flag filter 3) (text_packets kind.ProductId 0 setup.endpoint.id)
    (text-four kind.ProductId 0 setup.endpoint.id (part_count kind.ProductId setup.endpoint.id))))
    (asked-four (flag filter 4) (packet_of (notice_of protocol) ∷ []) (one (packet_of (notice_of protocol)) refl))

pub replies-four : (setup : SetupData) (protocol : ℕ) (message : StreamMessage) → All HasFour (stream_replies setup protocol message)
replies-four setup protocol (stream.Discovery major minor filter) = discovery-four setup protocol filter
replies-four setup protocol (stream.ConfigRequest wanted jr) = one _ refl
replies-four setup protocol (stream.BlockDiscovery number filter) = blocks-four setup number filter
replies-four setup protocol (stream.Info major minor fixed blocks midi2 midi1 receives sends) = All-nil HasFour
replies-four setup protocol (stream.Identity manufacturer family model revision) = All-nil HasFour
replies-four setup protocol (stream.Name f text) = All-nil HasFour
replies-four setup protocol (stream.ProductId f text) = All-nil HasFour
replies-four setup protocol (stream.ConfigNotice wanted jr) = All-nil HasFour
replies-four setup protocol (stream.BlockInfo active block hint midi1 direction first count ci sysex8) = All-nil HasFour
replies-four setup protocol (stream.BlockName f block text) = All-nil HasFour
replies-four setup protocol stream.StartClip = All-nil HasFour
replies-four setup protocol stream.EndClip = All-nil HasFour
replies-four setup protocol stream.Other = All-nil HasFour
