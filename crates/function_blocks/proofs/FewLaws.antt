-- How many packets of replies there are.
use Rattle.std.proofs.Common.{Bool, true, false, ℕ, ◌≤◌, ◌+◌, ◌*◌, List, [], ◌∷◌, ◌++◌}
use Rattle.std.proofs.Common.{length, arith, length-append, cond, eqb, zero, suc, lit≤}
use Rattle.std.specs.List.{All, slice_get}
use Rattle.std.proofs.lemmas.List.Elements.{All-head, All-tail}
use Rattle.ump_grammar.specs.declared.packet.Packet.{Packet}
use Rattle.system_stream.specs.declared.message.StreamMessage.{StreamMessage}
use Rattle.system_stream.specs.declared.message.StreamMessage.TheVariants as stream
use Rattle.system_stream.specs.declared.texts.TextKind.{TextKind}
use Rattle.system_stream.specs.declared.texts.TextKind.TheVariants as kind
use Rattle.system_stream.specs.Cut.{part_count}
use Rattle.system_stream.specs.Layout.{flag, packet_of}
use Rattle.system_stream.specs.Texts.{limit_of}
use Rattle.function_blocks.specs.declared.setup.Block.{Block}
use Rattle.function_blocks.specs.Blocks.{IsBlock}
use Rattle.function_blocks.specs.Replies.{asked, text_packets, info_of, identity_message, notice_of, block_info_of, block_replies}
use Rattle.function_blocks.specs.Replies.{replies_from, replies_of_named, discovery_replies, blocks_replies, stream_replies}
use Rattle.function_blocks.specs.Setups.{SetupData, IsSetup}
use Rattle.function_blocks.proofs.PushLaws.{few_parts, first-count}

asked-few : (b : Bool) (ps : List Packet) → length (asked b ps) ≤ length ps
asked-few true ps = omega arith
asked-few false ps = omega arith

text-few : (b : Bool) (k : TextKind) (block : ℕ) (text : List ℕ) → length text ≤ limit_of k
    → length (asked b (text_packets k block text)) ≤ 7
text-few b k block text fits =
    omega (arith, asked-few b (text_packets k block text), first-count k block text (part_count k text), few_parts k text fits)

one-few : (b : Bool) (p : Packet) → length (asked b (p ∷ [])) ≤ 1
one-few true p = omega arith
one-few false p = omega arith

block-few : (filter number : ℕ) (b : Block) → IsBlock b → length (block_replies filter number b) ≤ 8
block-few filter number b fits =
    let infos : List Packet = asked (flag filter 0) (packet_of (block_info_of number b) ∷ []) in
    let names : List Packet = asked (flag filter 1) (text_packets kind.BlockName number b.name) in
    omega (
      arith,
      length-append infos names,
      one-few (flag filter 0) (packet_of (block_info_of number b)),
      text-few (flag filter 1) kind.BlockName number b.name fits.named.1,
    )

from-few : (filter number : ℕ) (bs : List Block) → All IsBlock bs → length (replies_from filter number bs) ≤ 8 * length bs
from-few filter number [] fits = omega arith
from-few filter number (b ∷ bs) fits =
    omega (
      arith,
      length-append (block_replies filter number b) (replies_from filter (number + 1) bs),
      block-few filter number b (All-head IsBlock b bs fits),
      from-few filter (number + 1) bs (All-tail IsBlock b bs fits),
    )

named-few : (filter number : ℕ) (bs : List Block) (n : ℕ) → All IsBlock bs → length (replies_of_named filter number (slice_get bs n)) ≤ 8
named-few filter number [] n fits = omega arith
named-few filter number (b ∷ bs) zero fits = block-few filter number b (All-head IsBlock b bs fits)
named-few filter number (b ∷ bs) (suc n) fits = named-few filter number bs n (All-tail IsBlock b bs fits)

blocks-few : (setup : SetupData) (number filter : ℕ) → IsSetup setup → length (blocks_replies setup number filter) ≤ 256
blocks-few setup number filter fits = go (eqb number 255)
  where
    go : (t : Bool)
        → length (cond t (replies_from filter 0 setup.blocks) (replies_of_named filter number (slice_get setup.blocks number))) ≤ 256
    go true = omega (arith, from-few filter 0 setup.blocks fits.blocks, fits.few_blocks)
    go false = omega (arith, named-few filter number setup.blocks number fits.blocks)

discovery-few : (setup : SetupData) (protocol filter : ℕ) → IsSetup setup → length (discovery_replies setup protocol filter) ≤ 17
discovery-few setup protocol filter fits =
    let a : List Packet = asked (flag filter 0) (packet_of (info_of setup) ∷ []) in
    let b : List Packet = asked (flag filter 1) (packet_of (identity_message setup) ∷ []) in
    let c : List Packet = asked (flag filter 2) (text_packets kind.EndpointName 0 setup.endpoint.name) in
    let d : List Packet = asked (flag filter 3) (text_packets kind.ProductId 0 setup.endpoint.id) in
    let e : List Packet = asked (flag filter 4) (packet_of (notice_of protocol) ∷ []) in
    omega (
      arith,
      length-append (a ++ b ++ c ++ d) e,
      length-append (a ++ b ++ c) d,
      length-append (a ++ b) c,
      length-append a b,
      one-few (flag filter 0) (packet_of (info_of setup)),
      one-few (flag filter 1) (packet_of (identity_message setup)),
      text-few (flag filter 2) kind.EndpointName 0 setup.endpoint.name fits.endpoint.named.1,
      text-few (flag filter 3) kind.ProductId 0 setup.endpoint.id fits.endpoint.identified.1,
      one-few (flag filter 4) (packet_of (notice_of protocol)),
    )

pub replies-few : (setup : SetupData) (protocol : ℕ) (message : StreamMessage) → IsSetup setup
    → 4 * length (stream_replies setup protocol message) ≤ 1024
replies-few setup protocol (stream.Discovery major minor filter) fits = omega (arith, discovery-few setup protocol filter fits)
replies-few setup protocol (stream.ConfigRequest wanted jr) fits = lit≤ tt
replies-few setup protocol (stream.BlockDiscovery number filter) fits = omega (arith, blocks-few setup number filter fits)
replies-few setup protocol (stream.Info major minor fixed blocks midi2 midi1 receives sends) fits = lit≤ tt
replies-few setup protocol (stream.Identity manufacturer family model revision) fits = lit≤ tt
replies-few setup protocol (stream.Name f text) fits = lit≤ tt
replies-few setup protocol (stream.ProductId f text) fits = lit≤ tt
replies-few setup protocol (stream.ConfigNotice wanted jr) fits = lit≤ tt
replies-few setup protocol (stream.BlockInfo active block hint midi1 direction first count ci sysex8) fits = lit≤ tt
replies-few setup protocol (stream.BlockName f block text) fits = lit≤ tt
replies-few setup protocol stream.StartClip fits = lit≤ tt
replies-few setup protocol stream.EndClip fits = lit≤ tt
replies-few setup protocol stream.Other fits = lit≤ tt
