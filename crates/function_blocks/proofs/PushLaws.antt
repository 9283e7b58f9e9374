-- Packets that are added to replies.
use Rattle.std.proofs.Common.{Bool, ℕ, ◌≡◌, ◌<◌, ◌≤◌, ◌+◌, ◌∙◌, ap, sym, refl, List, [], ◌∷◌, ◌++◌, length, arith, length-append}
use Rattle.std.proofs.Common.{zero, suc, subst, Some, None, true, false, cond, nat_lt, take, get_or, append-nil, append_assoc, add-zero, length-take}
use Rattle.ump_grammar.specs.declared.packet.Packet.{Packet}
use Rattle.ump_grammar.specs.Replies.{AddsPacket, AddsPackets, word_count}
use Rattle.voice_messages.specs.declared.voice2.Form.{Form}
use Rattle.system_stream.specs.declared.message.StreamMessage.{StreamMessage}
use Rattle.system_stream.specs.declared.message.StreamMessage.TheVariants as stream
use Rattle.system_stream.specs.declared.texts.TextKind.{TextKind}
use Rattle.system_stream.specs.declared.texts.TextKind.TheVariants as kind
use Rattle.system_stream.specs.Layout.{FitsPlaces, packet_of}
use Rattle.std.proofs.lemmas.Bool.{lt-ltb, ltb-false, ltb-true}
use Rattle.std.proofs.lemmas.List.{take_more}
use Rattle.system_stream.specs.Cut.{form_at, message_at, packet_at, part_bytes, part_count}
use Rattle.system_stream.specs.Texts.{limit_of, part_message, part_size}
use Rattle.function_blocks.specs.declared.setup.Block.{Block}
use Rattle.function_blocks.specs.Replies.{asked, block_replies, first_packets, replies_from, text_packets}
use Rattle.function_blocks.specs.ForProofs.Pushing.{Pushes}

-- the packet of a message has four words
pub four_words : (m : StreamMessage) → FitsPlaces m → word_count (packet_of m) ≡ 4
four_words (stream.Discovery major minor filter) fits = refl
four_words (stream.Info major minor fixed blocks midi2 midi1 receives sends) fits = refl
four_words (stream.Identity manufacturer family model revision) fits = refl
four_words (stream.Name f text) fits = refl
four_words (stream.ProductId f text) fits = refl
four_words (stream.ConfigRequest protocol jr) fits = refl
four_words (stream.ConfigNotice protocol jr) fits = refl
four_words (stream.BlockDiscovery block filter) fits = refl
four_words (stream.BlockInfo active block hint midi1 direction first count ci sysex8) fits = refl
four_words (stream.BlockName f block text) fits = refl
four_words stream.StartClip fits = refl
four_words stream.EndClip fits = refl
four_words stream.Other fits = absurd fits

-- so have the parts of a text
pub part_four_words : (k : TextKind) (f : Form) (block : ℕ) (text : List ℕ) → word_count (packet_of (part_message k f block text)) ≡ 4
part_four_words kind.EndpointName f block text = refl
part_four_words kind.ProductId f block text = refl
part_four_words kind.BlockName f block text = refl

pub pushes_none : (old : List ℕ) → Pushes [] old old
pushes_none old = record { added = refl; count = omega arith }

pub pushes_one : (m : StreamMessage) (old new : List ℕ) → FitsPlaces m → AddsPacket (packet_of m) old new
    → length new ≡ length old + word_count (packet_of m) → Pushes (packet_of m ∷ []) old new
pushes_one m old new fits adds count = record {
  added = (new, adds, refl);
  count = omega (arith, count, four_words m fits);
}

adds-append : (ps qs : List Packet) (a b c : List ℕ) → AddsPackets ps a b → AddsPackets qs b c → AddsPackets (ps ++ qs) a c
adds-append [] qs a b c first second =
    let P : List ℕ → Type 0 = λ x. AddsPackets qs x c in
    subst P first second
adds-append (p ∷ ps) qs a b c first second = (first.0, first.1, adds-append ps qs first.0 b c first.2 second)

-- one list of packets after another
pub pushes_append : (ps qs : List Packet) (a b c : List ℕ) → Pushes ps a b → Pushes qs b c → Pushes (ps ++ qs) a c
pushes_append ps qs a b c first second = record {
  added = adds-append ps qs a b c first.added second.added;
  count = omega (arith, first.count, second.count, length-append ps qs);
}

-- a text has at most seven packets
pub few_parts : (k : TextKind) (text : List ℕ) → length text ≤ limit_of k → part_count k text ≤ 7
few_parts kind.EndpointName text fits = omega arith
few_parts kind.ProductId text fits = omega arith
few_parts kind.BlockName text fits = omega arith

pub first-count : (k : TextKind) (block : ℕ) (text : List ℕ) (n : ℕ) → length (first_packets k block text n) ≡ n
first-count k block text zero = refl
first-count k block text (suc n) =
    let packet : Packet = packet_of (part_message k (form_at (part_count k text) n) block (part_bytes (part_size k) text n)) in
    omega (arith, length-append (first_packets k block text n) (packet ∷ []), first-count k block text n)

-- the packet that is cut
pub packet-cut : (k : TextKind) (block : ℕ) (text : List ℕ) (n : ℕ) (p : Packet) → n < part_count k text
    → Some p ≡ packet_at k block text n →
    p ≡ packet_of (part_message k (form_at (part_count k text) n) block (part_bytes (part_size k) text n))
packet-cut k block text n p within is =
    let packet : Packet = packet_of (part_message k (form_at (part_count k text) n) block (part_bytes (part_size k) text n)) in
    let found : Some p ≡ Some packet = is ∙ rw (lt-ltb n (part_count k text) within) refl in
    cc

-- there is a packet exactly below the count
pub cut-within : (k : TextKind) (block : ℕ) (text : List ℕ) (n : ℕ) (p : Packet) → Some p ≡ packet_at k block text n → n < part_count k text
cut-within k block text n p is = by (nat_lt n (part_count k text)) refl is
  where
    by : (b : Bool) → nat_lt n (part_count k text) ≡ b → Some p ≡ cond b (Some (packet_of (message_at k block text n))) None
        → n < part_count k text
    by true within some = ltb-true n (part_count k text) within
    by false past some = absurd (let e : Some p ≡ None = some in cc)

pub cut-past : (k : TextKind) (block : ℕ) (text : List ℕ) (n : ℕ) → None ≡ packet_at k block text n → part_count k text ≤ n
cut-past k block text n is = by (nat_lt n (part_count k text)) refl is
  where
    by : (b : Bool) → nat_lt n (part_count k text) ≡ b → None ≡ cond b (Some (packet_of (message_at k block text n))) None
        → part_count k text ≤ n
    by true within none = absurd (let e : None ≡ Some (packet_of (message_at k block text n)) = none in cc)
    by false past none = ltb-false n (part_count k text) past

-- one more packet of a text
pub text-more : (k : TextKind) (block : ℕ) (text : List ℕ) (n : ℕ) (p : Packet) (old now new : List ℕ) → n < part_count k text
    → Some p ≡ packet_at k block text n →
    Pushes (first_packets k block text n) old now → AddsPacket p now new → length new ≡ length now + word_count p
    → Pushes (first_packets k block text (n + 1)) old new
text-more k block text n p old now new within is before adds count =
    let packet : Packet = packet_of (part_message k (form_at (part_count k text) n) block (part_bytes (part_size k) text n)) in
    let same : p ≡ packet = packet-cut k block text n p within is in
    let more : n + 1 ≡ suc n = omega arith in
    let P : Packet → Type 0 = λ q. AddsPacket q now new in
    let four : word_count p ≡ 4 =
    ap word_count same ∙ part_four_words k (form_at (part_count k text) n) block (part_bytes (part_size k) text n) in
    let one : Pushes (packet ∷ []) now new = record { added = (new, subst P same adds, refl); count = omega (arith, count, four) } in
    rw more (pushes_append (first_packets k block text n) (packet ∷ []) old now new before one)

-- the replies of blocks, and of more blocks after them
from-append : (filter number : ℕ) (bs cs : List Block)
    → replies_from filter number (bs ++ cs) ≡ replies_from filter number bs ++ replies_from filter (number + length bs) cs
from-append filter number [] cs = ap (λ n. replies_from filter n cs) (sym (add-zero number))
from-append filter number (b ∷ bs) cs =
    let first : List Packet = block_replies filter number b in
    let counted : number + 1 + length bs ≡ number + length (b ∷ bs) = omega arith in
    ap (λ ps. first ++ ps)
    (from-append filter (number + 1) bs cs ∙ ap (λ n. replies_from filter (number + 1) bs ++ replies_from filter n cs) counted)
    ∙ sym (append_assoc first (replies_from filter (number + 1) bs) (replies_from filter (number + length (b ∷ bs)) cs))

pub from-more : (filter : ℕ) (bs : List Block) (i : ℕ) (b : Block) → i < length bs → b ≡ get_or bs i b →
    replies_from filter 0 (take (i + 1) bs) ≡ replies_from filter 0 (take i bs) ++ block_replies filter i b
from-more filter bs i b within is =
    let front : List Block = take i bs in
    let counted : 0 + length front ≡ i = omega (arith, length-take i bs) in
    let cut : take (i + 1) bs ≡ front ++ b ∷ [] = take_more bs i b within ∙ ap (λ x. front ++ x ∷ []) (sym is) in
    ap (replies_from filter 0) cut
    ∙ from-append filter 0 front (b ∷ [])
    ∙ ap (λ n. replies_from filter 0 front ++ replies_from filter n (b ∷ [])) counted
    ∙ ap (λ ps. replies_from filter 0 front ++ ps) (append-nil (block_replies filter i b))

-- the same replies, by what they are known to be
pub asked_message : (b wanted : Bool) (m message : StreamMessage) (old new : List ℕ) → b ≡ wanted → m ≡ message
    → Pushes (asked b (packet_of m ∷ [])) old new → Pushes (asked wanted (packet_of message ∷ [])) old new
asked_message b wanted m message old new same is pushes =
    let P : List Packet → Type 0 = λ ps. Pushes ps old new in
    let replies : asked b (packet_of m ∷ []) ≡ asked wanted (packet_of message ∷ []) = λ i. asked (same i) (packet_of (is i) ∷ []) in
    subst P replies pushes

pub asked_text : (b wanted : Bool) (k : TextKind) (block : ℕ) (t text : List ℕ) (old new : List ℕ) → b ≡ wanted → t ≡ text
    → Pushes (asked b (text_packets k block t)) old new → Pushes (asked wanted (text_packets k block text)) old new
asked_text b wanted k block t text old new same is pushes =
    let P : List Packet → Type 0 = λ ps. Pushes ps old new in
    let replies : asked b (text_packets k block t) ≡ asked wanted (text_packets k block text) =
    λ i. asked (same i) (text_packets k block (is i)) in
    subst P replies pushes

-- five lists of packets, one after the other
pub pushes_five : (a b c d e : List Packet) (r0 r1 r2 r3 r4 r5 : List ℕ) → Pushes a r0 r1 → Pushes b r1 r2 → Pushes c r2 r3 → Pushes d r3 r4
    → Pushes e r4 r5 → Pushes (a ++ b ++ c ++ d ++ e) r0 r5
pushes_five a b c d e r0 r1 r2 r3 r4 r5 p q r s t =
    pushes_append (a ++ b ++ c ++ d) e r0 r4 r5
    (pushes_append (a ++ b ++ c) d r0 r3 r4
    (pushes_append (a ++ b) c r0 r2 r3
    (pushes_append a b r0 r1 r2 p q) r) s) t
