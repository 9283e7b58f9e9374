-- Packets that are added to replies.
use Rattle.std.proofs.Common.{ℕ, ◌≡◌, ◌<◌, ◌≤◌, ◌+◌, ◌*◌, ◌∙◌, refl, sym, List, [], ◌∷◌, ◌++◌}
use Rattle.std.proofs.Common.{arith, suc, subst, None, Some, drop, length, nat_lt, inl, inr}
use Rattle.std.proofs.lemmas.Bool.{cases_Bool, lt-ltb, ltb-false, ltb-true}
use Rattle.std.proofs.lemmas.List.Elements.{All-drop, All-take}
use Rattle.std.specs.Fork.{slice_chunk}
use Rattle.std.specs.List.{All}
use Rattle.ump_grammar.specs.declared.packet.Packet.{Packet}
use Rattle.ump_grammar.specs.declared.packet.Packet.TheVariants as packet
use Rattle.ump_grammar.specs.Replies.{AddsPacket, AddsPackets}
use Rattle.voice_messages.specs.declared.voice2.Form.{Form}
use Rattle.sysex_groups.specs.Cut.{form_at, part_at, part_count}
use Rattle.ci_responder.specs.Replies.{first_packets}

adds-append : (ps qs : List Packet) (a b c : List ℕ) → AddsPackets ps a b → AddsPackets qs b c → AddsPackets (ps ++ qs) a c
adds-append [] qs a b c first second =
    let P : List ℕ → Type 0 = λ x. AddsPackets qs x c in
    subst P first second
adds-append (p ∷ ps) qs a b c first second = (first.0, first.1, adds-append ps qs first.0 b c first.2 second)

-- the part that is cut
abbrev pub part : List ℕ → ℕ → Form × List ℕ
part bytes k = (form_at (part_count bytes) k, slice_chunk bytes 6 k)

pub part-cut : (bytes : List ℕ) (k : ℕ) (p : Form × List ℕ) → k < part_count bytes → Some p ≡ part_at bytes k → p ≡ part bytes k
part-cut bytes k p within is =
    let found : Some p ≡ Some (part bytes k) = is ∙ rw (lt-ltb k (part_count bytes) within) refl in
    cc

none-some : (p : Form × List ℕ) → None ≡ Some p → ⊥
none-some p e = cc

-- a packet that is there is one of the count, and after the last one there is none
pub part-within : (bytes : List ℕ) (k : ℕ) (p : Form × List ℕ) → Some p ≡ part_at bytes k → k < part_count bytes
part-within bytes k p is = elim (cases_Bool (nat_lt k (part_count bytes))) [
  | inl some ↦ ltb-true k (part_count bytes) some
  | inr past ↦ absurd (none-some p (sym (is ∙ rw past refl)))
]

pub part-past : (bytes : List ℕ) (k : ℕ) → None ≡ part_at bytes k → part_count bytes ≤ k
part-past bytes k none = elim (cases_Bool (nat_lt k (part_count bytes))) [
  | inl some ↦ absurd (none-some (part bytes k) (none ∙ rw some refl))
  | inr past ↦ omega (arith, ltb-false k (part_count bytes) past)
]

-- at most 57 packets have at most 342 bytes
pub part-few : (bytes : List ℕ) → length bytes ≤ 342 → part_count bytes ≤ 57
part-few bytes few = omega (arith, few)

-- one more packet of a payload
pub first-more : (group : ℕ) (bytes : List ℕ) (k : ℕ) (p : Form × List ℕ) (now new : List ℕ) → p ≡ part bytes k →
    AddsPackets (first_packets group bytes k) [] now → AddsPacket (packet.Exclusive group p.0 p.1) now new
    → AddsPackets (first_packets group bytes (k + 1)) [] new
first-more group bytes k p now new same before adds =
    let P : (Form × List ℕ) → Type 0 = λ q. AddsPacket (packet.Exclusive group q.0 q.1) now new in
    let last : Packet = packet.Exclusive group (form_at (part_count bytes) k) (slice_chunk bytes 6 k) in
    let more : k + 1 ≡ suc k = omega arith in
    rw more (adds-append (first_packets group bytes k) (last ∷ []) [] now new before (new, subst P same adds, refl))

pub chunk-data : (bytes : List ℕ) (k : ℕ) → All (λ b. b < 128) bytes → All (λ b. b < 128) (slice_chunk bytes 6 k)
chunk-data bytes k fits = All-take (λ b. b < 128) 6 (drop (k * 6) bytes) (All-drop (λ b. b < 128) (k * 6) bytes fits)
