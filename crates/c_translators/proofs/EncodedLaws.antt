-- The words of packets one after another.
use Rattle.std.proofs.Common.{ℕ, suc, ◌≡◌, ◌≤◌, ◌<◌, ◌+◌, ◌*◌, ◌∙◌, refl, ap, sym, subst, arith, Bool, true, false}
use Rattle.std.proofs.Common.{List, [], ◌∷◌, ◌++◌, length, take, drop, length-append, length-take, Some, None}
use Rattle.std.proofs.lemmas.Bool.{ltb-false, ltb-true}
use Rattle.std.proofs.lemmas.List.{append_assoc, append-nil}
use Rattle.std.proofs.lemmas.List.Elements.{All-drop, All-from_recursion, All-take}
use Rattle.std.proofs.lemmas.Option.{same_Some}
use Rattle.std.specs.Prelude.{All, nat_lt, if◌then◌else◌}
use Rattle.std.specs.Fork.{slice_chunk}
use Rattle.voice_messages.specs.declared.voice2.Form.{Form}
use Rattle.midi1_bytes.specs.Messages.{AreData}
use Rattle.sysex_groups.specs.Cut.{form_at, part_at, part_count}
use Rattle.ump_grammar.specs.Ranges.{IsPacket}
use Rattle.ump_grammar.specs.declared.packet.Packet.TheVariants.{Exclusive}
use Rattle.midi_meaning.specs.Raising.{exclusive_packet, exclusive_packets, first_exclusive_packets}
use Rattle.ump_grammar.specs.Reading.{Encodes}
use Rattle.ump_grammar.specs.declared.packet.Packet.{Packet}
use Rattle.c_answers.specs.Fronts.{with_front}
use Rattle.c_translators.specs.Encoded.{AreEncoded, EncodesAll}
use Rattle.c_answers.proofs.FrontLaws.{then_front}

-- one more packet
pub one_more : (packets : List Packet) (words : List ℕ) (packet : Packet) (own : List ℕ) → EncodesAll packets words → Encodes packet own →
    EncodesAll (packets ++ packet ∷ []) (words ++ own)
one_more [] words packet own all one = (own, [], ap (λ ws. ws ++ own) all ∙ sym (append-nil own), one, refl)
one_more (first ∷ packets) words packet own all one =
    (all.0, all.1 ++ own, ap (λ ws. ws ++ own) all.2 ∙ append_assoc all.0 all.1 own, all.3, one_more packets all.1 packet own all.4 one)

-- ---- an exclusive

-- the part that `part` answers is a packet of those into which the payload is cut
pub record IsCutPart (group : ℕ) (payload : List ℕ) (k : ℕ) (form : Form) (bytes : List ℕ) : Type 0 where
  pub below : k < part_count payload
  pub packet : Exclusive group form bytes ≡ exclusive_packet group payload k
  pub chunk : bytes ≡ slice_chunk payload 6 k

pub cut_part : (group : ℕ) (payload : List ℕ) (k : ℕ) (form : Form) (bytes : List ℕ) → Some (form, bytes) ≡ part_at payload k
    → IsCutPart group payload k form bytes
cut_part group payload k form bytes e = go (nat_lt k (part_count payload)) refl e
  where
    there : Form × List ℕ
    there = (form_at (part_count payload) k, slice_chunk payload 6 k)

    go : (t : Bool) → nat_lt k (part_count payload) ≡ t → Some (form, bytes) ≡ (if t then Some there else None)
        → IsCutPart group payload k form bytes
    go true below is =
        let same : (form, bytes) ≡ there = same_Some (form, bytes) there is in
        record {
          below = ltb-true k (part_count payload) below;
          packet = ap (λ part. Exclusive group part.0 part.1) same;
          chunk = ap (λ (part : Form × List ℕ). part.1) same;
        }
    go false below is = cc

pub cut_past : (payload : List ℕ) (k : ℕ) → None ≡ part_at payload k → part_count payload ≤ k
cut_past payload k e = go (nat_lt k (part_count payload)) refl e
  where
    there : Form × List ℕ
    there = (form_at (part_count payload) k, slice_chunk payload 6 k)

    go : (t : Bool) → nat_lt k (part_count payload) ≡ t → None ≡ (if t then Some there else None) → part_count payload ≤ k
    go true below is = absurd cc
    go false below is = ltb-false k (part_count payload) below

chunk_data : (payload : List ℕ) (k : ℕ) → AreData payload → All (λ b. b < 128) (slice_chunk payload 6 k)
chunk_data payload k low =
    All-take (λ b. b < 128) 6 (drop (k * 6) payload)
    (All-drop (λ b. b < 128) (k * 6) payload (All-from_recursion (λ b. b < 128) payload low))

pub part_fits : (group : ℕ) (payload : List ℕ) (k : ℕ) (form : Form) (bytes : List ℕ) → group < 16 → AreData payload
    → IsCutPart group payload k form bytes →
    IsPacket (Exclusive group form bytes)
part_fits group payload k form bytes below low part =
    subst (λ (chunk : List ℕ). (group < 16) × (length chunk ≤ 6) × All (λ b. b < 128) chunk) (sym part.chunk)
    (below, omega (arith, length-take 6 (drop (k * 6) payload)), chunk_data payload k low)

-- one more packet of an exclusive is written after those before it
pub record AreCut (group : ℕ) (payload old : List ℕ) (k written : ℕ) (words : List ℕ) : Type 0 where
  pub within : k ≤ part_count payload
  pub all : List ℕ
  pub encoded : EncodesAll (first_exclusive_packets group payload k) all
  pub count : written ≡ length all
  pub twice : length all ≡ 2 * k
  pub front : words ≡ with_front all old

pub cut_more : (group : ℕ) (payload old : List ℕ) (k written : ℕ) (words : List ℕ) (form : Form) (bytes own rest : List ℕ)
    → AreCut group payload old k written words →
    IsCutPart group payload k form bytes → Encodes (Exclusive group form bytes) own → length own ≡ 2
    → rest ≡ with_front own (drop written words) →
    AreCut group payload old (k + 1) (written + 2) (take written words ++ rest)
cut_more group payload old k written words form bytes own rest are part encoded two is =
    let next : suc k ≡ k + 1 = omega arith in
    let E : Packet → Type 0 = λ p. Encodes p own in
    let more =
    one_more (first_exclusive_packets group payload k) are.all (exclusive_packet group payload k) own are.encoded
    (subst E part.packet encoded) in
    record {
      within = omega (arith, part.below);
      all = are.all ++ own;
      encoded = subst (λ n. EncodesAll (first_exclusive_packets group payload n) (are.all ++ own)) next more;
      count = omega (arith, are.count, two, length-append are.all own);
      twice = omega (arith, are.twice, two, length-append are.all own);
      front =
          ap (λ r. take written words ++ r) is
          ∙ ap (λ n. take n words ++ with_front own (drop n words)) are.count
          ∙ ap (λ b. take (length are.all) b ++ with_front own (drop (length are.all) b)) are.front
          ∙ then_front are.all own old;
    }

pub all_cut : (group : ℕ) (payload old : List ℕ) (k written : ℕ) (words : List ℕ) → AreCut group payload old k written words
    → part_count payload ≤ k →
    AreEncoded (exclusive_packets group payload) old written words
all_cut group payload old k written words are past =
    let last : k ≡ part_count payload = omega (arith, are.within, past) in
    record {
      words = are.all;
      encoded = subst (λ n. EncodesAll (first_exclusive_packets group payload n) are.all) last are.encoded;
      count_is = are.count;
      front = are.front;
    }
