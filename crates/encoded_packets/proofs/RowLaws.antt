-- Words of each type, opcode and status are of a row, or reserved.
use Rattle.std.proofs.Common.{◌≡◌, ◌≤◌, ◌<◌, ℕ, Bool, true, false, not, ◌&&◌, nat_le, List, take, refl, subst, sym, ◌∙◌, arith}
use Rattle.std.specs.Prelude.{◌==◌, ◌≢◌, None}
use Rattle.std.proofs.lemmas.Bool.{and_parts, eqb-false, eqb-true, leb-true, ne_eqb, true≢false}
use Rattle.voice_messages.specs.declared.voice1.Voice1.{Voice1}
use Rattle.voice_messages.specs.declared.voice1.Voice1.TheVariants as voice1
use Rattle.voice_messages.specs.declared.voice1.System.{System}
use Rattle.voice_messages.specs.declared.voice1.System.TheVariants as system
use Rattle.voice_messages.specs.declared.voice2.Param.{Param}
use Rattle.voice_messages.specs.declared.voice2.ParamKind.{ParamKind}
use Rattle.voice_messages.specs.declared.voice2.ParamKind.TheVariants as kind
use Rattle.voice_messages.specs.declared.voice2.Voice2.{Voice2}
use Rattle.voice_messages.specs.declared.voice2.Voice2.TheVariants as voice2
use Rattle.packet_words.specs.Words.{IsWhole}
use Rattle.ump_grammar.specs.declared.packet.Packet.{Packet}
use Rattle.ump_grammar.specs.declared.packet.Packet.TheVariants as packet
use Rattle.ump_grammar.specs.WordFields.{field, word, byte, type_of, group_of, opcode_of, channel_of, count_of}
use Rattle.ump_grammar.specs.Reason.{reason}
use Rattle.ump_grammar.specs.Spelling.{both, HasRow, Spells, SpellsSystem, SpellsVoice1, SpellsVoice2}
use Rattle.ump_grammar.specs.Spelling.{bank_of, exclusive_places, has_row, is_system_status}
use Rattle.encoded_packets.specs.Encoded.{ThePacket}
use Rattle.encoded_packets.proofs.EncodedLaws.{is_whole, the_one}
use Rattle.encoded_packets.proofs.DirectLaws.{SpellsOne}
use Rattle.encoded_packets.proofs.PartLaws.{form_at, form-at-is}

-- a number is the one that is asked for, or another
either : (A : Type 0) (n k : ℕ) → (n ≡ k → A) → (n ≢ k → A) → A
either A n k here other = go (n == k) refl
  where
    go : (same : Bool) → (n == k) ≡ same → A
    go true e = here (eqb-true n k e)
    go false e = other (eqb-false n k e)

-- ---- by the status or the opcode

abbrev AnySystem : List ℕ → Type 0
AnySystem words = (message : System) × SpellsSystem message words

no-status : (n : ℕ) → n ≢ 0xF1 → n ≢ 0xF2 → n ≢ 0xF3 → n ≢ 0xF6 → n ≢ 0xF8 → n ≢ 0xFA → n ≢ 0xFB → n ≢ 0xFC → n ≢ 0xFE → n ≢ 0xFF
    → is_system_status n ≡ false
no-status n n1 n2 n3 n6 n8 nA nB nC nE nF =
    rw (
      ne_eqb n 0xF1 n1,
      ne_eqb n 0xF2 n2,
      ne_eqb n 0xF3 n3,
      ne_eqb n 0xF6 n6,
      ne_eqb n 0xF8 n8,
      ne_eqb n 0xFA nA,
      ne_eqb n 0xFB nB,
      ne_eqb n 0xFC nC,
      ne_eqb n 0xFE nE,
      ne_eqb n 0xFF nF,
    ) refl

any_system : (words : List ℕ) → is_system_status (byte words 2) ≡ true → AnySystem words
any_system words is =
    either (AnySystem words) (byte words 2) 0xF1 (λ e. (system.Quarter (byte words 3), (e, refl))) (λ n1.
    either (AnySystem words) (byte words 2) 0xF2 (λ e. (system.Position (both (byte words 3) (byte words 4)), (e, refl))) (λ n2.
    either (AnySystem words) (byte words 2) 0xF3 (λ e. (system.Song (byte words 3), (e, refl))) (λ n3.
    either (AnySystem words) (byte words 2) 0xF6 (λ e. (system.Tune, e)) (λ n6.
    either (AnySystem words) (byte words 2) 0xF8 (λ e. (system.Clock, e)) (λ n8.
    either (AnySystem words) (byte words 2) 0xFA (λ e. (system.Start, e)) (λ nA.
    either (AnySystem words) (byte words 2) 0xFB (λ e. (system.Continue, e)) (λ nB.
    either (AnySystem words) (byte words 2) 0xFC (λ e. (system.Stop, e)) (λ nC.
    either (AnySystem words) (byte words 2) 0xFE (λ e. (system.Sensing, e)) (λ nE.
    either (AnySystem words) (byte words 2) 0xFF (λ e. (system.Reset, e)) (λ nF.
    absurd (true≢false (sym is ∙ no-status (byte words 2) n1 n2 n3 n6 n8 nA nB nC nE nF))))))))))))

abbrev AnyVoice1 : List ℕ → Type 0
AnyVoice1 words = (message : Voice1) × SpellsVoice1 message words

any_voice1 : (words : List ℕ) → 0x8 ≤ opcode_of words → opcode_of words ≤ 0xE → AnyVoice1 words
any_voice1 words least most =
    let A : Type 0 = AnyVoice1 words in
    let channel : ℕ = channel_of words in
    either A (opcode_of words) 0x8 (λ e. (voice1.NoteOff channel (byte words 3) (byte words 4), (e, refl, refl, refl))) (λ n8.
    either A (opcode_of words) 0x9 (λ e. (voice1.NoteOn channel (byte words 3) (byte words 4), (e, refl, refl, refl))) (λ n9.
    either A (opcode_of words) 0xA (λ e. (voice1.PolyPressure channel (byte words 3) (byte words 4), (e, refl, refl, refl))) (λ nA.
    either A (opcode_of words) 0xB (λ e. (voice1.Control channel (byte words 3) (byte words 4), (e, refl, refl, refl))) (λ nB.
    either A (opcode_of words) 0xC (λ e. (voice1.Program channel (byte words 3), (e, refl, refl))) (λ nC.
    either A (opcode_of words) 0xD (λ e. (voice1.Pressure channel (byte words 3), (e, refl, refl))) (λ nD.
    let last : opcode_of words ≡ 0xE = omega (arith, least, most, n8, n9, nA, nB, nC, nD) in
    (voice1.Bend channel (both (byte words 3) (byte words 4)), (last, refl, refl))))))))

abbrev AnyVoice2 : List ℕ → Type 0
AnyVoice2 words = (message : Voice2) × SpellsVoice2 message words

abbrev param_in : ParamKind → List ℕ → Param
param_in k words = record { kind = k; bank = byte words 3; index = byte words 4 }

abbrev value_in : List ℕ → ℕ
value_in words = field (word words 2) 0 32

any_voice2 : (words : List ℕ) → opcode_of words ≢ 7 → AnyVoice2 words
any_voice2 words n7 =
    let A : Type 0 = AnyVoice2 words in
    let channel : ℕ = channel_of words in
    let value : ℕ = value_in words in
    let upper : ℕ = field (word words 2) 16 16 in
    let lower : ℕ = field (word words 2) 0 16 in
    either A (opcode_of words) 0x0
    (λ e. (voice2.NoteController channel kind.Registered (byte words 3) (byte words 4) value, (e, refl, refl, refl, refl))) (λ n0.
    either A (opcode_of words) 0x1
    (λ e. (voice2.NoteController channel kind.Assignable (byte words 3) (byte words 4) value, (e, refl, refl, refl, refl))) (λ n1.
    either A (opcode_of words) 0x2
    (λ e. (voice2.Set channel (param_in kind.Registered words) value, (e, refl, refl, refl, refl))) (λ n2.
    either A (opcode_of words) 0x3
    (λ e. (voice2.Set channel (param_in kind.Assignable words) value, (e, refl, refl, refl, refl))) (λ n3.
    either A (opcode_of words) 0x4
    (λ e. (voice2.Shift channel (param_in kind.Registered words) value, (e, refl, refl, refl, refl))) (λ n4.
    either A (opcode_of words) 0x5
    (λ e. (voice2.Shift channel (param_in kind.Assignable words) value, (e, refl, refl, refl, refl))) (λ n5.
    either A (opcode_of words) 0x6 (λ e. (voice2.NoteBend channel (byte words 3) value, (e, refl, refl, refl))) (λ n6.
    either A (opcode_of words) 0x8
    (λ e. (voice2.NoteOff channel (byte words 3) upper (byte words 4) lower, (e, refl, refl, refl, refl, refl))) (λ n8.
    either A (opcode_of words) 0x9
    (λ e. (voice2.NoteOn channel (byte words 3) upper (byte words 4) lower, (e, refl, refl, refl, refl, refl))) (λ n9.
    either A (opcode_of words) 0xA (λ e. (voice2.PolyPressure channel (byte words 3) value, (e, refl, refl, refl))) (λ nA.
    either A (opcode_of words) 0xB (λ e. (voice2.Control channel (byte words 3) value, (e, refl, refl, refl))) (λ nB.
    either A (opcode_of words) 0xC (λ e. (voice2.Program channel (byte words 5) (bank_of words), (e, refl, refl, refl))) (λ nC.
    either A (opcode_of words) 0xD (λ e. (voice2.Pressure channel value, (e, refl, refl))) (λ nD.
    either A (opcode_of words) 0xE (λ e. (voice2.Bend channel value, (e, refl, refl))) (λ nE.
    let last : opcode_of words ≡ 0xF = fifteen (opcode_of words) (omega arith) n7 n0 n1 n2 n3 n4 n5 n6 n8 n9 nA nB nC nD nE in
    (voice2.NoteManagement channel (byte words 3) (byte words 4), (last, refl, refl, refl))))))))))))))))
  where
    fifteen : (n : ℕ) → n < 16 → n ≢ 7 → n ≢ 0 → n ≢ 1 → n ≢ 2 → n ≢ 3 → n ≢ 4 → n ≢ 5 → n ≢ 6 → n ≢ 8 → n ≢ 9 → n ≢ 10
        → n ≢ 11 → n ≢ 12 → n ≢ 13 → n ≢ 14 → n ≡ 15
    fifteen n small n7 n0 n1 n2 n3 n4 n5 n6 n8 n9 nA nB nC nD nE =
        omega (arith, small, n7, n0, n1, n2, n3, n4, n5, n6, n8, n9, nA, nB, nC, nD, nE)

-- ---- by the type

abbrev AnyRow : List ℕ → Type 0
AnyRow words = (p : Packet) × HasRow p words

not-seven : (n : ℕ) → not (n == 7) ≡ true → n ≢ 7
not-seven n e = go (n == 7) refl e
  where
    go : (same : Bool) → (n == 7) ≡ same → not same ≡ true → n ≢ 7
    go true is e = absurd (true≢false (sym e))
    go false is e = eqb-false n 7 is

module _ (words : List ℕ) (e : has_row words ≡ true) where
  utility : type_of words ≡ 0x0 → AnyRow words
  utility t =
      let few : nat_le (opcode_of words) 4 ≡ true = rw t at e in
      (packet.Utility (opcode_of words) (field (word words 1) 0 20), (t, leb-true (opcode_of words) 4 few, refl, refl))

  system_row : type_of words ≡ 0x1 → AnyRow words
  system_row t =
      let is : is_system_status (byte words 2) ≡ true = rw t at e in
      let m = any_system words is in
      (packet.System (group_of words) m.0, (t, refl, m.1))

  voice1_row : type_of words ≡ 0x2 → AnyRow words
  voice1_row t =
      let is : (nat_le 0x8 (opcode_of words) && nat_le (opcode_of words) 0xE) ≡ true = rw t at e in
      let parts = and_parts (nat_le 0x8 (opcode_of words)) (nat_le (opcode_of words) 0xE) is in
      let m = any_voice1 words (leb-true 0x8 (opcode_of words) parts.0) (leb-true (opcode_of words) 0xE parts.1) in
      (packet.Voice1 (group_of words) m.0, (t, refl, m.1))

  exclusive_row : type_of words ≡ 0x3 → AnyRow words
  exclusive_row t =
      let few : nat_le (opcode_of words) 3 ≡ true = rw t at e in (
        packet.Exclusive (group_of words) (form_at (opcode_of words)) (take (count_of words) (exclusive_places words)),
        (t, refl, (form-at-is (opcode_of words) (leb-true (opcode_of words) 3 few), refl)),
      )

  voice2_row : type_of words ≡ 0x4 → AnyRow words
  voice2_row t =
      let is : not (opcode_of words == 7) ≡ true = rw t at e in
      let m = any_voice2 words (not-seven (opcode_of words) is) in
      (packet.Voice2 (group_of words) m.0, (t, refl, m.1))

  abbrev stream : Packet
  stream =
      packet.Stream (field (word words 1) 26 2) (field (word words 1) 16 10) (field (word words 1) 0 16) (field (word words 2) 0 32)
      (field (word words 3) 0 32) (field (word words 4) 0 32)

  no-type : type_of words ≢ 0x0 → type_of words ≢ 0x1 → type_of words ≢ 0x2 → type_of words ≢ 0x3 → type_of words ≢ 0x4 → type_of words ≢ 0x5
      → type_of words ≢ 0xD → type_of words ≢ 0xF → has_row words ≡ false
  no-type n0 n1 n2 n3 n4 n5 nD nF =
      rw (
        ne_eqb (type_of words) 0x0 n0,
        ne_eqb (type_of words) 0x1 n1,
        ne_eqb (type_of words) 0x2 n2,
        ne_eqb (type_of words) 0x3 n3,
        ne_eqb (type_of words) 0x4 n4,
        ne_eqb (type_of words) 0x5 n5,
        ne_eqb (type_of words) 0xD nD,
        ne_eqb (type_of words) 0xF nF,
      ) refl

  read_row : AnyRow words
  read_row =
      either (AnyRow words) (type_of words) 0x0 utility (λ n0.
      either (AnyRow words) (type_of words) 0x1 system_row (λ n1.
      either (AnyRow words) (type_of words) 0x2 voice1_row (λ n2.
      either (AnyRow words) (type_of words) 0x3 exclusive_row (λ n3.
      either (AnyRow words) (type_of words) 0x4 voice2_row (λ n4.
      either (AnyRow words) (type_of words) 0x5 (λ t. (packet.Data8 (group_of words) words, (t, refl, refl))) (λ n5.
      either (AnyRow words) (type_of words) 0xD (λ t. (packet.Flex (group_of words) words, (t, refl, refl))) (λ nD.
      either (AnyRow words) (type_of words) 0xF (λ t. (stream, (t, refl, refl, refl, refl, refl, refl))) (λ nF.
      absurd (true≢false (sym e ∙ no-type n0 n1 n2 n3 n4 n5 nD nF))))))))))

any_row : (words : List ℕ) → AnyRow words
any_row words = go (has_row words) refl
  where
    go : (read : Bool) → has_row words ≡ read → AnyRow words
    go true e = read_row words e
    go false e = (packet.Reserved words, (e, refl))

abbrev packet_of : List ℕ → Packet
packet_of words = (any_row words).0

spells_packet : (words : List ℕ) → IsWhole words → Spells (packet_of words) words
spells_packet words whole = record { whole = whole; row = (any_row words).1 }

-- the packet of whole words that aren't refused
pub the_packet : (words : List ℕ) → IsWhole words → reason words ≡ None → SpellsOne → ThePacket words
the_packet words whole fine one = (
  packet_of words,
  ∣ record { fine = fine; spelled = spells_packet words whole; only = λ q s. one q (packet_of words) words s (spells_packet words whole) } ∣₁,
)

-- the words spell it
pub spelled : (words : List ℕ) (t : ThePacket words) → Spells t.0 words
spelled words t =
    let spells : Spells (packet_of words) words = spells_packet words (is_whole words t) in
    subst (λ p. Spells p words) (sym (the_one words t (packet_of words) spells)) spells
