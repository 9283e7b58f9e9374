-- What words spell without a reason to refuse them fits its places.
use Rattle.std.proofs.Common.{◌≡◌, ◌<◌, ℕ, ◌+◌, Bool, true, false, cond, eqb, leb, ltb, List, [], ◌∷◌}
use Rattle.std.proofs.Common.{length, take, refl, sym, ap, ◌∙◌, subst, ◌⊎◌, inl, inr, arith, None, Some}
use Rattle.std.specs.Prelude.{Option, Result, Ok, Err, IfOk}
use Rattle.std.proofs.lemmas.Bool.{ltb-false}
use Rattle.std.proofs.lemmas.List.{length-take}
use Rattle.std.proofs.lemmas.List.Elements.{All-head, All-tail, All-same}
use Rattle.voice_messages.specs.declared.voice1.Voice1.{Voice1}
use Rattle.voice_messages.specs.declared.voice1.Voice1.TheVariants as voice1
use Rattle.voice_messages.specs.declared.voice1.System.{System}
use Rattle.voice_messages.specs.declared.voice1.System.TheVariants as system
use Rattle.voice_messages.specs.declared.voice2.Bank.{Bank}
use Rattle.voice_messages.specs.declared.voice2.Form.{Form}
use Rattle.voice_messages.specs.declared.voice2.Form.TheVariants as form
use Rattle.voice_messages.specs.declared.voice2.ParamKind.{ParamKind}
use Rattle.voice_messages.specs.declared.voice2.ParamKind.TheVariants as kind
use Rattle.voice_messages.specs.declared.voice2.Voice2.{Voice2}
use Rattle.voice_messages.specs.declared.voice2.Voice2.TheVariants as voice2
use Rattle.voice_messages.specs.Ranges.{IsSystem, IsVoice1, IsVoice2, IsBank}
use Rattle.ump_grammar.specs.declared.packet.Bad.{Bad}
use Rattle.ump_grammar.specs.declared.packet.Bad.TheVariants.{BadCount, HighBit}
use Rattle.ump_grammar.specs.declared.packet.Packet.{Packet}
use Rattle.ump_grammar.specs.declared.packet.Packet.TheVariants as packet
use Rattle.ump_grammar.specs.WordFields.{field, word, byte, opcode_of, count_of}
use Rattle.ump_grammar.specs.Ranges.{IsPacket}
use Rattle.ump_grammar.specs.Reading.{Decodes}
use Rattle.ump_grammar.specs.Reason.{reason, has_bad_count, has_high, marked, marked_in_system, marked_in_voice1, marked_in_voice2}
use Rattle.ump_grammar.specs.Spelling.{SpellsSystem, SpellsVoice1, SpellsVoice2, HasRow, Spells, exclusive_places, form_number, kind_number}
use Rattle.ump_grammar.proofs.Marked.{small-has_high}

small-one : (b : ℕ) → has_high (b ∷ []) ≡ false → b < 128
small-one b none = All-head (λ b. b < 128) b [] (small-has_high (b ∷ []) none)

small-two : (b c : ℕ) → has_high (b ∷ c ∷ []) ≡ false → (b < 128) × (c < 128)
small-two b c none =
    let all = small-has_high (b ∷ c ∷ []) none in
    (All-head (λ b. b < 128) b (c ∷ []) all, All-head (λ b. b < 128) c [] (All-tail (λ b. b < 128) b (c ∷ []) all))

small-three : (b c d : ℕ) → has_high (b ∷ c ∷ d ∷ []) ≡ false → (b < 128) × (c < 128) × (d < 128)
small-three b c d none =
    let all = small-has_high (b ∷ c ∷ d ∷ []) none in
    let rest = All-tail (λ b. b < 128) b (c ∷ d ∷ []) all in (
      All-head (λ b. b < 128) b (c ∷ d ∷ []) all,
      All-head (λ b. b < 128) c (d ∷ []) rest,
      All-head (λ b. b < 128) d [] (All-tail (λ b. b < 128) c (d ∷ []) rest),
    )

system-fits : (m : System) (words : List ℕ) → SpellsSystem m words → has_high (marked_in_system words) ≡ false → IsSystem m
system-fits (system.Quarter value) words s none =
    let low = small-one (byte words 3) (rw s.0 at none) in omega arith
system-fits (system.Position value) words s none =
    let low = small-two (byte words 3) (byte words 4) (rw s.0 at none) in omega arith
system-fits (system.Song value) words s none =
    let low = small-one (byte words 3) (rw s.0 at none) in omega arith
system-fits system.Tune words s none = tt
system-fits system.Clock words s none = tt
system-fits system.Start words s none = tt
system-fits system.Continue words s none = tt
system-fits system.Stop words s none = tt
system-fits system.Sensing words s none = tt
system-fits system.Reset words s none = tt

voice1-fits : (m : Voice1) (words : List ℕ) → SpellsVoice1 m words → has_high (marked_in_voice1 words) ≡ false → IsVoice1 m
voice1-fits (voice1.NoteOff channel note velocity) words s none =
    let low = small-two (byte words 3) (byte words 4) (rw s.0 at none) in (omega arith, omega arith, omega arith)
voice1-fits (voice1.NoteOn channel note velocity) words s none =
    let low = small-two (byte words 3) (byte words 4) (rw s.0 at none) in (omega arith, omega arith, omega arith)
voice1-fits (voice1.PolyPressure channel note value) words s none =
    let low = small-two (byte words 3) (byte words 4) (rw s.0 at none) in (omega arith, omega arith, omega arith)
voice1-fits (voice1.Control channel index value) words s none =
    let low = small-two (byte words 3) (byte words 4) (rw s.0 at none) in (omega arith, omega arith, omega arith)
voice1-fits (voice1.Program channel program) words s none =
    let low = small-one (byte words 3) (rw s.0 at none) in (omega arith, omega arith)
voice1-fits (voice1.Pressure channel value) words s none =
    let low = small-one (byte words 3) (rw s.0 at none) in (omega arith, omega arith)
voice1-fits (voice1.Bend channel value) words s none =
    let low = small-two (byte words 3) (byte words 4) (rw s.0 at none) in (omega arith, omega arith)

note_controller-fits : (k : ParamKind) (channel note index value : ℕ) (words : List ℕ)
    → SpellsVoice2 (voice2.NoteController channel k note index value) words
    → has_high (marked_in_voice2 words) ≡ false → IsVoice2 (voice2.NoteController channel k note index value)
note_controller-fits kind.Registered channel note index value words s none =
    let low = small-one (byte words 3) (rw s.0 at none) in (omega arith, omega arith, omega arith, omega arith)
note_controller-fits kind.Assignable channel note index value words s none =
    let low = small-one (byte words 3) (rw s.0 at none) in (omega arith, omega arith, omega arith, omega arith)

-- the two bytes of a parameter's number
param-small : (k : ParamKind) (low : ℕ) (words : List ℕ) → (low ≡ 2) ⊎ (low ≡ 4) → opcode_of words ≡ low + kind_number k
    → has_high (marked_in_voice2 words) ≡ false → (byte words 3 < 128) × (byte words 4 < 128)
param-small kind.Registered low words (inl e) opcode none =
    let two : opcode_of words ≡ 2 = omega arith in small-two (byte words 3) (byte words 4) (rw two at none)
param-small kind.Registered low words (inr e) opcode none =
    let four : opcode_of words ≡ 4 = omega arith in small-two (byte words 3) (byte words 4) (rw four at none)
param-small kind.Assignable low words (inl e) opcode none =
    let three : opcode_of words ≡ 3 = omega arith in small-two (byte words 3) (byte words 4) (rw three at none)
param-small kind.Assignable low words (inr e) opcode none =
    let five : opcode_of words ≡ 5 = omega arith in small-two (byte words 3) (byte words 4) (rw five at none)

program-fits : (t : Bool) (channel program : ℕ) (bank : Option Bank) (words : List ℕ) → eqb (field (word words 1) 0 1) 1 ≡ t
    → SpellsVoice2 (voice2.Program channel program bank) words → has_high (marked_in_voice2 words) ≡ false
    → IsVoice2 (voice2.Program channel program bank)
program-fits true channel program bank words flag s none =
    let low = small-three (byte words 5) (byte words 7) (byte words 8) (rw (s.0, flag) at none) in
    let there : Some (record { msb = byte words 7; lsb = byte words 8 }) ≡ bank = sym (s.3 ∙ rw flag refl) in
    (omega arith, omega arith, subst IsBank there (low.1, low.2))
program-fits false channel program bank words flag s none =
    let low = small-one (byte words 5) (rw (s.0, flag) at none) in
    let there : None ≡ bank = sym (s.3 ∙ rw flag refl) in
    (omega arith, omega arith, subst IsBank there tt)

voice2-fits : (m : Voice2) (words : List ℕ) → SpellsVoice2 m words → has_high (marked_in_voice2 words) ≡ false → IsVoice2 m
voice2-fits (voice2.NoteController channel kind note index value) words s none =
    note_controller-fits kind channel note index value words s none
voice2-fits (voice2.Set channel param value) words s none =
    let low = param-small param.kind 2 words (inl refl) s.0 none in (omega arith, (omega arith, omega arith), omega arith)
voice2-fits (voice2.Shift channel param value) words s none =
    let low = param-small param.kind 4 words (inr refl) s.0 none in (omega arith, (omega arith, omega arith), omega arith)
voice2-fits (voice2.NoteBend channel note value) words s none =
    let low = small-one (byte words 3) (rw s.0 at none) in (omega arith, omega arith, omega arith)
voice2-fits (voice2.NoteOff channel note velocity attribute_type attribute) words s none =
    let low = small-one (byte words 3) (rw s.0 at none) in (omega arith, omega arith, omega arith, omega arith, omega arith)
voice2-fits (voice2.NoteOn channel note velocity attribute_type attribute) words s none =
    let low = small-one (byte words 3) (rw s.0 at none) in (omega arith, omega arith, omega arith, omega arith, omega arith)
voice2-fits (voice2.PolyPressure channel note value) words s none =
    let low = small-one (byte words 3) (rw s.0 at none) in (omega arith, omega arith, omega arith)
voice2-fits (voice2.Control channel index value) words s none =
    let low = small-one (byte words 3) (rw s.0 at none) in (omega arith, omega arith, omega arith)
voice2-fits (voice2.Program channel program bank) words s none =
    program-fits (eqb (field (word words 1) 0 1) 1) channel program bank words refl s none
voice2-fits (voice2.Pressure channel value) words s none = (omega arith, omega arith)
voice2-fits (voice2.Bend channel value) words s none = (omega arith, omega arith)
voice2-fits (voice2.NoteManagement channel note flags) words s none =
    let low = small-one (byte words 3) (rw s.0 at none) in (omega arith, omega arith, omega arith)

-- what no reason to refuse means
good_count : (words : List ℕ) → reason words ≡ None → has_bad_count words ≡ false
good_count words none = go (has_bad_count words) (has_high (marked words)) none where
  go : (bad high : Bool) → cond bad (Some BadCount) (cond high (Some HighBit) None) ≡ None → bad ≡ false
  go true high e = cc
  go false high e = refl

no_high : (words : List ℕ) → reason words ≡ None → has_high (marked words) ≡ false
no_high words none = go (has_bad_count words) (has_high (marked words)) none where
  go : (bad high : Bool) → cond bad (Some BadCount) (cond high (Some HighBit) None) ≡ None → high ≡ false
  go true high e = cc
  go false true e = cc
  go false false e = refl

form-opcode : (f : Form) (opcode : ℕ) → opcode ≡ form_number f → leb opcode 3 ≡ true
form-opcode form.Complete opcode e = rw e refl
form-opcode form.Start opcode e = rw e refl
form-opcode form.Continue opcode e = rw e refl
form-opcode form.End opcode e = rw e refl

exclusive-fits : (group : ℕ) (f : Form) (bytes words : List ℕ) → HasRow (packet.Exclusive group f bytes) words → reason words ≡ None
    → IsPacket (packet.Exclusive group f bytes)
exclusive-fits group f bytes words r none =
    let form_is = form-opcode f (opcode_of words) r.2.0 in
    let count : ltb 6 (count_of words) ≡ false = simp (r.0, form_is) at (good_count words none) in
    let low : has_high (take (count_of words) (exclusive_places words)) ≡ false = simp (r.0, form_is) at (no_high words none) in
    let few = ltb-false 6 (count_of words) count in (
      omega arith,
      omega (arith, ap length r.2.1, length-take (count_of words) (exclusive_places words)),
      All-same (λ b. b < 128) bytes (take (count_of words) (exclusive_places words)) r.2.1
          (small-has_high (take (count_of words) (exclusive_places words)) low),
    )

-- the packet fits its places
pub IsPacket-spelled : (p : Packet) (words : List ℕ) → Spells p words → reason words ≡ None → IsPacket p
IsPacket-spelled (packet.Utility status value) words s none = let r = s.row in (r.1, omega arith)
IsPacket-spelled (packet.System group message) words s none =
    let r = s.row in (omega arith, system-fits message words r.2 (rw r.0 at (no_high words none)))
IsPacket-spelled (packet.Voice1 group message) words s none =
    let r = s.row in (omega arith, voice1-fits message words r.2 (rw r.0 at (no_high words none)))
IsPacket-spelled (packet.Exclusive group f bytes) words s none = exclusive-fits group f bytes words s.row none
IsPacket-spelled (packet.Voice2 group message) words s none =
    let r = s.row in (omega arith, voice2-fits message words r.2 (rw r.0 at (no_high words none)))
IsPacket-spelled (packet.Data8 group kept) words s none = let r = s.row in rw r.2 (s.whole, r.0, r.1)
IsPacket-spelled (packet.Flex group kept) words s none = let r = s.row in rw r.2 (s.whole, r.0, r.1)
IsPacket-spelled (packet.Stream format status low second third fourth) words s none =
    let r = s.row.1 in (omega arith, omega arith, omega arith, omega arith, omega arith, omega arith)
IsPacket-spelled (packet.Reserved kept) words s none = let r = s.row in rw r.1 (s.whole, r.0)

-- a packet that is decoded fits its places
pub decoded_fits : (words : List ℕ) (result : Result Packet Bad) → Decodes words result → IfOk result IsPacket
decoded_fits words (Ok p) d = IsPacket-spelled p words d.1 d.0
decoded_fits words (Err bad) d = tt
