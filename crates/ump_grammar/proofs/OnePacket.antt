-- Words spell one packet only: each row gives the packet that is read off the words here.
use Rattle.std.proofs.Common.{◌≡◌, ◌≤◌, ℕ, ◌+◌, Bool, true, not, ◌&&◌, cond, leb, List, take, refl, sym, ap, ◌∙◌, arith}
use Rattle.std.specs.Prelude.{◌==◌, if◌then◌else◌}
use Rattle.std.proofs.lemmas.Bool.{le-leb, ne_eqb}
use Rattle.voice_messages.specs.declared.voice1.Voice1.{Voice1}
use Rattle.voice_messages.specs.declared.voice1.Voice1.TheVariants as voice1
use Rattle.voice_messages.specs.declared.voice1.System.{System}
use Rattle.voice_messages.specs.declared.voice1.System.TheVariants as system
use Rattle.voice_messages.specs.declared.voice2.Form.{Form}
use Rattle.voice_messages.specs.declared.voice2.Form.TheVariants as form
use Rattle.voice_messages.specs.declared.voice2.Param.{Param}
use Rattle.voice_messages.specs.declared.voice2.ParamKind.{ParamKind}
use Rattle.voice_messages.specs.declared.voice2.ParamKind.TheVariants as kind
use Rattle.voice_messages.specs.declared.voice2.Voice2.{Voice2}
use Rattle.voice_messages.specs.declared.voice2.Voice2.TheVariants as voice2
use Rattle.ump_grammar.specs.declared.packet.Packet.{Packet}
use Rattle.ump_grammar.specs.declared.packet.Packet.TheVariants as packet
use Rattle.ump_grammar.specs.WordFields.{field, word, byte, type_of, group_of, opcode_of, channel_of, count_of}
use Rattle.ump_grammar.specs.Spelling.{IsRead, both, SpellsSystem, SpellsVoice1, SpellsVoice2, HasRow, Spells}
use Rattle.ump_grammar.specs.Spelling.{has_row, is_system_status, bank_of, exclusive_places, form_number, kind_number}

-- what is read off, by the status or opcode

abbrev system_by : ℕ → List ℕ → System
system_by status words =
    if status == 0xF1 then system.Quarter (byte words 3)
    else if status == 0xF2 then system.Position (both (byte words 3) (byte words 4))
    else if status == 0xF3 then system.Song (byte words 3)
    else if status == 0xF6 then system.Tune
    else if status == 0xF8 then system.Clock
    else if status == 0xFA then system.Start
    else if status == 0xFB then system.Continue
    else if status == 0xFC then system.Stop
    else if status == 0xFE then system.Sensing
    else system.Reset

abbrev voice1_by : ℕ → List ℕ → Voice1
voice1_by opcode words =
    if opcode == 0x8 then voice1.NoteOff (channel_of words) (byte words 3) (byte words 4)
    else if opcode == 0x9 then voice1.NoteOn (channel_of words) (byte words 3) (byte words 4)
    else if opcode == 0xA then voice1.PolyPressure (channel_of words) (byte words 3) (byte words 4)
    else if opcode == 0xB then voice1.Control (channel_of words) (byte words 3) (byte words 4)
    else if opcode == 0xC then voice1.Program (channel_of words) (byte words 3)
    else if opcode == 0xD then voice1.Pressure (channel_of words) (byte words 3)
    else voice1.Bend (channel_of words) (both (byte words 3) (byte words 4))

abbrev form_by : ℕ → Form
form_by number = if number == 0 then form.Complete else if number == 1 then form.Start else if number == 2 then form.Continue else form.End

abbrev param_in : ParamKind → List ℕ → Param
param_in k words = record { kind = k; bank = byte words 3; index = byte words 4 }

abbrev value_in : List ℕ → ℕ
value_in words = field (word words 2) 0 32

abbrev voice2_by : ℕ → List ℕ → Voice2
voice2_by opcode words =
    if opcode == 0x0 then voice2.NoteController (channel_of words) kind.Registered (byte words 3) (byte words 4) (value_in words)
    else if opcode == 0x1 then voice2.NoteController (channel_of words) kind.Assignable (byte words 3) (byte words 4) (value_in words)
    else if opcode == 0x2 then voice2.Set (channel_of words) (param_in kind.Registered words) (value_in words)
    else if opcode == 0x3 then voice2.Set (channel_of words) (param_in kind.Assignable words) (value_in words)
    else if opcode == 0x4 then voice2.Shift (channel_of words) (param_in kind.Registered words) (value_in words)
    else if opcode == 0x5 then voice2.Shift (channel_of words) (param_in kind.Assignable words) (value_in words)
    else if opcode == 0x6 then voice2.NoteBend (channel_of words) (byte words 3) (value_in words)
    else if opcode == 0x8
    then voice2.NoteOff (channel_of words) (byte words 3) (field (word words 2) 16 16) (byte words 4) (field (word words 2) 0 16)
    else if opcode == 0x9
    then voice2.NoteOn (channel_of words) (byte words 3) (field (word words 2) 16 16) (byte words 4) (field (word words 2) 0 16)
    else if opcode == 0xA then voice2.PolyPressure (channel_of words) (byte words 3) (value_in words)
    else if opcode == 0xB then voice2.Control (channel_of words) (byte words 3) (value_in words)
    else if opcode == 0xC then voice2.Program (channel_of words) (byte words 5) (bank_of words)
    else if opcode == 0xD then voice2.Pressure (channel_of words) (value_in words)
    else if opcode == 0xE then voice2.Bend (channel_of words) (value_in words)
    else voice2.NoteManagement (channel_of words) (byte words 3) (byte words 4)

abbrev packet_by : ℕ → List ℕ → Packet
packet_by type words =
    if type == 0x0 then packet.Utility (opcode_of words) (field (word words 1) 0 20)
    else if type == 0x1 then packet.System (group_of words) (system_by (byte words 2) words)
    else if type == 0x2 then packet.Voice1 (group_of words) (voice1_by (opcode_of words) words)
    else if type == 0x3 then packet.Exclusive (group_of words) (form_by (opcode_of words)) (take (count_of words) (exclusive_places words))
    else if type == 0x4 then packet.Voice2 (group_of words) (voice2_by (opcode_of words) words)
    else if type == 0x5 then packet.Data8 (group_of words) words
    else if type == 0xD then packet.Flex (group_of words) words
    else packet.Stream (field (word words 1) 26 2) (field (word words 1) 16 10) (field (word words 1) 0 16) (field (word words 2) 0 32)
    (field (word words 3) 0 32) (field (word words 4) 0 32)

-- the packet of these words
abbrev packet_of : List ℕ → Packet
packet_of words = cond (has_row words) (packet_by (type_of words) words) (packet.Reserved words)

one-system : (m : System) (words : List ℕ) → SpellsSystem m words → m ≡ system_by (byte words 2) words
one-system (system.Quarter value) words s = rw s.0 (ap system.Quarter s.1)
one-system (system.Position value) words s = rw s.0 (ap system.Position s.1)
one-system (system.Song value) words s = rw s.0 (ap system.Song s.1)
one-system system.Tune words s = rw s refl
one-system system.Clock words s = rw s refl
one-system system.Start words s = rw s refl
one-system system.Continue words s = rw s refl
one-system system.Stop words s = rw s refl
one-system system.Sensing words s = rw s refl
one-system system.Reset words s = rw s refl

one-voice1 : (m : Voice1) (words : List ℕ) → SpellsVoice1 m words → m ≡ voice1_by (opcode_of words) words
one-voice1 (voice1.NoteOff channel note velocity) words s = rw s.0 cc
one-voice1 (voice1.NoteOn channel note velocity) words s = rw s.0 cc
one-voice1 (voice1.PolyPressure channel note value) words s = rw s.0 cc
one-voice1 (voice1.Control channel index value) words s = rw s.0 cc
one-voice1 (voice1.Program channel program) words s = rw s.0 cc
one-voice1 (voice1.Pressure channel value) words s = rw s.0 cc
one-voice1 (voice1.Bend channel value) words s = rw s.0 cc

one-form : (f : Form) (n : ℕ) → n ≡ form_number f → f ≡ form_by n
one-form form.Complete n e = rw e refl
one-form form.Start n e = rw e refl
one-form form.Continue n e = rw e refl
one-form form.End n e = rw e refl

one-set : (k : ParamKind) (channel : ℕ) (param : Param) (value : ℕ) (words : List ℕ) → param.kind ≡ k
    → SpellsVoice2 (voice2.Set channel param value) words → voice2.Set channel param value ≡ voice2_by (opcode_of words) words
one-set kind.Registered channel param value words e s =
    let opcode : opcode_of words ≡ 2 = s.0 ∙ ap (λ k. 2 + kind_number k) e in
    let same : param ≡ param_in kind.Registered words = λ t. record { kind = e t; bank = s.2 t; index = s.3 t } in
    rw opcode cc
one-set kind.Assignable channel param value words e s =
    let opcode : opcode_of words ≡ 3 = s.0 ∙ ap (λ k. 2 + kind_number k) e in
    let same : param ≡ param_in kind.Assignable words = λ t. record { kind = e t; bank = s.2 t; index = s.3 t } in
    rw opcode cc

one-shift : (k : ParamKind) (channel : ℕ) (param : Param) (value : ℕ) (words : List ℕ) → param.kind ≡ k
    → SpellsVoice2 (voice2.Shift channel param value) words → voice2.Shift channel param value ≡ voice2_by (opcode_of words) words
one-shift kind.Registered channel param value words e s =
    let opcode : opcode_of words ≡ 4 = s.0 ∙ ap (λ k. 4 + kind_number k) e in
    let same : param ≡ param_in kind.Registered words = λ t. record { kind = e t; bank = s.2 t; index = s.3 t } in
    rw opcode cc
one-shift kind.Assignable channel param value words e s =
    let opcode : opcode_of words ≡ 5 = s.0 ∙ ap (λ k. 4 + kind_number k) e in
    let same : param ≡ param_in kind.Assignable words = λ t. record { kind = e t; bank = s.2 t; index = s.3 t } in
    rw opcode cc

one-voice2 : (m : Voice2) (words : List ℕ) → SpellsVoice2 m words → m ≡ voice2_by (opcode_of words) words
one-voice2 (voice2.NoteController channel kind.Registered note index value) words s = rw s.0 cc
one-voice2 (voice2.NoteController channel kind.Assignable note index value) words s = rw s.0 cc
one-voice2 (voice2.Set channel param value) words s = one-set param.kind channel param value words refl s
one-voice2 (voice2.Shift channel param value) words s = one-shift param.kind channel param value words refl s
one-voice2 (voice2.NoteBend channel note value) words s = rw s.0 cc
one-voice2 (voice2.NoteOff channel note velocity attribute_type attribute) words s = rw s.0 cc
one-voice2 (voice2.NoteOn channel note velocity attribute_type attribute) words s = rw s.0 cc
one-voice2 (voice2.PolyPressure channel note value) words s = rw s.0 cc
one-voice2 (voice2.Control channel index value) words s = rw s.0 cc
one-voice2 (voice2.Program channel program bank) words s = rw s.0 cc
one-voice2 (voice2.Pressure channel value) words s = rw s.0 cc
one-voice2 (voice2.Bend channel value) words s = rw s.0 cc
one-voice2 (voice2.NoteManagement channel note flags) words s = rw s.0 cc

system-status : (m : System) (words : List ℕ) → SpellsSystem m words → is_system_status (byte words 2) ≡ true
system-status (system.Quarter value) words s = rw s.0 refl
system-status (system.Position value) words s = rw s.0 refl
system-status (system.Song value) words s = rw s.0 refl
system-status system.Tune words s = rw s refl
system-status system.Clock words s = rw s refl
system-status system.Start words s = rw s refl
system-status system.Continue words s = rw s refl
system-status system.Stop words s = rw s refl
system-status system.Sensing words s = rw s refl
system-status system.Reset words s = rw s refl

abbrev is_voice1_opcode : ℕ → Bool
is_voice1_opcode opcode = leb 0x8 opcode && leb opcode 0xE

voice1-opcode : (m : Voice1) (words : List ℕ) → SpellsVoice1 m words → is_voice1_opcode (opcode_of words) ≡ true
voice1-opcode (voice1.NoteOff channel note velocity) words s = rw s.0 refl
voice1-opcode (voice1.NoteOn channel note velocity) words s = rw s.0 refl
voice1-opcode (voice1.PolyPressure channel note value) words s = rw s.0 refl
voice1-opcode (voice1.Control channel index value) words s = rw s.0 refl
voice1-opcode (voice1.Program channel program) words s = rw s.0 refl
voice1-opcode (voice1.Pressure channel value) words s = rw s.0 refl
voice1-opcode (voice1.Bend channel value) words s = rw s.0 refl

form-opcode : (f : Form) (opcode : ℕ) → opcode ≡ form_number f → leb opcode 3 ≡ true
form-opcode form.Complete opcode e = rw e refl
form-opcode form.Start opcode e = rw e refl
form-opcode form.Continue opcode e = rw e refl
form-opcode form.End opcode e = rw e refl

abbrev is_voice2_opcode : ℕ → Bool
is_voice2_opcode opcode = not (opcode == 0x7)

kind-opcode : (k : ParamKind) (low opcode : ℕ) → low ≤ 4 → opcode ≡ low + kind_number k → is_voice2_opcode opcode ≡ true
kind-opcode kind.Registered low opcode small e = ap not (ne_eqb opcode 7 (λ seven. omega arith))
kind-opcode kind.Assignable low opcode small e = ap not (ne_eqb opcode 7 (λ seven. omega arith))

voice2-opcode : (m : Voice2) (words : List ℕ) → SpellsVoice2 m words → is_voice2_opcode (opcode_of words) ≡ true
voice2-opcode (voice2.NoteController channel kind note index value) words s =
    kind-opcode kind 0 (opcode_of words) (omega arith) (omega arith)
voice2-opcode (voice2.Set channel param value) words s = kind-opcode param.kind 2 (opcode_of words) (omega arith) s.0
voice2-opcode (voice2.Shift channel param value) words s = kind-opcode param.kind 4 (opcode_of words) (omega arith) s.0
voice2-opcode (voice2.NoteBend channel note value) words s = rw s.0 refl
voice2-opcode (voice2.NoteOff channel note velocity attribute_type attribute) words s = rw s.0 refl
voice2-opcode (voice2.NoteOn channel note velocity attribute_type attribute) words s = rw s.0 refl
voice2-opcode (voice2.PolyPressure channel note value) words s = rw s.0 refl
voice2-opcode (voice2.Control channel index value) words s = rw s.0 refl
voice2-opcode (voice2.Program channel program bank) words s = rw s.0 refl
voice2-opcode (voice2.Pressure channel value) words s = rw s.0 refl
voice2-opcode (voice2.Bend channel value) words s = rw s.0 refl
voice2-opcode (voice2.NoteManagement channel note flags) words s = rw s.0 refl

-- a packet that isn't reserved is of a row
pub has_row-true : (p : Packet) (words : List ℕ) → IsRead p → HasRow p words → has_row words ≡ true
has_row-true (packet.Utility status value) words read r = rw r.0 (le-leb (opcode_of words) 4 (omega arith))
has_row-true (packet.System group message) words read r = rw r.0 (system-status message words r.2)
has_row-true (packet.Voice1 group message) words read r = rw r.0 (voice1-opcode message words r.2)
has_row-true (packet.Exclusive group f bytes) words read r = rw r.0 (form-opcode f (opcode_of words) r.2.0)
has_row-true (packet.Voice2 group message) words read r = rw r.0 (voice2-opcode message words r.2)
has_row-true (packet.Data8 group kept) words read r = rw r.0 refl
has_row-true (packet.Flex group kept) words read r = rw r.0 refl
has_row-true (packet.Stream format status low second third fourth) words read r = rw r.0 refl
has_row-true (packet.Reserved kept) words read r = absurd read

pub packet-is : (p : Packet) (words : List ℕ) → HasRow p words → p ≡ packet_of words
packet-is (packet.Utility status value) words r = rw (has_row-true (packet.Utility status value) words tt r, r.0) cc
packet-is (packet.System group message) words r =
    let same = one-system message words r.2 in
    rw (has_row-true (packet.System group message) words tt r, r.0) cc
packet-is (packet.Voice1 group message) words r =
    let same = one-voice1 message words r.2 in
    rw (has_row-true (packet.Voice1 group message) words tt r, r.0) cc
packet-is (packet.Exclusive group f bytes) words r =
    let same = one-form f (opcode_of words) r.2.0 in
    rw (has_row-true (packet.Exclusive group f bytes) words tt r, r.0) cc
packet-is (packet.Voice2 group message) words r =
    let same = one-voice2 message words r.2 in
    rw (has_row-true (packet.Voice2 group message) words tt r, r.0) cc
packet-is (packet.Data8 group kept) words r = rw (has_row-true (packet.Data8 group kept) words tt r, r.0) cc
packet-is (packet.Flex group kept) words r = rw (has_row-true (packet.Flex group kept) words tt r, r.0) cc
packet-is (packet.Stream format status low second third fourth) words r =
    rw (has_row-true (packet.Stream format status low second third fourth) words tt r, r.0) cc
packet-is (packet.Reserved kept) words r = rw r.0 (ap packet.Reserved r.1)

-- words spell one packet only
pub one_packet : (p q : Packet) (words : List ℕ) → Spells p words → Spells q words → p ≡ q
one_packet p q words s t = packet-is p words s.row ∙ sym (packet-is q words t.row)
