-- Written messages are read again.
use Rattle.std.proofs.Common.{ℕ, ◌+◌, ◌*◌, ◌/◌, ◌%◌, ◌≡◌, ◌∙◌, ap, sym, refl, subst, List}
use Rattle.std.proofs.Common.{[], ◌∷◌, ◌++◌, reverse, Some, None, arith, append_assoc}
use Rattle.std.proofs.lemmas.List.{append-nil, reverse-append, reverse-reverse}
use Rattle.std.specs.List.{AllByRecursion, flat_map}
use mathlib.Core.List.{reverse_aux}
use Rattle.voice_messages.specs.declared.voice1.Voice1.{Voice1}
use Rattle.voice_messages.specs.declared.voice1.Voice1.TheVariants as voice1
use Rattle.voice_messages.specs.declared.voice1.System.{System}
use Rattle.voice_messages.specs.declared.voice1.System.TheVariants as system
use Rattle.voice_messages.specs.Ranges.{IsVoice1}
use Rattle.midi1_bytes.specs.Sorts.{one, two, data_byte, voice_status, sort_of}
use Rattle.midi1_bytes.specs.Messages.{Message, voice, common, exclusive, real_time, voice_of, voice_of_one, voice_of_two}
use Rattle.midi1_bytes.specs.Messages.{spelled, spelled_voice, spelled_system, IsCommon, IsRealTime, IsMessage, AreData}
use Rattle.midi1_bytes.specs.Stream.{without_real_time, last_status, last_data, open_in}
use Rattle.midi1_bytes.specs.Steps.{completed, ReadsAs}
use Rattle.midi1_bytes.proofs.SortLaws.{data_is, low_two, one_status, bend_status}

-- ---- voice messages

reads_two : (past : List ℕ) (s x y : ℕ) → sort_of s ≡ voice_status two → sort_of x ≡ data_byte → sort_of y ≡ data_byte
    → open_in None past ≡ None → ReadsAs past (s ∷ x ∷ y ∷ []) (voice (voice_of two s y (x ∷ [])) ∷ [])
reads_two past s x y hs hx hy hn = record { completes = simp (hs, hx, hy, hn, append-nil); closed = simp (hs, hx, hy) }

reads_one : (past : List ℕ) (s x : ℕ) → sort_of s ≡ voice_status one → sort_of x ≡ data_byte → open_in None past ≡ None
    → ReadsAs past (s ∷ x ∷ []) (voice (voice_of one s x []) ∷ [])
reads_one past s x hs hx hn = record { completes = simp (hs, hx, hn, append-nil); closed = simp (hs, hx) }

pub shaped_two : (s h ch x y : ℕ) → s / 16 ≡ h → s % 16 ≡ ch → voice (voice_of two s y (x ∷ [])) ∷ [] ≡ voice (voice_of_two h ch x y) ∷ []
shaped_two s h ch x y e f = rw (e, f)

pub shaped_one : (s h ch x : ℕ) → s / 16 ≡ h → s % 16 ≡ ch → voice (voice_of one s x []) ∷ [] ≡ voice (voice_of_one h ch x) ∷ []
shaped_one s h ch x e f = rw (e, f)

pub bend_whole : (v : ℕ) → v / 128 * 128 + v % 128 ≡ v
bend_whole v = omega arith

reads_voice : (m : Voice1) (past : List ℕ) → IsVoice1 m → open_in None past ≡ None → ReadsAs past (spelled_voice m) (voice m ∷ [])
reads_voice (voice1.NoteOff ch n v) past b h =
    subst (ReadsAs past (spelled_voice (voice1.NoteOff ch n v))) (shaped_two (0x80 + ch) 8 ch n v (omega arith) (omega arith))
    (reads_two past (0x80 + ch) n v (low_two _ (omega arith) (omega arith)) (data_is n b.1) (data_is v b.2) h)
reads_voice (voice1.NoteOn ch n v) past b h =
    subst (ReadsAs past (spelled_voice (voice1.NoteOn ch n v))) (shaped_two (0x90 + ch) 9 ch n v (omega arith) (omega arith))
    (reads_two past (0x90 + ch) n v (low_two _ (omega arith) (omega arith)) (data_is n b.1) (data_is v b.2) h)
reads_voice (voice1.PolyPressure ch n v) past b h =
    subst (ReadsAs past (spelled_voice (voice1.PolyPressure ch n v))) (shaped_two (0xa0 + ch) 10 ch n v (omega arith) (omega arith))
    (reads_two past (0xa0 + ch) n v (low_two _ (omega arith) (omega arith)) (data_is n b.1) (data_is v b.2) h)
reads_voice (voice1.Control ch n v) past b h =
    subst (ReadsAs past (spelled_voice (voice1.Control ch n v))) (shaped_two (0xb0 + ch) 11 ch n v (omega arith) (omega arith))
    (reads_two past (0xb0 + ch) n v (low_two _ (omega arith) (omega arith)) (data_is n b.1) (data_is v b.2) h)
reads_voice (voice1.Program ch v) past b h =
    subst (ReadsAs past (spelled_voice (voice1.Program ch v))) (shaped_one (0xc0 + ch) 12 ch v (omega arith) (omega arith))
    (reads_one past (0xc0 + ch) v (one_status _ (omega arith) (omega arith)) (data_is v b.1) h)
reads_voice (voice1.Pressure ch v) past b h =
    subst (ReadsAs past (spelled_voice (voice1.Pressure ch v))) (shaped_one (0xd0 + ch) 13 ch v (omega arith) (omega arith))
    (reads_one past (0xd0 + ch) v (one_status _ (omega arith) (omega arith)) (data_is v b.1) h)
reads_voice (voice1.Bend ch v) past b h =
    subst (ReadsAs past (spelled_voice (voice1.Bend ch v)))
    (shaped_two (0xe0 + ch) 14 ch (v % 128) (v / 128) (omega arith) (omega arith) ∙ ap (λ n. voice (voice1.Bend ch n) ∷ []) (bend_whole v))
    (reads_two past (0xe0 + ch) (v % 128) (v / 128) (bend_status _ (omega arith) (omega arith)) (data_is _ (omega arith))
    (data_is _ (omega arith)) h)

-- ---- system messages

reads_real_time : (m : System) (past : List ℕ) → IsRealTime m → open_in None past ≡ None
    → ReadsAs past (spelled_system m) (real_time m ∷ [])
unfolding sort_of
reads_real_time (system.Quarter n) past b h = absurd b
reads_real_time (system.Position n) past b h = absurd b
reads_real_time (system.Song n) past b h = absurd b
reads_real_time system.Tune past b h = absurd b
reads_real_time _ past b h = record { completes = refl; closed = h }

reads_common : (m : System) (past : List ℕ) → IsCommon m → open_in None past ≡ None → ReadsAs past (spelled_system m) (common m ∷ [])
unfolding sort_of
reads_common (system.Quarter n) past b h = let d = data_is n b in record { completes = simp (d, h, append-nil); closed = simp d }
reads_common (system.Position n) past b h =
    let x : sort_of (n % 128) ≡ data_byte = data_is (n % 128) (omega arith) in
    let y : sort_of (n / 128) ≡ data_byte = data_is (n / 128) (omega arith) in
    record {
      completes = simp (x, y, h, append-nil) (ap (λ k. completed past ++ common (system.Position k) ∷ []) (bend_whole n));
      closed = simp (x, y);
    }
reads_common (system.Song n) past b h = let d = data_is n b in record { completes = simp (d, h, append-nil); closed = simp d }
reads_common system.Tune past b h = record { completes = simp h; closed = refl }
reads_common _ past b h = absurd b

-- ---- exclusives

all_reverse : (xs acc : List ℕ) → AreData xs → AreData acc → AreData (reverse_aux xs acc)
all_reverse [] acc h k = k
all_reverse (x ∷ xs) acc h k = all_reverse xs (x ∷ acc) h.1 (h.0, k)

-- after F0 and data bytes
record Inside (past ds : List ℕ) : Type 0 where
  status : last_status (without_real_time (ds ++ 0xf0 ∷ past)) ≡ Some 0xf0
  behind : last_data (without_real_time (ds ++ 0xf0 ∷ past)) ≡ ds
  silent : completed (ds ++ 0xf0 ∷ past) ≡ completed past

inside : (past ds : List ℕ) → open_in None past ≡ None → AreData ds → Inside past ds
unfolding sort_of
inside past [] h a = record { status = refl; behind = refl; silent = simp (h, append-nil) }
inside past (d ∷ ds) h a =
    let i = inside past ds h a.1 in
    let e = data_is d a.0 in
    record { status = simp e i.status; behind = simp (e, i.behind); silent = simp (e, i.status, i.behind, i.silent, append-nil) }

pub exclusive_turned : (bytes past : List ℕ) → reverse (0xf0 ∷ bytes ++ 0xf7 ∷ []) ++ past ≡ 0xf7 ∷ (reverse bytes ++ 0xf0 ∷ past)
exclusive_turned bytes past =
    let opening_byte : List ℕ = 0xf0 ∷ [] in
    let closing_byte : List ℕ = 0xf7 ∷ [] in
    ap (λ l. l ++ past) (reverse-append (0xf0 ∷ bytes) closing_byte ∙ ap (λ l. 0xf7 ∷ l) (reverse-append opening_byte bytes))
    ∙ append_assoc (0xf7 ∷ reverse bytes) opening_byte past

reads_exclusive : (bytes past : List ℕ) → AreData bytes → open_in None past ≡ None
    → ReadsAs past (0xf0 ∷ bytes ++ 0xf7 ∷ []) (exclusive bytes ∷ [])
unfolding sort_of
reads_exclusive bytes past a h =
    let i = inside past (reverse bytes) h (all_reverse bytes [] a tt) in
    let turned = exclusive_turned bytes past in
    record { completes = ap completed turned ∙ simp (i.status, i.behind, i.silent, reverse-reverse); closed = ap (open_in None) turned }

-- ---- one message, and a list of messages

pub reads_message : (m : Message) (past : List ℕ) → IsMessage m → open_in None past ≡ None → ReadsAs past (spelled m) (m ∷ [])
reads_message (voice m) past b h = reads_voice m past b h
reads_message (common m) past b h = reads_common m past b h
reads_message (real_time m) past b h = reads_real_time m past b h
reads_message (exclusive bytes) past b h = reads_exclusive bytes past b h

-- one message and then the rest
pub reads_both : (past first rest : List ℕ) (m : Message) (ms : List Message) → ReadsAs past first (m ∷ [])
    → ReadsAs (reverse first ++ past) rest ms → ReadsAs past (first ++ rest) (m ∷ ms)
reads_both past first rest m ms r s =
    let turned : reverse (first ++ rest) ++ past ≡ reverse rest ++ (reverse first ++ past) = simp (reverse-append, append_assoc) in
    record {
      completes = ap completed turned ∙ s.completes ∙ ap (λ l. l ++ ms) r.completes ∙ append_assoc (completed past) (m ∷ []) ms;
      closed = ap (open_in None) turned ∙ s.closed;
    }

pub reads_all : (ms : List Message) (past : List ℕ) → AllByRecursion IsMessage ms → open_in None past ≡ None
    → ReadsAs past (flat_map spelled ms) ms
reads_all [] past a h = record { completes = sym (append-nil _); closed = h }
reads_all (m ∷ ms) past a h =
    let r = reads_message m past a.0 h in
    reads_both past (spelled m) (flat_map spelled ms) m ms r (reads_all ms (reverse (spelled m) ++ past) a.1 r.closed)
