-- Messages written under running status are read again.
use Rattle.std.proofs.Common.{ℕ, ◌+◌, ◌/◌, ◌%◌, ◌≡◌, ◌<◌, ◌≤◌, ◌∙◌, ap, sym, refl, subst, List, [], ◌∷◌, ◌++◌}
use Rattle.std.proofs.Common.{reverse, length, suc, Option, Some, None, Bool, true, false, cond, arith, append_assoc}
use Rattle.std.proofs.lemmas.List.{append-nil, reverse-append}
use Rattle.std.proofs.lemmas.Bool.{cond_both, eqb-true, eq-eqb, ne_eqb}
use Rattle.std.proofs.lemmas.Bool.Decides.{nat_tests}
use Rattle.std.proofs.lemmas.Option.{same_Some}
use Rattle.std.specs.Prelude.{slice_index}
use Rattle.std.specs.List.{AllByRecursion}
use lib.Dec.{eqb}
use Rattle.voice_messages.specs.declared.voice1.Voice1.{Voice1}
use Rattle.voice_messages.specs.declared.voice1.Voice1.TheVariants as voice1
use Rattle.voice_messages.specs.declared.voice1.System.{System}
use Rattle.voice_messages.specs.declared.voice1.System.TheVariants as system
use Rattle.voice_messages.specs.Ranges.{IsVoice1}
use Rattle.midi1_bytes.specs.declared.step.CutKind.TheVariants as kind
use Rattle.midi1_bytes.specs.Sorts.{Count, one, two, Sort, data_byte, voice_status, real_time_status, undefined_real_time, sort_of}
use Rattle.midi1_bytes.specs.Messages.{Message, voice, common, exclusive, real_time, voice_of, spelled}
use Rattle.midi1_bytes.specs.Messages.{spelled_voice, spelled_system, IsCommon, IsRealTime, IsMessage}
use Rattle.midi1_bytes.specs.Stream.{without_real_time, last_status, last_data, open_in}
use Rattle.midi1_bytes.specs.Stream.{open_by, open_under, running, running_by, running_under}
use Rattle.midi1_bytes.specs.Steps.{ReadsAs}
use Rattle.midi1_bytes.specs.RunningStatus.{IsKnownIn, is_running, without_status, written_behind}
use Rattle.midi1_bytes.specs.RunningStatus.{status_of, running_after, running_over, written_under}
use Rattle.midi1_bytes.proofs.SortLaws.{data_is, low_two, one_status, bend_status}
use Rattle.midi1_bytes.proofs.Written.{bend_whole, exclusive_turned, reads_both, reads_message, shaped_one, shaped_two}

-- ---- a message without its status byte

-- nothing is open after a voice status and whole messages of so many data bytes
whole_messages : (l n : ℕ) → cond (eqb n 0) (Some kind.Message) (cond (eqb (n % l) 0) None (Some kind.Message)) ≡ None → n % l ≡ 0
whole_messages l n h = go (eqb n 0) (eqb (n % l) 0) refl h
  where
    go : (a b : Bool) → eqb (n % l) 0 ≡ b → cond a (Some kind.Message) (cond b None (Some kind.Message)) ≡ None → n % l ≡ 0
    go true b e k = cc
    go false true e k = eqb-true _ _ e
    go false false e k = cc

reads_two_more : (past : List ℕ) (s x y : ℕ) → sort_of s ≡ voice_status two → last_status (without_real_time past) ≡ Some s
    → sort_of x ≡ data_byte → sort_of y ≡ data_byte → open_in None past ≡ None
    → ReadsAs past (x ∷ y ∷ []) (voice (voice_of two s y (x ∷ [])) ∷ [])
reads_two_more past s x y hs hp hx hy hn =
    let n = length (last_data (without_real_time past)) in
    let k : open_by None (Some s) n ≡ None = rw hp at hn in
    let e : open_under None (voice_status two) n ≡ None = rw hs at k in
    let even : n % 2 ≡ 0 = whole_messages 2 n e in
    let odd : eqb (suc n % 2) 0 ≡ false = ne_eqb _ _ (λ z. omega arith) in
    let next : eqb (suc (suc n) % 2) 0 ≡ true = eq-eqb _ _ (omega arith) in
    let more : eqb (suc (suc n)) 0 ≡ false = ne_eqb _ _ (λ z. omega arith) in
    record { completes = simp (hx, hy, hp, hs, odd, next, append-nil); closed = simp (hx, hy, hp, hs, next, more) }

reads_one_more : (past : List ℕ) (s x : ℕ) → sort_of s ≡ voice_status one → last_status (without_real_time past) ≡ Some s
    → sort_of x ≡ data_byte → open_in None past ≡ None → ReadsAs past (x ∷ []) (voice (voice_of one s x []) ∷ [])
reads_one_more past s x hs hp hx hn =
    let n = length (last_data (without_real_time past)) in
    let next : eqb (suc n % 1) 0 ≡ true = eq-eqb _ _ (omega arith) in
    let more : eqb (suc n) 0 ≡ false = ne_eqb _ _ (λ z. omega arith) in
    record { completes = simp (hx, hp, hs, next); closed = simp (hx, hp, hs, next, more) }

-- ---- any message, less the status byte that is running

status_from_running : (o : Option ℕ) (s : ℕ) → running_by o ≡ Some s → (o ≡ Some s) × ((l : Count) × (sort_of s ≡ voice_status l))
status_from_running None s h = cc
status_from_running (Some r) s h = go (sort_of r) refl h
  where
    go : (t : Sort) → sort_of r ≡ t → running_under t r ≡ Some s → (Some r ≡ Some s) × ((l : Count) × (sort_of s ≡ voice_status l))
    go (voice_status l) e k = (k, (l, ap sort_of (sym (same_Some r s k)) ∙ e))
    go data_byte e k = cc
    go _ e k = cc

abbrev pub tail_of : List ℕ → List ℕ
tail_of [] = []
tail_of (s ∷ bytes) = bytes

reads_voice_tail : (m : Voice1) (past : List ℕ) → IsVoice1 m → open_in None past ≡ None
    → last_status (without_real_time past) ≡ Some (status_of m) → ReadsAs past (tail_of (spelled_voice m)) (voice m ∷ [])
reads_voice_tail (voice1.NoteOff ch n v) past b h p =
    subst (ReadsAs past (n ∷ v ∷ [])) (shaped_two (0x80 + ch) 8 ch n v (omega arith) (omega arith))
    (reads_two_more past (0x80 + ch) n v (low_two _ (omega arith) (omega arith)) p (data_is n b.1) (data_is v b.2) h)
reads_voice_tail (voice1.NoteOn ch n v) past b h p =
    subst (ReadsAs past (n ∷ v ∷ [])) (shaped_two (0x90 + ch) 9 ch n v (omega arith) (omega arith))
    (reads_two_more past (0x90 + ch) n v (low_two _ (omega arith) (omega arith)) p (data_is n b.1) (data_is v b.2) h)
reads_voice_tail (voice1.PolyPressure ch n v) past b h p =
    subst (ReadsAs past (n ∷ v ∷ [])) (shaped_two (0xa0 + ch) 10 ch n v (omega arith) (omega arith))
    (reads_two_more past (0xa0 + ch) n v (low_two _ (omega arith) (omega arith)) p (data_is n b.1) (data_is v b.2) h)
reads_voice_tail (voice1.Control ch n v) past b h p =
    subst (ReadsAs past (n ∷ v ∷ [])) (shaped_two (0xb0 + ch) 11 ch n v (omega arith) (omega arith))
    (reads_two_more past (0xb0 + ch) n v (low_two _ (omega arith) (omega arith)) p (data_is n b.1) (data_is v b.2) h)
reads_voice_tail (voice1.Program ch v) past b h p =
    subst (ReadsAs past (v ∷ [])) (shaped_one (0xc0 + ch) 12 ch v (omega arith) (omega arith))
    (reads_one_more past (0xc0 + ch) v (one_status _ (omega arith) (omega arith)) p (data_is v b.1) h)
reads_voice_tail (voice1.Pressure ch v) past b h p =
    subst (ReadsAs past (v ∷ [])) (shaped_one (0xd0 + ch) 13 ch v (omega arith) (omega arith))
    (reads_one_more past (0xd0 + ch) v (one_status _ (omega arith) (omega arith)) p (data_is v b.1) h)
reads_voice_tail (voice1.Bend ch v) past b h p =
    subst (ReadsAs past ((v % 128) ∷ (v / 128) ∷ []))
    (shaped_two (0xe0 + ch) 14 ch (v % 128) (v / 128) (omega arith) (omega arith) ∙ ap (λ n. voice (voice1.Bend ch n) ∷ []) (bend_whole v))
    (reads_two_more past (0xe0 + ch) (v % 128) (v / 128) (bend_status _ (omega arith) (omega arith)) p (data_is (v % 128) (omega arith))
    (data_is (v / 128) (omega arith)) h)

known : (r : Option ℕ) (s : ℕ) (past : List ℕ) → is_running r s ≡ true → IsKnownIn r past
    → (last_status (without_real_time past) ≡ Some s) × ((l : Count) × (sort_of s ≡ voice_status l))
known None s past e k = cc
known (Some t) s past e k = status_from_running (last_status (without_real_time past)) s (k s (ap Some (eqb-true t s e)))

spelled_voice-status : (m : Voice1) → spelled_voice m ≡ status_of m ∷ tail_of (spelled_voice m)
spelled_voice-status (voice1.NoteOff ch n v) = refl
spelled_voice-status (voice1.NoteOn ch n v) = refl
spelled_voice-status (voice1.PolyPressure ch n v) = refl
spelled_voice-status (voice1.Control ch i v) = refl
spelled_voice-status (voice1.Program ch p) = refl
spelled_voice-status (voice1.Pressure ch v) = refl
spelled_voice-status (voice1.Bend ch v) = refl

-- a first byte that is no status of a voice message is never left out
kept : (r : Option ℕ) (s : ℕ) (bytes past : List ℕ) → ((l : Count) → sort_of s ≡ voice_status l → ⊥) → IsKnownIn r past
    → without_status r (s ∷ bytes) ≡ s ∷ bytes
kept r s bytes past n k =
    cond_both (is_running r s) bytes (s ∷ bytes) (λ l. l ≡ s ∷ bytes) (λ e. let q = known r s past e k in absurd (n q.1.0 q.1.1))
    (λ e. refl)

abbrev HasPlainHead : Message → Type 0
HasPlainHead m = (s : ℕ) × (bytes : List ℕ) × (spelled m ≡ s ∷ bytes) × ((l : Count) → sort_of s ≡ voice_status l → ⊥)

system_head : (m : System) → (s : ℕ) × (bytes : List ℕ) × (spelled_system m ≡ s ∷ bytes) × ((l : Count) → sort_of s ≡ voice_status l → ⊥)
unfolding sort_of
system_head (system.Quarter n) = (0xf1, n ∷ [], refl, λ l e. cc)
system_head (system.Position n) = (0xf2, (n % 128) ∷ (n / 128) ∷ [], refl, λ l e. cc)
system_head (system.Song n) = (0xf3, n ∷ [], refl, λ l e. cc)
system_head system.Tune = (0xf6, [], refl, λ l e. cc)
system_head system.Clock = (0xf8, [], refl, λ l e. cc)
system_head system.Start = (0xfa, [], refl, λ l e. cc)
system_head system.Continue = (0xfb, [], refl, λ l e. cc)
system_head system.Stop = (0xfc, [], refl, λ l e. cc)
system_head system.Sensing = (0xfe, [], refl, λ l e. cc)
system_head system.Reset = (0xff, [], refl, λ l e. cc)

exclusive_head : (bytes : List ℕ) → HasPlainHead (exclusive bytes)
unfolding sort_of
exclusive_head bytes = (0xf0, bytes ++ 0xf7 ∷ [], refl, λ l e. cc)

whole_kept : (m : Message) (r : Option ℕ) (past : List ℕ) → HasPlainHead m → IsKnownIn r past → without_status r (spelled m) ≡ spelled m
whole_kept m r past q k = ap (without_status r) q.2 ∙ kept r q.0 q.1 past q.3 k ∙ sym q.2

-- a system message is written whole
pub system_whole : (m : System) (past : List ℕ) → without_status (running past) (spelled_system m) ≡ spelled_system m
system_whole m past =
    let q = system_head m in
    ap (without_status (running past)) q.2 ∙ kept (running past) q.0 q.1 past q.3 (λ s e. e) ∙ sym q.2

pub exclusive_whole : (bytes past : List ℕ) → without_status (running past) (spelled (exclusive bytes)) ≡ spelled (exclusive bytes)
exclusive_whole bytes past = whole_kept (exclusive bytes) (running past) past (exclusive_head bytes) (λ s e. e)

reads_kept : (m : Message) (r : Option ℕ) (past : List ℕ) → HasPlainHead m → IsMessage m → open_in None past ≡ None → IsKnownIn r past
    → ReadsAs past (without_status r (spelled m)) (m ∷ [])
reads_kept m r past q b h k = subst (λ l. ReadsAs past l (m ∷ [])) (sym (whole_kept m r past q k)) (reads_message m past b h)

reads_less : (m : Message) (r : Option ℕ) (past : List ℕ) → IsMessage m → open_in None past ≡ None → IsKnownIn r past
    → ReadsAs past (without_status r (spelled m)) (m ∷ [])
reads_less (voice m) r past b h k = subst (λ l. ReadsAs past l (voice m ∷ [])) (sym (ap (without_status r) (spelled_voice-status m)))
    (cond_both (is_running r (status_of m)) (tail_of (spelled_voice m)) (status_of m ∷ tail_of (spelled_voice m))
    (λ l. ReadsAs past l (voice m ∷ []))
    (λ e. reads_voice_tail m past b h (known r (status_of m) past e k).0)
    (λ e. subst (λ l. ReadsAs past l (voice m ∷ [])) (spelled_voice-status m) (reads_message (voice m) past b h)))
reads_less (common m) r past b h k = reads_kept (common m) r past (system_head m) b h k
reads_less (real_time m) r past b h k = reads_kept (real_time m) r past (system_head m) b h k
reads_less (exclusive bytes) r past b h k = reads_kept (exclusive bytes) r past (exclusive_head bytes) b h k

-- ---- a status byte that is written isn't the running one

voice_above : (s : ℕ) (l : Count) → sort_of s ≡ voice_status l → 128 ≤ s
unfolding sort_of
voice_above s l e = grind (arith, nat_tests)

data_never_runs : (past : List ℕ) (x : ℕ) → x < 128 → is_running (running past) x ≡ false
data_never_runs past x h = go (running past) refl
  where
    go : (r : Option ℕ) → running past ≡ r → is_running r x ≡ false
    go None e = refl
    go (Some r) e =
        let q = status_from_running (last_status (without_real_time past)) r e in
        ne_eqb r x (λ same. omega (arith, voice_above r q.1.0 q.1.1, same))

tail_data : (m : Voice1) → IsVoice1 m → slice_index (tail_of (spelled_voice m)) 0 < 128
tail_data (voice1.NoteOff ch n v) b = b.1
tail_data (voice1.NoteOn ch n v) b = b.1
tail_data (voice1.PolyPressure ch n v) b = b.1
tail_data (voice1.Control ch i v) b = b.1
tail_data (voice1.Program ch p) b = b.1
tail_data (voice1.Pressure ch v) b = b.1
tail_data (voice1.Bend ch v) b = omega arith

never_runs : (m : Message) (past : List ℕ) → HasPlainHead m
    → is_running (running past) (slice_index (without_status (running past) (spelled m)) 0) ≡ false
never_runs m past q =
    subst (λ l. is_running (running past) (slice_index l 0) ≡ false)
    (sym (ap (without_status (running past)) q.2 ∙ kept (running past) q.0 q.1 past q.3 (λ s e. e)))
    (go (is_running (running past) q.0) refl)
  where
    go : (t : Bool) → is_running (running past) q.0 ≡ t → is_running (running past) q.0 ≡ false
    go true e = let k = known (running past) q.0 past e (λ s e. e) in absurd (q.3 k.1.0 k.1.1)
    go false e = e

pub written_status : (m : Message) (past : List ℕ) → IsMessage m
    → is_running (running past) (slice_index (without_status (running past) (spelled m)) 0) ≡ false
written_status (voice m) past b =
    subst (λ l. is_running (running past) (slice_index (without_status (running past) l) 0) ≡ false) (sym (spelled_voice-status m))
    (cond_both (is_running (running past) (status_of m)) (tail_of (spelled_voice m)) (status_of m ∷ tail_of (spelled_voice m))
    (λ l. is_running (running past) (slice_index l 0) ≡ false)
    (λ e. data_never_runs past _ (tail_data m b))
    (λ e. e))
written_status (common m) past b = never_runs (common m) past (system_head m)
written_status (real_time m) past b = never_runs (real_time m) past (system_head m)
written_status (exclusive bytes) past b = never_runs (exclusive bytes) past (exclusive_head bytes)

-- ---- what is known stays known

knows_more : (before past : List ℕ) (b : ℕ) → IsKnownIn (running before) past → IsKnownIn (running (b ∷ before)) (b ∷ past)
knows_more before past b k s e = go (sort_of b) refl e
  where
    go : (t : Sort) → sort_of b ≡ t → running (b ∷ before) ≡ Some s → running (b ∷ past) ≡ Some s
    go real_time_status q e = simp q (k s (simp q at e))
    go undefined_real_time q e = simp q (k s (simp q at e))
    go data_byte q e = simp q (k s (simp q at e))
    go (voice_status l) q e = simp q (simp q at e)
    go _ q e = simp q (simp q at e)

pub knows_all : (bytes before past : List ℕ) → IsKnownIn (running before) past → IsKnownIn (running (bytes ++ before)) (bytes ++ past)
knows_all [] before past k = k
knows_all (b ∷ bytes) before past k = knows_more (bytes ++ before) (bytes ++ past) b (knows_all bytes before past k)

-- ---- what is written of some messages

pub reads_written : (ms : List Message) (before past : List ℕ) → AllByRecursion IsMessage ms → open_in None past ≡ None
    → IsKnownIn (running before) past → ReadsAs past (written_behind before ms) ms
reads_written [] before past a h k = record { completes = sym (append-nil _); closed = h }
reads_written (m ∷ ms) before past a h k =
    let piece = without_status (running before) (spelled m) in
    let r = reads_less m (running before) past a.0 h k in
    let rest = reads_written ms (reverse piece ++ before) (reverse piece ++ past) a.1 r.closed (knows_all (reverse piece) before past k) in
    reads_both past piece (written_behind (reverse piece ++ before) ms) m ms r rest

-- ---- the running status that it leaves

-- two data bytes, or one, leave it; and after a status byte it is that one
running_of_two : (past : List ℕ) (s x y : ℕ) (c : Count) → sort_of s ≡ voice_status c → sort_of x ≡ data_byte → sort_of y ≡ data_byte
    → (running (y ∷ x ∷ s ∷ past) ≡ Some s) × (running (y ∷ x ∷ past) ≡ running past)
running_of_two past s x y c hs hx hy = (simp (hs, hx, hy), simp (hx, hy))

running_of_one : (past : List ℕ) (s x : ℕ) (c : Count) → sort_of s ≡ voice_status c → sort_of x ≡ data_byte
    → (running (x ∷ s ∷ past) ≡ Some s) × (running (x ∷ past) ≡ running past)
running_of_one past s x c hs hx = (simp (hs, hx), simp hx)

running_of_voice : (m : Voice1) (past : List ℕ) → IsVoice1 m
    → (running (reverse (status_of m ∷ tail_of (spelled_voice m)) ++ past) ≡ Some (status_of m))
    × (running (reverse (tail_of (spelled_voice m)) ++ past) ≡ running past)
running_of_voice (voice1.NoteOff ch n v) past b =
    running_of_two past (0x80 + ch) n v two (low_two _ (omega arith) (omega arith)) (data_is n b.1) (data_is v b.2)
running_of_voice (voice1.NoteOn ch n v) past b =
    running_of_two past (0x90 + ch) n v two (low_two _ (omega arith) (omega arith)) (data_is n b.1) (data_is v b.2)
running_of_voice (voice1.PolyPressure ch n v) past b =
    running_of_two past (0xa0 + ch) n v two (low_two _ (omega arith) (omega arith)) (data_is n b.1) (data_is v b.2)
running_of_voice (voice1.Control ch n v) past b =
    running_of_two past (0xb0 + ch) n v two (low_two _ (omega arith) (omega arith)) (data_is n b.1) (data_is v b.2)
running_of_voice (voice1.Program ch v) past b =
    running_of_one past (0xc0 + ch) v one (one_status _ (omega arith) (omega arith)) (data_is v b.1)
running_of_voice (voice1.Pressure ch v) past b =
    running_of_one past (0xd0 + ch) v one (one_status _ (omega arith) (omega arith)) (data_is v b.1)
running_of_voice (voice1.Bend ch v) past b =
    running_of_two past (0xe0 + ch) (v % 128) (v / 128) two (bend_status _ (omega arith) (omega arith)) (data_is (v % 128) (omega arith))
    (data_is (v / 128) (omega arith))

is_running-true : (r : Option ℕ) (s : ℕ) → is_running r s ≡ true → r ≡ Some s
is_running-true None s e = cc
is_running-true (Some t) s e = ap Some (eqb-true t s e)

running_of_common : (m : System) (past : List ℕ) → IsCommon m → running (reverse (spelled_system m) ++ past) ≡ None
unfolding sort_of
running_of_common (system.Quarter n) past b = let d = data_is n b in simp d
running_of_common (system.Position n) past b =
    let x : sort_of (n % 128) ≡ data_byte = data_is (n % 128) (omega arith) in
    let y : sort_of (n / 128) ≡ data_byte = data_is (n / 128) (omega arith) in
    simp (x, y)
running_of_common (system.Song n) past b = let d = data_is n b in simp d
running_of_common system.Tune past b = refl
running_of_common _ past b = absurd b

running_of_real_time : (m : System) (past : List ℕ) → IsRealTime m → running (reverse (spelled_system m) ++ past) ≡ running past
unfolding sort_of
running_of_real_time (system.Quarter n) past b = absurd b
running_of_real_time (system.Position n) past b = absurd b
running_of_real_time (system.Song n) past b = absurd b
running_of_real_time system.Tune past b = absurd b
running_of_real_time _ past b = refl

running_of_exclusive : (bytes past : List ℕ) → running (reverse (0xf0 ∷ bytes ++ 0xf7 ∷ []) ++ past) ≡ None
unfolding sort_of
running_of_exclusive bytes past = ap running (exclusive_turned bytes past)

-- one message
running_of_message : (m : Message) (past : List ℕ) → IsMessage m
    → running (reverse (without_status (running past) (spelled m)) ++ past) ≡ running_after m (running past)
running_of_message (voice m) past b =
    let both = running_of_voice m past b in
    subst (λ l. running (reverse (without_status (running past) l) ++ past) ≡ Some (status_of m)) (sym (spelled_voice-status m))
    (cond_both (is_running (running past) (status_of m)) (tail_of (spelled_voice m)) (status_of m ∷ tail_of (spelled_voice m))
    (λ l. running (reverse l ++ past) ≡ Some (status_of m))
    (λ e. both.1 ∙ is_running-true (running past) (status_of m) e)
    (λ e. both.0))
running_of_message (common m) past b =
    ap (λ l. running (reverse l ++ past)) (whole_kept (common m) (running past) past (system_head m) (λ s e. e))
    ∙ running_of_common m past b
running_of_message (real_time m) past b =
    ap (λ l. running (reverse l ++ past)) (whole_kept (real_time m) (running past) past (system_head m) (λ s e. e))
    ∙ running_of_real_time m past b
running_of_message (exclusive bytes) past b =
    ap (λ l. running (reverse l ++ past)) (whole_kept (exclusive bytes) (running past) past (exclusive_head bytes) (λ s e. e))
    ∙ running_of_exclusive bytes past

-- what is written of some messages, one by one
turned : (first rest past : List ℕ) → reverse (first ++ rest) ++ past ≡ reverse rest ++ (reverse first ++ past)
turned first rest past = simp (reverse-append, append_assoc)

pub running_of_written : (ms : List Message) (past : List ℕ) → AllByRecursion IsMessage ms
    → running (reverse (written_behind past ms) ++ past) ≡ running_over ms (running past)
running_of_written [] past a = refl
running_of_written (m ∷ ms) past a =
    let piece = without_status (running past) (spelled m) in
    ap running (turned piece (written_behind (reverse piece ++ past) ms) past)
    ∙ running_of_written ms (reverse piece ++ past) a.1
    ∙ ap (running_over ms) (running_of_message m past a.0)

pub written_by_running : (ms : List Message) (past : List ℕ) → AllByRecursion IsMessage ms
    → written_behind past ms ≡ written_under (running past) ms
written_by_running [] past a = refl
written_by_running (m ∷ ms) past a =
    let piece = without_status (running past) (spelled m) in
    ap (λ l. piece ++ l) (written_by_running ms (reverse piece ++ past) a.1 ∙ ap (λ r. written_under r ms) (running_of_message m past a.0))

-- ---- something is written of each message

abbrev IsCons : List ℕ → Type 0
IsCons [] = ⊥
IsCons (b ∷ bytes) = Unit {0}

cons_front : (xs ys : List ℕ) → IsCons xs → IsCons (xs ++ ys)
cons_front [] ys h = absurd h
cons_front (x ∷ xs) ys h = tt

cons_length : (xs : List ℕ) → IsCons xs → 0 < length xs
cons_length [] h = absurd h
cons_length (x ∷ xs) h = omega arith

tail_cons : (m : Voice1) → IsCons (tail_of (spelled_voice m))
tail_cons (voice1.NoteOff ch n v) = tt
tail_cons (voice1.NoteOn ch n v) = tt
tail_cons (voice1.PolyPressure ch n v) = tt
tail_cons (voice1.Control ch i v) = tt
tail_cons (voice1.Program ch p) = tt
tail_cons (voice1.Pressure ch v) = tt
tail_cons (voice1.Bend ch v) = tt

plain_head_cons : (m : Message) (past : List ℕ) → HasPlainHead m → IsCons (without_status (running past) (spelled m))
plain_head_cons m past q = subst IsCons (sym (ap (without_status (running past)) q.2 ∙ kept (running past) q.0 q.1 past q.3 (λ s e. e))) tt

less_cons : (m : Message) (past : List ℕ) → IsCons (without_status (running past) (spelled m))
less_cons (voice m) past =
    subst (λ l. IsCons (without_status (running past) l)) (sym (spelled_voice-status m))
    (cond_both (is_running (running past) (status_of m)) (tail_of (spelled_voice m)) (status_of m ∷ tail_of (spelled_voice m)) IsCons
    (λ e. tail_cons m) (λ e. tt))
less_cons (common m) past = plain_head_cons (common m) past (system_head m)
less_cons (real_time m) past = plain_head_cons (real_time m) past (system_head m)
less_cons (exclusive bytes) past = plain_head_cons (exclusive bytes) past (exclusive_head bytes)

pub written_something : (m : Message) (ms : List Message) (past : List ℕ) → 0 < length (written_behind past (m ∷ ms))
written_something m ms past =
    cons_length (written_behind past (m ∷ ms))
    (cons_front (without_status (running past) (spelled m))
    (written_behind (reverse (without_status (running past) (spelled m)) ++ past) ms) (less_cons m past))
