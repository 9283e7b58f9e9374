-- The bytes of channel voice messages, read after bytes in which nothing is open.
use Rattle.std.proofs.Common.{◌≡◌, ◌<◌, ◌≤◌, ℕ, ◌+◌, ◌*◌, ◌/◌, ◌%◌, List, [], ◌∷◌, ◌++◌, reverse}
use Rattle.std.proofs.Common.{length, None, Some, refl, ap, sym, ◌∙◌, subst, arith, append_assoc, false}
use Rattle.std.proofs.lemmas.Bool.{cond_both, lt-ltb, le-ltb}
use Rattle.std.proofs.lemmas.List.{reverse-append}
use Rattle.std.specs.List.{AllByRecursion, flat_map}
use Rattle.voice_messages.specs.declared.voice1.Voice1.{Voice1}
use Rattle.voice_messages.specs.declared.voice1.Voice1.TheVariants as voice1
use Rattle.voice_messages.specs.declared.voice2.ParamKind.{ParamKind}
use Rattle.voice_messages.specs.declared.voice2.ParamKind.TheVariants.{Registered, Assignable}
use Rattle.voice_messages.specs.declared.voice2.Voice2.{Voice2}
use Rattle.voice_messages.specs.declared.voice2.Voice2.TheVariants as voice2
use Rattle.voice_messages.specs.Ranges.{IsVoice1, IsVoice2}
use Rattle.bit_scaling.specs.ForProofs.Scaled.{down7_fits, down14_fits, release_down_fits, velocity_down_fits}
use Rattle.midi1_bytes.specs.Sorts.{one, two, data_byte, voice_status, sort_of}
use Rattle.midi1_bytes.specs.Messages.{Message, voice, common, exclusive, real_time, spelled}
use Rattle.midi1_bytes.specs.Messages.{spelled_voice, voice_of, voice_of_one, voice_of_two}
use Rattle.midi1_bytes.specs.Steps.{Step, held, completes, step_of}
use Rattle.midi1_bytes.specs.Stream.{open_in}
use Rattle.midi_meaning.specs.Controllers.{Role, channel_mode, reset_all, coarse, fine, plain}
use Rattle.midi_meaning.specs.Controllers.{pairing, role_of, number_msb_index, number_lsb_index}
use Rattle.midi_meaning.specs.Plain.{control_messages, voice_messages}
use Rattle.midi_meaning.specs.Refusal.{bad_control, bad_voice1, bad_voice2}
use Rattle.midi_meaning.specs.Registers.{is_null}
use Rattle.self_test.specs.Played.{ArePlayed, IsPlayedStep}

-- ---- the sorts of bytes

data_is : (b : ℕ) → b < 128 → sort_of b ≡ data_byte
unfolding sort_of
data_is b h = rw (lt-ltb b 0x80 h)

-- 8n to Bn have two data bytes, Cn and Dn one, En two
low_two : (b : ℕ) → 0x80 ≤ b → b < 0xc0 → sort_of b ≡ voice_status two
unfolding sort_of
low_two b l h = rw (le-ltb b 0x80 l, lt-ltb b 0xc0 h)

one_status : (b : ℕ) → 0xc0 ≤ b → b < 0xe0 → sort_of b ≡ voice_status one
unfolding sort_of
one_status b l h = rw (le-ltb b 0x80 (omega arith), le-ltb b 0xc0 l, lt-ltb b 0xe0 h)

bend_status : (b : ℕ) → 0xe0 ≤ b → b < 0xf0 → sort_of b ≡ voice_status two
unfolding sort_of
bend_status b l h = rw (le-ltb b 0x80 (omega arith), le-ltb b 0xc0 (omega arith), le-ltb b 0xe0 l, lt-ltb b 0xf0 h)

-- ---- a message

-- a piece is played after these bytes, and leaves nothing open
pub record IsRead (past piece : List ℕ) : Type 0 where
  pub played : ArePlayed (reverse piece ++ past)
  pub closed : open_in (Some 6) (reverse piece ++ past) ≡ None

is_held : (step : Step) → step ≡ held → IsPlayedStep step
is_held step e = subst IsPlayedStep (sym e) tt

is_completed : (step : Step) (m : Voice1) → step ≡ completes (voice m) → bad_voice1 m ≡ None → IsPlayedStep step
is_completed step m e good = subst IsPlayedStep (sym e) good

read_two : (past : List ℕ) (s x y : ℕ) (m : Voice1) → sort_of s ≡ voice_status two → x < 128 → y < 128 → voice_of two s y (x ∷ []) ≡ m
    → bad_voice1 m ≡ None → open_in (Some 6) past ≡ None → ArePlayed past
    → IsRead past (s ∷ x ∷ y ∷ [])
read_two past s x y m hs hx hy is good closed played =
    let dx : sort_of x ≡ data_byte = data_is x hx in
    let dy : sort_of y ≡ data_byte = data_is y hy in
    let first : step_of (Some 6) past s ≡ held = simp (hs, closed) in
    let second : step_of (Some 6) (s ∷ past) x ≡ held = simp (hs, dx) in
    let third : step_of (Some 6) (x ∷ s ∷ past) y ≡ completes (voice (voice_of two s y (x ∷ []))) = simp (hs, dx, dy) in
    record {
      played = (is_completed _ m (third ∙ ap (λ (v : Voice1). completes (voice v)) is) good, (is_held _ second, (is_held _ first, played)));
      closed = simp (hs, dx, dy);
    }

read_one : (past : List ℕ) (s x : ℕ) (m : Voice1) → sort_of s ≡ voice_status one → x < 128 → voice_of one s x [] ≡ m → bad_voice1 m ≡ None
    → open_in (Some 6) past ≡ None → ArePlayed past → IsRead past (s ∷ x ∷ [])
read_one past s x m hs hx is good closed played =
    let dx : sort_of x ≡ data_byte = data_is x hx in
    let first : step_of (Some 6) past s ≡ held = simp (hs, closed) in
    let second : step_of (Some 6) (s ∷ past) x ≡ completes (voice (voice_of one s x [])) = simp (hs, dx) in
    record {
      played = (is_completed _ m (second ∙ ap (λ (v : Voice1). completes (voice v)) is) good, (is_held _ first, played));
      closed = simp (hs, dx);
    }

shaped_two : (s h ch x y : ℕ) → s / 16 ≡ h → s % 16 ≡ ch → voice_of two s y (x ∷ []) ≡ voice_of_two h ch x y
shaped_two s h ch x y e f = rw (e, f)

shaped_one : (s h ch x : ℕ) → s / 16 ≡ h → s % 16 ≡ ch → voice_of one s x [] ≡ voice_of_one h ch x
shaped_one s h ch x e f = rw (e, f)

bend_whole : (v : ℕ) → v / 128 * 128 + v % 128 ≡ v
bend_whole v = omega arith

read_voice : (m : Voice1) (past : List ℕ) → IsVoice1 m → bad_voice1 m ≡ None → open_in (Some 6) past ≡ None → ArePlayed past
    → IsRead past (spelled_voice m)
read_voice (voice1.NoteOff ch n v) past b good closed played =
    read_two past (0x80 + ch) n v _ (low_two _ (omega arith) (omega arith)) b.1 b.2
    (shaped_two (0x80 + ch) 8 ch n v (omega arith) (omega arith)) good closed played
read_voice (voice1.NoteOn ch n v) past b good closed played =
    read_two past (0x90 + ch) n v _ (low_two _ (omega arith) (omega arith)) b.1 b.2
    (shaped_two (0x90 + ch) 9 ch n v (omega arith) (omega arith)) good closed played
read_voice (voice1.PolyPressure ch n v) past b good closed played =
    read_two past (0xa0 + ch) n v _ (low_two _ (omega arith) (omega arith)) b.1 b.2
    (shaped_two (0xa0 + ch) 10 ch n v (omega arith) (omega arith)) good closed played
read_voice (voice1.Control ch n v) past b good closed played =
    read_two past (0xb0 + ch) n v _ (low_two _ (omega arith) (omega arith)) b.1 b.2
    (shaped_two (0xb0 + ch) 11 ch n v (omega arith) (omega arith)) good closed played
read_voice (voice1.Program ch v) past b good closed played =
    read_one past (0xc0 + ch) v _ (one_status _ (omega arith) (omega arith)) b.1
    (shaped_one (0xc0 + ch) 12 ch v (omega arith) (omega arith)) good closed played
read_voice (voice1.Pressure ch v) past b good closed played =
    read_one past (0xd0 + ch) v _ (one_status _ (omega arith) (omega arith)) b.1
    (shaped_one (0xd0 + ch) 13 ch v (omega arith) (omega arith)) good closed played
read_voice (voice1.Bend ch v) past b good closed played =
    read_two past (0xe0 + ch) (v % 128) (v / 128) (voice1.Bend ch v) (bend_status _ (omega arith) (omega arith)) (omega arith) (omega arith)
    (shaped_two (0xe0 + ch) 14 ch (v % 128) (v / 128) (omega arith) (omega arith) ∙ ap (λ n. voice1.Bend ch n) (bend_whole v)) good
    closed played

-- ---- messages

abbrev pub IsPlayedMessage : Message → Type 0
IsPlayedMessage (voice m) = IsVoice1 m × (bad_voice1 m ≡ None)
IsPlayedMessage _ = ⊥

read_both : (past first rest : List ℕ) → IsRead (reverse first ++ past) rest → IsRead past (first ++ rest)
read_both past first rest r =
    let turned : reverse (first ++ rest) ++ past ≡ reverse rest ++ (reverse first ++ past) = simp (reverse-append, append_assoc) in
    record { played = subst ArePlayed (sym turned) r.played; closed = ap (open_in (Some 6)) turned ∙ r.closed }

pub read_all : (ms : List Message) (past : List ℕ) → AllByRecursion IsPlayedMessage ms → open_in (Some 6) past ≡ None → ArePlayed past
    → IsRead past (flat_map spelled ms)
read_all [] past a closed played = record { played = played; closed = closed }
read_all (voice m ∷ ms) past a closed played =
    let r = read_voice m past a.0.0 a.0.1 closed played in
    read_both past (spelled_voice m) (flat_map spelled ms) (read_all ms (reverse (spelled_voice m) ++ past) a.1 r.closed r.played)
read_all (common m ∷ ms) past a closed played = absurd a.0
read_all (real_time m ∷ ms) past a closed played = absurd a.0
read_all (exclusive bytes ∷ ms) past a closed played = absurd a.0

-- ---- of a MIDI 2.0 message

record AreNumbers (kind : ParamKind) : Type 0 where
  msb_fits : number_msb_index kind < 128
  msb_good : bad_control (number_msb_index kind) ≡ None
  lsb_fits : number_lsb_index kind < 128
  lsb_good : bad_control (number_lsb_index kind) ≡ None

are_numbers : (kind : ParamKind) → AreNumbers kind
unfolding role_of
are_numbers Registered = record { msb_fits = omega arith; msb_good = refl; lsb_fits = omega arith; lsb_good = refl }
are_numbers Assignable = record { msb_fits = omega arith; msb_good = refl; lsb_fits = omega arith; lsb_good = refl }

-- the indexes of the halves of a bank and of a data entry
record AreHalves : Type 0 where
  bank_msb_good : bad_control 0 ≡ None
  bank_lsb_good : bad_control 32 ≡ None
  data_msb_good : bad_control 6 ≡ None
  data_lsb_good : bad_control 38 ≡ None

are_halves : AreHalves
unfolding role_of
are_halves = record { bank_msb_good = refl; bank_lsb_good = refl; data_msb_good = refl; data_lsb_good = refl }

-- controllers aren't paired
control_played : (role : Role) (ch i v : ℕ) → IsVoice2 (voice2.Control ch i v) → bad_control i ≡ None
    → AllByRecursion IsPlayedMessage (control_messages (pairing false role) ch i v)
control_played channel_mode ch i v b good = (((b.0, b.1, down7_fits v b.2), good), tt)
control_played reset_all ch i v b good = (((b.0, b.1, down7_fits v b.2), good), tt)
control_played coarse ch i v b good = (((b.0, b.1, down7_fits v b.2), good), tt)
control_played fine ch i v b good = (((b.0, b.1, down7_fits v b.2), good), tt)
control_played plain ch i v b good = (((b.0, b.1, down7_fits v b.2), good), tt)
control_played _ ch i v b good = tt

pub messages_played : (m : Voice2) → IsVoice2 m → bad_voice2 m ≡ None → AllByRecursion IsPlayedMessage (voice_messages false m)
messages_played (voice2.NoteOff ch n v t a) b good = (((b.0, b.1, release_down_fits v b.2), refl), tt)
messages_played (voice2.NoteOn ch n v t a) b good = (((b.0, b.1, velocity_down_fits v b.2), refl), tt)
messages_played (voice2.PolyPressure ch n v) b good = (((b.0, b.1, down7_fits v b.2), refl), tt)
messages_played (voice2.Control ch i v) b good = control_played (role_of i) ch i v b good
messages_played (voice2.Set ch p v) b good =
    let w = down14_fits v b.2 in
    let k = are_numbers p.kind in
    cond_both (is_null p) _ _ (AllByRecursion IsPlayedMessage) (λ e. tt)
    (λ e. (
      ((b.0, k.msb_fits, b.1.0), k.msb_good),
      (
        ((b.0, k.lsb_fits, b.1.1), k.lsb_good),
        (((b.0, omega arith, omega arith), are_halves.data_msb_good), (((b.0, omega arith, omega arith), are_halves.data_lsb_good), tt)),
      ),
    ))
messages_played (voice2.Shift ch p v) b good = tt
messages_played (voice2.Program ch p None) b good = (((b.0, b.1), refl), tt)
messages_played (voice2.Program ch p (Some k)) b good = (
  ((b.0, omega arith, b.2.0), are_halves.bank_msb_good),
  (((b.0, omega arith, b.2.1), are_halves.bank_lsb_good), (((b.0, b.1), refl), tt)),
)
messages_played (voice2.Pressure ch v) b good = (((b.0, down7_fits v b.1), refl), tt)
messages_played (voice2.Bend ch v) b good = (((b.0, down14_fits v b.1), refl), tt)
messages_played _ b good = tt

control_short : (role : Role) (ch i v : ℕ) → length (flat_map spelled (control_messages (pairing false role) ch i v)) ≤ 12
control_short channel_mode ch i v = omega arith
control_short reset_all ch i v = omega arith
control_short coarse ch i v = omega arith
control_short fine ch i v = omega arith
control_short plain ch i v = omega arith
control_short _ ch i v = omega arith

-- its piece has at most twelve bytes
pub piece_short : (m : Voice2) → length (flat_map spelled (voice_messages false m)) ≤ 12
piece_short (voice2.NoteOff ch n v t a) = omega arith
piece_short (voice2.NoteOn ch n v t a) = omega arith
piece_short (voice2.PolyPressure ch n v) = omega arith
piece_short (voice2.Control ch i v) = control_short (role_of i) ch i v
piece_short (voice2.Set ch p v) = cond_both (is_null p) _ _ (λ ms. length (flat_map spelled ms) ≤ 12) (λ e. omega arith) (λ e. omega arith)
piece_short (voice2.Shift ch p v) = omega arith
piece_short (voice2.Program ch p None) = omega arith
piece_short (voice2.Program ch p (Some k)) = omega arith
piece_short (voice2.Pressure ch v) = omega arith
piece_short (voice2.Bend ch v) = omega arith
piece_short _ = omega arith
