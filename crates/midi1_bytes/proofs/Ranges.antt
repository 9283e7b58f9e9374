-- The messages that bytes complete have their fields in range.
use Rattle.std.proofs.Common.{ℕ, ◌+◌, ◌*◌, ◌/◌, ◌%◌, ◌≡◌, ◌<◌, refl, List, [], ◌∷◌, length, suc, Option, Some, None, cond, arith}
use Rattle.std.specs.Prelude.{slice_index}
use Rattle.std.specs.Option.{IfSome}
use Rattle.std.proofs.lemmas.Bool.{cond_both}
use mathlib.Core.List.{reverse_aux}
use lib.Dec.{eqb, ltb}
use Rattle.voice_messages.specs.Ranges.{IsVoice1}
use Rattle.voice_messages.specs.declared.voice1.System.TheVariants as system
use Rattle.midi1_bytes.specs.declared.step.CutKind.{CutKind}
use Rattle.midi1_bytes.specs.declared.step.CutKind.TheVariants as kind
use Rattle.midi1_bytes.specs.declared.step.AfterCut.{AfterCut}
use Rattle.midi1_bytes.specs.declared.step.AfterCut.TheVariants as after
use Rattle.midi1_bytes.specs.Sorts.{Count, one, two, data_count, Sort, data_byte, voice_status, exclusive_start, common_status}
use Rattle.midi1_bytes.specs.Sorts.{tune_request, undefined_status, exclusive_end, real_time_status, undefined_real_time, sort_of, is_data}
use Rattle.midi1_bytes.specs.Messages.{common, voice_of, voice_of_one, voice_of_two, common_of}
use Rattle.midi1_bytes.specs.Messages.{real_time_of, IsCommon, IsRealTime, IsMessage, AreData}
use Rattle.midi1_bytes.specs.Stream.{Room, fits, without_real_time, last_status, last_data, open_in, start_in}
use Rattle.midi1_bytes.specs.Steps.{Step, held, completes, undefined, stray, too_long, cut_or}
use Rattle.midi1_bytes.specs.Steps.{end_by, data_by, data_under, step_of, step_under, completed_by}
use Rattle.midi1_bytes.proofs.SortLaws.{data_below}

-- the message of a step, if there is one, is in range
abbrev IsSound : Step → Type 0
IsSound step = IfSome (completed_by step) IsMessage

all_data : (past : List ℕ) → AreData (last_data past)
all_data [] = tt
all_data (b ∷ past) = go (sort_of b) refl (all_data past)
  where
    go : (t : Sort) → sort_of b ≡ t → AreData (last_data past) → AreData (cond (is_data t) (b ∷ last_data past) [])
    go data_byte e a = (data_below b e, a)
    go _ e a = tt

first_below : (ds : List ℕ) → AreData ds → slice_index ds 0 < 128
first_below [] a = omega arith
first_below (d ∷ ds) a = a.0

two_sound : (h c x y : ℕ) → c < 16 → x < 128 → y < 128 → IsVoice1 (voice_of_two h c x y)
two_sound h c x y a b d =
    cond_both (eqb h 8) _ _ IsVoice1 (λ e. (a, b, d))
    (λ e. cond_both (eqb h 9) _ _ IsVoice1 (λ e. (a, b, d))
    (λ e. cond_both (eqb h 10) _ _ IsVoice1 (λ e. (a, b, d))
    (λ e. cond_both (eqb h 11) _ _ IsVoice1 (λ e. (a, b, d)) (λ e. (a, omega arith)))))

one_sound : (h c x : ℕ) → c < 16 → x < 128 → IsVoice1 (voice_of_one h c x)
one_sound h c x a b = cond_both (eqb h 12) _ _ IsVoice1 (λ e. (a, b)) (λ e. (a, b))

voice_sound : (l : Count) (s b : ℕ) (ds : List ℕ) → AreData ds → b < 128 → IsVoice1 (voice_of l s b ds)
voice_sound one s b ds a h = one_sound (s / 16) (s % 16) b (omega arith) h
voice_sound two s b ds a h = two_sound (s / 16) (s % 16) (slice_index ds 0) b (omega arith) (first_below ds a) h

common_sound : (l : Count) (s b : ℕ) (ds : List ℕ) → AreData ds → b < 128 → IsCommon (common_of l s b ds)
common_sound one s b ds a h = cond_both (eqb s 0xf1) (system.Quarter b) (system.Song b) IsCommon (λ e. h) (λ e. h)
common_sound two s b ds a h = position_below (slice_index ds 0) (first_below ds a)
  where
    position_below : (x : ℕ) → x < 128 → b * 128 + x < 16384
    position_below x f = omega (arith, h)

all_turned : (xs acc : List ℕ) → AreData xs → AreData acc → AreData (reverse_aux xs acc)
all_turned [] acc h k = k
all_turned (x ∷ xs) acc h k = all_turned xs (x ∷ acc) h.1 (h.0, k)

data_sound : (room : Room) (t : Sort) (s : ℕ) (ds : List ℕ) (b : ℕ) → AreData ds → b < 128 → IsSound (data_under room t s ds b)
data_sound room (voice_status l) s ds b a h =
    cond_both (eqb (suc (length ds) % data_count l) 0) _ _ IsSound (λ e. voice_sound l s b ds a h) (λ e. tt)
data_sound room (common_status l) s ds b a h =
    cond_both (eqb (suc (length ds)) (data_count l)) _ _ IsSound (λ e. common_sound l s b ds a h)
    (λ e. cond_both (ltb (suc (length ds)) (data_count l)) held stray IsSound (λ e. tt) (λ e. tt))
data_sound room exclusive_start s ds b a h =
    cond_both (fits room (suc (length ds))) _ _ IsSound (λ e. tt)
    (λ e. cond_both (fits room (length ds)) too_long stray IsSound (λ e. tt) (λ e. tt))
data_sound room _ s ds b a h = tt

data_by_sound : (room : Room) (o : Option ℕ) (ds : List ℕ) (b : ℕ) → AreData ds → b < 128 → IsSound (data_by room o ds b)
data_by_sound room None ds b a h = tt
data_by_sound room (Some s) ds b a h = data_sound room (sort_of s) s ds b a h

real_time_sound : (b : ℕ) → IsRealTime (real_time_of b)
real_time_sound b =
    cond_both (eqb b 0xf8) _ _ IsRealTime (λ e. tt)
    (λ e. cond_both (eqb b 0xfa) _ _ IsRealTime (λ e. tt)
    (λ e. cond_both (eqb b 0xfb) _ _ IsRealTime (λ e. tt)
    (λ e. cond_both (eqb b 0xfc) _ _ IsRealTime (λ e. tt) (λ e. cond_both (eqb b 0xfe) _ _ IsRealTime (λ e. tt) (λ e. tt)))))

cut_sound : (o : Option CutKind) (start : ℕ) (a : AfterCut) (st : Step) → IsSound st → IsSound (cut_or o start a st)
cut_sound None start a st h = h
cut_sound (Some what) start after.Begins st h = tt
cut_sound (Some what) start after.Tune st h = tt
cut_sound (Some what) start after.Undefined st h = tt
cut_sound (Some what) start after.Stray st h = tt

end_sound : (o : Option CutKind) (start : ℕ) (ds : List ℕ) → AreData ds → IsSound (end_by o start ds)
end_sound (Some kind.Exclusive) start ds a = all_turned ds [] a tt
end_sound (Some kind.Message) start ds a = tt
end_sound None start ds a = tt

pub in_range : (room : Room) (past : List ℕ) (b : ℕ) → IfSome (completed_by (step_of room past b)) IsMessage
in_range room past b = go (sort_of b) refl
  where
    go : (t : Sort) → sort_of b ≡ t → IsSound (step_under room t past b)
    go data_byte e =
        data_by_sound room (last_status (without_real_time past)) (last_data (without_real_time past)) b (all_data (without_real_time past))
        (data_below b e)
    go (voice_status l) e = cut_sound (open_in room past) (start_in past) after.Begins held tt
    go exclusive_start e = cut_sound (open_in room past) (start_in past) after.Begins held tt
    go (common_status l) e = cut_sound (open_in room past) (start_in past) after.Begins held tt
    go tune_request e = cut_sound (open_in room past) (start_in past) after.Tune (completes (common system.Tune)) tt
    go undefined_status e = cut_sound (open_in room past) (start_in past) after.Undefined undefined tt
    go exclusive_end e =
        end_sound (open_in room past) (start_in past) (last_data (without_real_time past)) (all_data (without_real_time past))
    go real_time_status e = real_time_sound b
    go undefined_real_time e = tt
