-- If no exclusive in the bytes exceeds its limit, the limit doesn't matter.
use Rattle.std.proofs.Common.{ℕ, ◌%◌, ◌≡◌, ◌≤◌, ◌∙◌, ap, sym, refl, suc, List, [], ◌∷◌, ◌++◌, map}
use Rattle.std.proofs.Common.{reverse, length, Option, Some, None, Bool, true, false, cond, arith}
use Rattle.std.specs.Prelude.{◌≢◌}
use Rattle.std.specs.Option.{option_map}
use Rattle.std.proofs.lemmas.Bool.{cond_both, le-leb, leb-true}
use Rattle.std.proofs.lemmas.List.{length-reverse}
use lib.Dec.{eqb, ltb, leb}
use Rattle.midi1_bytes.specs.declared.step.CutKind.{CutKind}
use Rattle.midi1_bytes.specs.declared.step.CutKind.TheVariants as kind
use Rattle.midi1_bytes.specs.declared.step.AfterCut.{AfterCut}
use Rattle.midi1_bytes.specs.declared.step.AfterCut.TheVariants as after
use Rattle.midi1_bytes.specs.Sorts.{Count, data_count, Sort, data_byte, voice_status, exclusive_start, common_status}
use Rattle.midi1_bytes.specs.Sorts.{tune_request, undefined_status, exclusive_end, real_time_status, undefined_real_time, sort_of}
use Rattle.midi1_bytes.specs.Messages.{Message, common, exclusive}
use Rattle.voice_messages.specs.declared.voice1.System.TheVariants as system
use Rattle.midi1_bytes.specs.Stream.{without_real_time, last_status, last_data, open_under, open_by, open_in, start_in, Open}
use Rattle.midi1_bytes.specs.Steps.{Step, held, completes, stray, undefined, too_long, cut_or}
use Rattle.midi1_bytes.specs.Steps.{end_by, data_under, data_by, step_under, step_of, completed_by}
use Rattle.listing_terms.specs.declared.listed.BadStep.TheVariants as bad
use Rattle.listing_terms.specs.declared.listed.Listed.{Listed}
use Rattle.midi_meaning.specs.Messages.{meaning1}
use Rattle.midi_meaning.specs.Raising.{raised_step, packets_up}
use Rattle.midi_meaning.specs.StepListing.{kinds_up, line_up, kinds_at_end, lines_up, lines_up_to_end}
use Rattle.midi_meaning.specs.Back.{pieces_of, back}
use Rattle.midi_meaning.specs.UpRefusal.{refusal_of_step, AreStepsWithinRoom, AreAcceptedUp}

-- this many data bytes after a status fit the limit, if they are an exclusive's
abbrev FitsUnder : ℕ → Sort → ℕ → Type 0
FitsUnder room exclusive_start size = leb size room ≡ true
FitsUnder room _ size = Unit {0}

abbrev FitsBy : ℕ → Option ℕ → ℕ → Type 0
FitsBy room None size = Unit {0}
FitsBy room (Some status) size = FitsUnder room (sort_of status) size

abbrev FitsIn : ℕ → List ℕ → Type 0
FitsIn room bytes = FitsBy room (last_status bytes) (length (last_data bytes))

-- ---- what is open

open_by-same : (room : ℕ) (o : Option ℕ) (n : ℕ) → FitsBy room o n → open_by (Some room) o n ≡ open_by None o n
open_by-same room None n h = refl
open_by-same room (Some s) n h = go (sort_of s) h
  where
    go : (t : Sort) → FitsUnder room t n → open_under (Some room) t n ≡ open_under None t n
    go exclusive_start e = rw e refl
    go (voice_status l) e = refl
    go (common_status l) e = refl
    go data_byte e = refl
    go tune_request e = refl
    go undefined_status e = refl
    go exclusive_end e = refl
    go real_time_status e = refl
    go undefined_real_time e = refl

open-same : (room : ℕ) (past : List ℕ) → FitsIn room (without_real_time past) → open_in (Some room) past ≡ open_in None past
open-same room past h = open_by-same room (last_status (without_real_time past)) (length (last_data (without_real_time past))) h

-- ---- one more byte

data_fits : (room b s : ℕ) (ds : List ℕ) (t : Sort) → FitsUnder room t (length ds) → data_under (Some room) t s ds b ≢ too_long
    → FitsUnder room t (suc (length ds)) × (data_under (Some room) t s ds b ≡ data_under None t s ds b)
data_fits room b s ds exclusive_start h k = go (leb (suc (length ds)) room) refl (leb (length ds) room) h k
  where
    go : (t : Bool) → leb (suc (length ds)) room ≡ t → (u : Bool) → u ≡ true → cond t held (cond u too_long stray) ≢ too_long
        → (leb (suc (length ds)) room ≡ true) × (cond t held (cond u too_long stray) ≡ held)
    go true e u q k = (e, refl)
    go false e true q k = absurd (k refl)
    go false e false q k = cc
data_fits room b s ds (voice_status l) h k = (tt, refl)
data_fits room b s ds (common_status l) h k = (tt, refl)
data_fits room b s ds data_byte h k = (tt, refl)
data_fits room b s ds tune_request h k = (tt, refl)
data_fits room b s ds undefined_status h k = (tt, refl)
data_fits room b s ds exclusive_end h k = (tt, refl)
data_fits room b s ds real_time_status h k = (tt, refl)
data_fits room b s ds undefined_real_time h k = (tt, refl)

data_by-fits : (room b : ℕ) (o : Option ℕ) (ds : List ℕ) → FitsBy room o (length ds) → data_by (Some room) o ds b ≢ too_long
    → FitsBy room o (suc (length ds)) × (data_by (Some room) o ds b ≡ data_by None o ds b)
data_by-fits room b None ds h k = (tt, refl)
data_by-fits room b (Some s) ds h k = data_fits room b s ds (sort_of s) h k

step_under-same : (room : ℕ) (past : List ℕ) (b : ℕ) (t : Sort) → FitsIn room (without_real_time past)
    → step_under (Some room) t past b ≢ too_long → step_under (Some room) t past b ≡ step_under None t past b
step_under-same room past b data_byte h k =
    (data_by-fits room b (last_status (without_real_time past)) (last_data (without_real_time past)) h k).1
step_under-same room past b (voice_status l) h k = ap (λ o. cut_or o (start_in past) after.Begins held) (open-same room past h)
step_under-same room past b exclusive_start h k = ap (λ o. cut_or o (start_in past) after.Begins held) (open-same room past h)
step_under-same room past b (common_status l) h k = ap (λ o. cut_or o (start_in past) after.Begins held) (open-same room past h)
step_under-same room past b tune_request h k =
    ap (λ o. cut_or o (start_in past) after.Tune (completes (common system.Tune))) (open-same room past h)
step_under-same room past b undefined_status h k = ap (λ o. cut_or o (start_in past) after.Undefined undefined) (open-same room past h)
step_under-same room past b exclusive_end h k =
    ap (λ o. end_by o (start_in past) (last_data (without_real_time past))) (open-same room past h)
step_under-same room past b real_time_status h k = refl
step_under-same room past b undefined_real_time h k = refl

fits-more : (room : ℕ) (past : List ℕ) (b : ℕ) → FitsIn room (without_real_time past) → step_of (Some room) past b ≢ too_long
    → FitsIn room (without_real_time (b ∷ past))
fits-more room past b h k = go (sort_of b) refl k
  where
    go : (t : Sort) → sort_of b ≡ t → step_under (Some room) t past b ≢ too_long → FitsIn room (without_real_time (b ∷ past))
    go data_byte e k = simp e ((data_by-fits room b (last_status (without_real_time past)) (last_data (without_real_time past)) h k).0)
    go exclusive_start e k = simp e (le-leb 0 room (omega arith))
    go (voice_status l) e k = simp e tt
    go (common_status l) e k = simp e tt
    go tune_request e k = simp e tt
    go undefined_status e k = simp e tt
    go exclusive_end e k = simp e tt
    go real_time_status e k = simp e h
    go undefined_real_time e k = simp e h

fits_within : (room : ℕ) (past : List ℕ) → AreStepsWithinRoom room past → FitsIn room (without_real_time past)
fits_within room [] a = tt
fits_within room (b ∷ past) a = fits-more room past b (fits_within room past a.1) a.0

-- ---- the limit doesn't matter

pub step_in_room : (room : ℕ) (past : List ℕ) (b : ℕ) → AreStepsWithinRoom room (b ∷ past)
    → step_of (Some room) past b ≡ step_of None past b
step_in_room room past b a = step_under-same room past b (sort_of b) (fits_within room past a.1) a.0

pub open_in_room : (room : ℕ) (past : List ℕ) → AreStepsWithinRoom room past → open_in (Some room) past ≡ open_in None past
open_in_room room past a = open-same room past (fits_within room past a)

module _ (paired : Bool) where
  pub packets_in_room : (room g : ℕ) (past : List ℕ) → AreStepsWithinRoom room past
      → packets_up paired (Some room) g past ≡ packets_up paired None g past
  packets_in_room room g [] a = refl
  packets_in_room room g (b ∷ past) a =
      λ i. packets_in_room room g past a.1 i ++ raised_step paired (meaning1 paired past) g (step_in_room room past b a i)

  pub pieces_in_room : (room g : ℕ) (past : List ℕ) → AreStepsWithinRoom room past
      → back paired (Some room) g past ≡ back paired None g past
  pieces_in_room room g [] a = refl
  pieces_in_room room g (b ∷ past) a =
      λ i. pieces_in_room room g past a.1 i
      ++ pieces_of paired (reverse (packets_in_room room g past a.1 i))
      (raised_step paired (meaning1 paired past) g (step_in_room room past b a i))

  pub lines_in_room : (room g : ℕ) (past : List ℕ) → AreStepsWithinRoom room past
      → lines_up paired (Some room) g past ≡ lines_up paired None g past
  lines_in_room room g [] a = refl
  lines_in_room room g (b ∷ past) a =
      λ i. lines_in_room room g past a.1 i ++ map (line_up g) (kinds_up (meaning1 paired past) (step_in_room room past b a i) (length past))

  pub lines_to_end_in_room : (room g : ℕ) (past : List ℕ) → AreStepsWithinRoom room past
      → lines_up_to_end paired (Some room) g past ≡ lines_up_to_end paired None g past
  lines_to_end_in_room room g past a =
      let begun : Option CutKind → List Listed =
      λ o.
      map (line_up g) (kinds_at_end (option_map {T = Open} (λ begun. (begun.start, begun.kind))
      (option_map (λ kind. record { start = start_in past; kind = kind }) o))) in
      λ i. lines_in_room room g past a i ++ begun (open_in_room room past a i)

-- bytes that are accepted exceed no limit
pub accepted_within : (room : ℕ) (past : List ℕ) → AreAcceptedUp (Some room) past → AreStepsWithinRoom room past
accepted_within room [] a = tt
accepted_within room (b ∷ past) a = (λ e. go (sym (ap refusal_of_step e) ∙ a.0), accepted_within room past a.1)
  where
    go : Some bad.ExclusiveTooLong ≡ None → ⊥
    go e = cc

-- ---- an exclusive that is completed fits

abbrev pub FitsMessage : ℕ → Option Message → Type 0
FitsMessage room (Some (exclusive bytes)) = length bytes ≤ room
FitsMessage room _ = Unit {0}

abbrev FitsStep : ℕ → Step → Type 0
FitsStep room step = FitsMessage room (completed_by step)

common_fits : (room : ℕ) (l : Count) (s b : ℕ) (ds : List ℕ) → FitsStep room (data_under (Some room) (common_status l) s ds b)
common_fits room l s b ds =
    cond_both (eqb (suc (length ds)) (data_count l)) _ _ (FitsStep room) (λ e. tt)
    (λ e. cond_both (ltb (suc (length ds)) (data_count l)) held stray (FitsStep room) (λ e. tt) (λ e. tt))

data_completes : (room : ℕ) (t : Sort) (s b : ℕ) (ds : List ℕ) → FitsStep room (data_under (Some room) t s ds b)
data_completes room (voice_status l) s b ds = cond_both (eqb (suc (length ds) % data_count l) 0) _ _ (FitsStep room) (λ e. tt) (λ e. tt)
data_completes room (common_status l) s b ds = common_fits room l s b ds
data_completes room exclusive_start s b ds =
    cond_both (leb (suc (length ds)) room) _ _ (FitsStep room) (λ e. tt)
    (λ e. cond_both (leb (length ds) room) too_long stray (FitsStep room) (λ e. tt) (λ e. tt))
data_completes room data_byte s b ds = tt
data_completes room tune_request s b ds = tt
data_completes room undefined_status s b ds = tt
data_completes room exclusive_end s b ds = tt
data_completes room real_time_status s b ds = tt
data_completes room undefined_real_time s b ds = tt

data_by-completes : (room b : ℕ) (o : Option ℕ) (ds : List ℕ) → FitsStep room (data_by (Some room) o ds b)
data_by-completes room b None ds = tt
data_by-completes room b (Some s) ds = data_completes room (sort_of s) s b ds

cut_fits : (room : ℕ) (o : Option CutKind) (start : ℕ) (a : AfterCut) (step : Step) → FitsStep room step
    → FitsStep room (cut_or o start a step)
cut_fits room None start a step h = h
cut_fits room (Some what) start after.Begins step h = tt
cut_fits room (Some what) start after.Tune step h = tt
cut_fits room (Some what) start after.Undefined step h = tt
cut_fits room (Some what) start after.Stray step h = tt

end_under : (room : ℕ) (t : Sort) (start : ℕ) (ds : List ℕ) → FitsStep room (end_by (open_under (Some room) t (length ds)) start ds)
end_under room exclusive_start start ds =
    cond_both (leb (length ds) room) (Some kind.Exclusive) None (λ o. FitsStep room (end_by o start ds))
    (λ e. omega (arith, length-reverse ds, leb-true (length ds) room e)) (λ e. tt)
end_under room (voice_status l) start ds =
    cond_both (eqb (length ds) 0) _ _ (λ o. FitsStep room (end_by o start ds)) (λ e. tt)
    (λ e. cond_both (eqb (length ds % data_count l) 0) None (Some kind.Message) (λ o. FitsStep room (end_by o start ds)) (λ e. tt)
    (λ e. tt))
end_under room (common_status l) start ds =
    cond_both (ltb (length ds) (data_count l)) (Some kind.Message) None (λ o. FitsStep room (end_by o start ds)) (λ e. tt) (λ e. tt)
end_under room data_byte start ds = tt
end_under room tune_request start ds = tt
end_under room undefined_status start ds = tt
end_under room exclusive_end start ds = tt
end_under room real_time_status start ds = tt
end_under room undefined_real_time start ds = tt

end_fits : (room : ℕ) (o : Option ℕ) (start : ℕ) (ds : List ℕ) → FitsStep room (end_by (open_by (Some room) o (length ds)) start ds)
end_fits room None start ds = tt
end_fits room (Some s) start ds = end_under room (sort_of s) start ds

pub completed_fits_room : (room : ℕ) (past : List ℕ) (b : ℕ) → FitsMessage room (completed_by (step_of (Some room) past b))
completed_fits_room room past b = go (sort_of b)
  where
    go : (t : Sort) → FitsStep room (step_under (Some room) t past b)
    go data_byte = data_by-completes room b (last_status (without_real_time past)) (last_data (without_real_time past))
    go (voice_status l) = cut_fits room (open_in (Some room) past) (start_in past) after.Begins held tt
    go exclusive_start = cut_fits room (open_in (Some room) past) (start_in past) after.Begins held tt
    go (common_status l) = cut_fits room (open_in (Some room) past) (start_in past) after.Begins held tt
    go tune_request = cut_fits room (open_in (Some room) past) (start_in past) after.Tune (completes (common system.Tune)) tt
    go undefined_status = cut_fits room (open_in (Some room) past) (start_in past) after.Undefined undefined tt
    go exclusive_end = end_fits room (last_status (without_real_time past)) (start_in past) (last_data (without_real_time past))
    go real_time_status = tt
    go undefined_real_time = tt
