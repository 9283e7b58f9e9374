-- What a parser holds after a list of bytes says what each byte does.
use Rattle.std.proofs.Common.{ℕ, ◌%◌, ◌-◌, ◌≡◌, ◌∙◌, ap, sym, refl, List, [], ◌∷◌, ◌++◌, length}
use Rattle.std.proofs.Common.{reverse, suc, Option, Some, None, Bool, true, false, cond, arith}
use Rattle.std.proofs.lemmas.Bool.{leb-false, lt-leb, lt-ltb, le-ltb, le-leb, eq-eqb, ne_eqb, eqb-true, eqb-false}
use Rattle.std.proofs.lemmas.List.{reverse-append, length-reverse}
use Rattle.std.specs.Option.{option_map, option_and_then}
use lib.Dec.{ltb, eqb}
use Rattle.midi1_bytes.specs.declared.step.CutKind.{CutKind}
use Rattle.midi1_bytes.specs.declared.step.CutKind.TheVariants as kind
use Rattle.midi1_bytes.specs.declared.step.AfterCut.{AfterCut}
use Rattle.midi1_bytes.specs.declared.step.AfterCut.TheVariants as after
use Rattle.voice_messages.specs.declared.voice1.System.TheVariants as system
use Rattle.midi1_bytes.specs.Messages.{common}
use Rattle.midi1_bytes.specs.Sorts.{Count, one, two, Sort, data_byte, voice_status, exclusive_start, common_status, tune_request}
use Rattle.midi1_bytes.specs.Sorts.{undefined_status, exclusive_end, real_time_status, undefined_real_time, sort_of, is_real_time}
use Rattle.midi1_bytes.specs.Stream.{Open, fits, without_real_time, last_status, last_data, open_in, open_by, open_under}
use Rattle.midi1_bytes.specs.Stream.{open_at_end, offset_before, size_after_start, start_by, start_in, running_by, running_under}
use Rattle.midi1_bytes.specs.Steps.{Step, held, completes, undefined, cut_or, end_by, data_by, data_under, step_under, step_of}
use Rattle.midi1_bytes.specs.Parsing.{Begun, begun_exclusive, open_begun, open_of, cut_by, ended_by}
use Rattle.midi1_bytes.specs.Parsing.{begun_by, parse_data, parse_under, parse, held_over}

-- ---- what is open is what the parser holds

abbrev opened : ℕ → Option CutKind → Option Open
opened start what = option_map (λ k. record { start = start; kind = k }) what

-- what the parser holds of what is open
abbrev begun_of : ℕ → List ℕ → ℕ → Option CutKind → Option Begun
begun_of start ds s what = option_and_then (λ k. Some (begun_by k start ds s)) what

-- what the parser holds open after this status and these data bytes
abbrev begun_on : ℕ → Option ℕ → ℕ → List ℕ → Option Begun
begun_on room status start ds = option_and_then (λ k. option_map (begun_by k start ds) status) (open_by (Some room) status (length ds))

open-begun : (start : ℕ) (ds : List ℕ) (s : ℕ) (what : Option CutKind)
    → option_map open_begun (begun_of start ds s what) ≡ opened start what
open-begun start ds s None = refl
open-begun start ds s (Some kind.Message) = refl
open-begun start ds s (Some kind.Exclusive) = refl

open-on : (room : ℕ) (status : Option ℕ) (start : ℕ) (ds : List ℕ)
    → option_map open_begun (begun_on room status start ds) ≡ opened start (open_by (Some room) status (length ds))
open-on room None start ds = refl
open-on room (Some s) start ds = open-begun start ds s (open_under (Some room) (sort_of s) (length ds))

pub open-held : (room : ℕ) (past : List ℕ) → open_of (held_over room past) ≡ open_at_end (Some room) past
open-held room past = open-on room (last_status (without_real_time past)) (start_in past) (last_data (without_real_time past))

cut-opened : (start : ℕ) (what : Option CutKind) (besides : AfterCut) (step : Step)
    → cut_by (opened start what) besides step ≡ cut_or what start besides step
cut-opened start None besides step = refl
cut-opened start (Some what) besides step = refl

cut-held : (room : ℕ) (past : List ℕ) (besides : AfterCut) (step : Step)
    → cut_by (open_of (held_over room past)) besides step ≡ cut_or (open_in (Some room) past) (start_in past) besides step
cut-held room past besides step =
    ap (λ o. cut_by o besides step) (open-held room past) ∙ cut-opened (start_in past) (open_in (Some room) past) besides step

ended-begun : (start : ℕ) (ds : List ℕ) (s : ℕ) (what : Option CutKind) → ended_by (begun_of start ds s what) ≡ end_by what start ds
ended-begun start ds s None = refl
ended-begun start ds s (Some kind.Message) = refl
ended-begun start ds s (Some kind.Exclusive) = refl

ended-on : (room : ℕ) (status : Option ℕ) (start : ℕ) (ds : List ℕ)
    → ended_by (begun_on room status start ds) ≡ end_by (open_by (Some room) status (length ds)) start ds
ended-on room None start ds = refl
ended-on room (Some s) start ds = ended-begun start ds s (open_under (Some room) (sort_of s) (length ds))

-- ---- a data byte

-- the offset before this many bytes with one more data byte, at this offset
abbrev before_more : ℕ → (ℕ → ℕ) → ℕ → ℕ
before_more offset before size = cond (eqb size 0) offset (before (size - 1))

abbrev DataLaw : ℕ → ℕ → ℕ → ℕ → (ℕ → ℕ) → Sort → List ℕ → Type 0
DataLaw room s b offset before t ds =
    parse_data room (running_under t s) (begun_of (before (size_after_start t (length ds))) ds s (open_under (Some room) t (length ds)))
    offset b
    ≡ record {
      step = data_under (Some room) t s ds b;
      after = record {
        room = room;
        running = running_under t s;
        begun =
            begun_of (before_more offset before (size_after_start t (suc (length ds)))) (b ∷ ds) s
            (open_under (Some room) t (suc (length ds)));
      };
    }

reverse-more : (b : ℕ) (ds : List ℕ) → reverse ds ++ b ∷ [] ≡ reverse (b ∷ ds)
reverse-more b ds = let first : List ℕ = b ∷ [] in sym (reverse-append first ds)

fits_less : (room n : ℕ) → fits (Some room) n ≡ false → fits (Some room) (suc n) ≡ false
fits_less room n h = lt-leb (suc n) room (omega (arith, leb-false n room h))

module _ (room s b offset : ℕ) (before : ℕ → ℕ) where
  one_case : (ds : List ℕ) → sort_of s ≡ voice_status one → DataLaw room s b offset before (voice_status one) ds
  one_case [] e = simp e
  one_case (d ∷ ds) e =
      let whole : eqb (suc (length ds)) 0 ≡ false = ne_eqb (suc (length ds)) 0 (λ z. omega arith) in
      let more : eqb (suc (suc (length ds))) 0 ≡ false = ne_eqb (suc (suc (length ds))) 0 (λ z. omega arith) in
      let now : eqb (suc (length ds) % 1) 0 ≡ true = eq-eqb _ _ (omega arith) in
      let next : eqb (suc (suc (length ds)) % 1) 0 ≡ true = eq-eqb _ _ (omega arith) in
      simp (whole, more, now, next, e)

  two_case : (ds : List ℕ) → sort_of s ≡ voice_status two → DataLaw room s b offset before (voice_status two) ds
  two_case [] e = simp e
  two_case (d ∷ ds) e = which (eqb (suc (length ds) % 2) 0) refl
    where
      which : (t : Bool) → eqb (suc (length ds) % 2) 0 ≡ t → DataLaw room s b offset before (voice_status two) (d ∷ ds)
      which true q =
          let whole : eqb (suc (length ds)) 0 ≡ false = ne_eqb (suc (length ds)) 0 (λ z. omega arith) in
          let more : eqb (suc (suc (length ds))) 0 ≡ false = ne_eqb (suc (suc (length ds))) 0 (λ z. omega arith) in
          let even : suc (length ds) % 2 ≡ 0 = eqb-true _ _ q in
          let odd : suc (suc (length ds)) % 2 ≡ 1 = omega arith in
          let later : ltb 2 (suc (suc (length ds))) ≡ true = lt-ltb _ _ (omega arith) in
          simp (whole, more, q, odd, later, e)
      which false q =
          let whole : eqb (suc (length ds)) 0 ≡ false = ne_eqb (suc (length ds)) 0 (λ z. omega arith) in
          let more : eqb (suc (suc (length ds))) 0 ≡ false = ne_eqb (suc (suc (length ds))) 0 (λ z. omega arith) in
          let odd : suc (length ds) % 2 ≡ 1 = omega (arith, eqb-false _ _ q) in
          let even : suc (suc (length ds)) % 2 ≡ 0 = omega arith in
          simp (whole, more, odd, even, e)

  common_case : (l : Count) (ds : List ℕ) → sort_of s ≡ common_status l → DataLaw room s b offset before (common_status l) ds
  common_case one [] e = simp e
  common_case two [] e = simp e
  common_case one (d ∷ ds) e =
      let over : ltb (suc (length ds)) 1 ≡ false = le-ltb _ _ (omega arith) in
      let more : ltb (suc (suc (length ds))) 1 ≡ false = le-ltb _ _ (omega arith) in
      let other : eqb (suc (suc (length ds))) 1 ≡ false = ne_eqb _ _ (λ z. omega arith) in
      simp (over, more, other)
  common_case two (d ∷ []) e = simp e
  common_case two (d ∷ c ∷ ds) e =
      let over : ltb (suc (suc (length ds))) 2 ≡ false = le-ltb _ _ (omega arith) in
      let more : ltb (suc (suc (suc (length ds)))) 2 ≡ false = le-ltb _ _ (omega arith) in
      let other : eqb (suc (suc (suc (length ds)))) 2 ≡ false = ne_eqb _ _ (λ z. omega arith) in
      simp (over, more, other)

  exclusive_case : (ds : List ℕ) → sort_of s ≡ exclusive_start → DataLaw room s b offset before exclusive_start ds
  exclusive_case ds e = which (fits (Some room) (length ds)) (fits (Some room) (suc (length ds))) refl refl
    where
      which : (t u : Bool) → fits (Some room) (length ds) ≡ t → fits (Some room) (suc (length ds)) ≡ u
          → DataLaw room s b offset before exclusive_start ds
      which true true q k =
          let later : before_more offset before (suc (length ds)) ≡ before (length ds) =
          go (ne_eqb (suc (length ds)) 0 (λ z. omega arith)) (omega arith) in
          simp (q, k, length-reverse ds) (ap (λ bytes.
          record { step = held; after = record { room = room; running = None; begun = Some (begun_exclusive (before (length ds)) bytes) } })
          (reverse-more b ds)
          ∙ ap (λ start.
          record { step = held; after = record { room = room; running = None; begun = Some (begun_exclusive start (reverse (b ∷ ds))) } })
          (sym later))
        where
          go : eqb (suc (length ds)) 0 ≡ false → suc (length ds) - 1 ≡ length ds
              → before_more offset before (suc (length ds)) ≡ before (length ds)
          go f g = rw (f, g)
      which true false q k = simp (q, k, length-reverse ds)
      which false u q k = simp (q, fits_less room (length ds) q)

  data-under : (t : Sort) → sort_of s ≡ t → (ds : List ℕ) → DataLaw room s b offset before t ds
  data-under (voice_status one) e ds = one_case ds e
  data-under (voice_status two) e ds = two_case ds e
  data-under (common_status l) e ds = common_case l ds e
  data-under exclusive_start e ds = exclusive_case ds e
  data-under _ e ds = refl

-- ---- a byte

abbrev status_of : List ℕ → Option ℕ
status_of past = last_status (without_real_time past)

abbrev data_of : List ℕ → List ℕ
data_of past = last_data (without_real_time past)

abbrev Means : ℕ → List ℕ → ℕ → Type 0
Means room past b =
    parse (held_over room past) (length past) b ≡ record { step = step_of (Some room) past b; after = held_over room (b ∷ past) }

data-held : (room : ℕ) (past : List ℕ) (b : ℕ) → sort_of b ≡ data_byte → Means room past b
data-held room past b e = simp e (go (status_of past) (data_of past))
  where
    go : (status : Option ℕ) (ds : List ℕ) →
        parse_data room (running_by status) (begun_on room status (start_by status (length ds) past) ds) (length past) b
        ≡ record {
          step = data_by (Some room) status ds b;
          after = record {
            room = room;
            running = running_by status;
            begun = begun_on room status (start_by status (suc (length ds)) (b ∷ past)) (b ∷ ds);
          };
        }
    go None ds = refl
    go (Some s) ds = simp e (data-under room s b (length past) (λ size. offset_before size past) (sort_of s) refl ds)

real-start : (status : Option ℕ) (size : ℕ) (past : List ℕ) (b : ℕ) → is_real_time (sort_of b) ≡ true
    → start_by status size (b ∷ past) ≡ start_by status size past
real-start None size past b e = refl
real-start (Some s) size past b e = rw e

real-held : (room : ℕ) (past : List ℕ) (b : ℕ) → is_real_time (sort_of b) ≡ true → held_over room past ≡ held_over room (b ∷ past)
real-held room past b e =
    let start : start_in past ≡ start_by (status_of past) (length (data_of past)) (b ∷ past) =
    sym (real-start (status_of past) (length (data_of past)) past b e) in
    rw e (ap (λ at. record { room = room; running = running_by (status_of past); begun = begun_on room (status_of past) at (data_of past) })
    start)

-- a Real Time byte leaves the state as it is
real-time-parsed : (room : ℕ) (past : List ℕ) (b : ℕ) (t : Sort) → sort_of b ≡ t → is_real_time t ≡ true →
    parse_under t (held_over room past) (length past) b ≡ record { step = step_under (Some room) t past b; after = held_over room past } →
    Means room past b
real-time-parsed room past b t e real row =
    ap (λ sort. parse_under sort (held_over room past) (length past) b) e
    ∙ row
    ∙ ap (λ sort. record { step = step_under (Some room) sort past b; after = held_over room past }) (sym e)
    ∙ ap (λ held_after. record { step = step_of (Some room) past b; after = held_after }) (real-held room past b (ap is_real_time e ∙ real))

pub parse-held : (room : ℕ) (past : List ℕ) (b : ℕ) → Means room past b
parse-held room past b = go (sort_of b) refl
  where
    go : (t : Sort) → sort_of b ≡ t → Means room past b
    go real_time_status e = real-time-parsed room past b real_time_status e refl refl
    go undefined_real_time e = real-time-parsed room past b undefined_real_time e refl refl
    go (voice_status one) e = simp (e, cut-held room past after.Begins held)
    go (voice_status two) e = simp (e, cut-held room past after.Begins held)
    go (common_status one) e = simp (e, cut-held room past after.Begins held)
    go (common_status two) e = simp (e, cut-held room past after.Begins held)
    go exclusive_start e =
        let least : fits (Some room) 0 ≡ true = le-leb 0 room (omega arith) in
        simp (e, least, cut-held room past after.Begins held)
    go tune_request e = simp (e, cut-held room past after.Tune (completes (common system.Tune)))
    go undefined_status e = simp (e, cut-held room past after.Undefined undefined)
    go exclusive_end e = simp (e, ended-on room (status_of past) (start_in past) (data_of past))
    go data_byte e = data-held room past b e
