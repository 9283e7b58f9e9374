-- Which bytes are only held or complete a voice message.
use Rattle.std.proofs.Common.{ℕ, ◌≡◌, ◌≤◌, ◌∙◌, ap, arith, refl, sym, false, [], ◌∷◌, Some, None}
use Rattle.voice_messages.specs.declared.voice1.Voice1.{Voice1}
use Rattle.midi1_bytes.specs.Messages.{voice, voice_of}
use Rattle.midi1_bytes.specs.Sorts.{one, two, Sort, data_byte, voice_status, exclusive_start, common_status, tune_request}
use Rattle.midi1_bytes.specs.Sorts.{undefined_status, exclusive_end, real_time_status, undefined_real_time, count_of, sort_of}
use Rattle.midi1_bytes.specs.Plain.{is_plain}
use Rattle.midi1_bytes.specs.Steps.{completes}
use Rattle.midi1_bytes.specs.Parsing.{Begun, begun_message, begun_exclusive, ended_by, message_step, Parsing, parse, parse_under}
use Rattle.midi1_bytes.proofs.CountLaws.{common_of_count, voice_of_count, first_is_held}
use Rattle.midi1_bytes.proofs.SortLaws.{data_below}

-- the second data byte of a voice message completes it
pub two_completes : (status first byte : ℕ) (message : Voice1) → sort_of status ≡ voice_status two
    → message ≡ voice_of two status byte (first ∷ []) → message_step (sort_of status) status (Some first) byte ≡ completes (voice message)
two_completes status first byte message sort is =
    ap (λ s. message_step s status (Some first) byte) sort ∙ ap (λ m. completes (voice m)) (sym is)

-- and so does the only one
pub one_completes : (status byte : ℕ) (message : Voice1) → sort_of status ≡ voice_status one → message ≡ voice_of one status byte []
    → message_step (sort_of status) status None byte ≡ completes (voice message)
one_completes status byte message sort is = ap (λ s. message_step s status None byte) sort ∙ ap (λ m. completes (voice m)) (sym is)

-- those of a common message complete none
pub common_two : (status first byte : ℕ) → count_of (sort_of status) ≡ Some two → 240 ≤ status
    → is_plain (message_step (sort_of status) status (Some first) byte) ≡ false
common_two status first byte counted above =
    ap (λ s. is_plain (message_step s status (Some first) byte)) (common_of_count status two counted above)

pub common_one : (status byte : ℕ) → count_of (sort_of status) ≡ Some one → 240 ≤ status
    → is_plain (message_step (sort_of status) status None byte) ≡ false
common_one status byte counted above = ap (λ s. is_plain (message_step s status None byte)) (common_of_count status one counted above)

pub ruleset plain_data = (two_completes, one_completes, common_two, common_one, voice_of_count, first_is_held)

-- a status byte cuts off what is open, or is Real Time
pub status_plain : (parsing : Parsing) (begun : Begun) (offset byte : ℕ) → parsing.begun ≡ Some begun → 128 ≤ byte
    → is_plain (parse parsing offset byte).step ≡ false
status_plain parsing begun offset byte is above = by_sort (sort_of byte) refl
  where
    ended : (b : Begun) → is_plain (ended_by (Some b)) ≡ false
    ended (begun_message start status first) = refl
    ended (begun_exclusive start bytes) = refl

    by_sort : (sort : Sort) → sort_of byte ≡ sort → is_plain (parse_under sort parsing offset byte).step ≡ false
    by_sort data_byte e = absurd (omega (arith, above, data_below byte e))
    by_sort (voice_status count) e = rw is refl
    by_sort exclusive_start e = rw is refl
    by_sort (common_status count) e = rw is refl
    by_sort tune_request e = rw is refl
    by_sort undefined_status e = rw is refl
    by_sort exclusive_end e = rw is (ended begun)
    by_sort real_time_status e = refl
    by_sort undefined_real_time e = refl
