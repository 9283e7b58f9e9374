-- What a data byte does to a message, by how many data bytes its status says.
use Rattle.std.proofs.Common.{ℕ, ◌≡◌, ◌<◌, ◌≤◌, ◌∙◌, ap, sym, refl, arith, [], Some, None}
use Rattle.std.proofs.lemmas.Bool.Decides.{nat_tests}
use Rattle.midi1_bytes.specs.Sorts.{Count, one, two, Sort, data_byte, voice_status, exclusive_start, common_status, tune_request}
use Rattle.midi1_bytes.specs.Sorts.{undefined_status, exclusive_end, real_time_status, undefined_real_time, count_of, sort_of}
use Rattle.voice_messages.specs.declared.voice1.System.{System}
use Rattle.voice_messages.specs.declared.voice1.Voice1.{Voice1}
use Rattle.midi1_bytes.specs.Messages.{voice, common, voice_of, common_of}
use Rattle.midi1_bytes.specs.Steps.{completes, held}
use Rattle.midi1_bytes.specs.Parsing.{Begun, begun_after, message_step}

pub voice_below : (b : ℕ) (count : Count) → sort_of b ≡ voice_status count → b < 240
unfolding sort_of
voice_below b count e = grind (arith, nat_tests)

common_above : (b : ℕ) (count : Count) → sort_of b ≡ common_status count → 240 ≤ b
unfolding sort_of
common_above b count e = grind (arith, nat_tests)

-- a status byte below F0 is of a voice message, any other of a common one
voice_counted : (b : ℕ) (count : Count) (sort : Sort) → sort_of b ≡ sort → count_of sort ≡ Some count → b < 240 → sort ≡ voice_status count
voice_counted b count (voice_status c) e counted below = let same : c ≡ count = cc in ap voice_status same
voice_counted b count (common_status c) e counted below = absurd (omega (arith, common_above b c e))
voice_counted b count data_byte e counted below = cc
voice_counted b count exclusive_start e counted below = cc
voice_counted b count tune_request e counted below = cc
voice_counted b count undefined_status e counted below = cc
voice_counted b count exclusive_end e counted below = cc
voice_counted b count real_time_status e counted below = cc
voice_counted b count undefined_real_time e counted below = cc

common_counted : (b : ℕ) (count : Count) (sort : Sort) → sort_of b ≡ sort → count_of sort ≡ Some count → 240 ≤ b
    → sort ≡ common_status count
common_counted b count (common_status c) e counted above = let same : c ≡ count = cc in ap common_status same
common_counted b count (voice_status c) e counted above = absurd (omega (arith, voice_below b c e))
common_counted b count data_byte e counted above = cc
common_counted b count exclusive_start e counted above = cc
common_counted b count tune_request e counted above = cc
common_counted b count undefined_status e counted above = cc
common_counted b count exclusive_end e counted above = cc
common_counted b count real_time_status e counted above = cc
common_counted b count undefined_real_time e counted above = cc

pub voice_of_count : (b : ℕ) (count : Count) → count_of (sort_of b) ≡ Some count → b < 240 → sort_of b ≡ voice_status count
voice_of_count b count counted below = voice_counted b count (sort_of b) refl counted below

pub common_of_count : (b : ℕ) (count : Count) → count_of (sort_of b) ≡ Some count → 240 ≤ b → sort_of b ≡ common_status count
common_of_count b count counted above = common_counted b count (sort_of b) refl counted above

pub ruleset counted_status = (voice_of_count, common_of_count)

-- the first of two data bytes is held
pub first_is_held : (sort : Sort) (status byte : ℕ) → count_of sort ≡ Some two → message_step sort status None byte ≡ held
first_is_held (voice_status one) status byte counted = cc
first_is_held (voice_status two) status byte counted = refl
first_is_held (common_status one) status byte counted = cc
first_is_held (common_status two) status byte counted = refl
first_is_held data_byte status byte counted = cc
first_is_held exclusive_start status byte counted = cc
first_is_held tune_request status byte counted = cc
first_is_held undefined_status status byte counted = cc
first_is_held exclusive_end status byte counted = cc
first_is_held real_time_status status byte counted = cc
first_is_held undefined_real_time status byte counted = cc

-- the only one ends the message
pub only_ends : (sort : Sort) (status byte : ℕ) (begun : Begun) → count_of sort ≡ Some one
    → begun_after (message_step sort status None byte) begun ≡ None
only_ends (voice_status one) status byte begun counted = refl
only_ends (voice_status two) status byte begun counted = cc
only_ends (common_status one) status byte begun counted = refl
only_ends (common_status two) status byte begun counted = cc
only_ends data_byte status byte begun counted = refl
only_ends exclusive_start status byte begun counted = refl
only_ends tune_request status byte begun counted = refl
only_ends undefined_status status byte begun counted = refl
only_ends exclusive_end status byte begun counted = refl
only_ends real_time_status status byte begun counted = refl
only_ends undefined_real_time status byte begun counted = refl

-- and so does the second of two
pub second_ends : (sort : Sort) (status first byte : ℕ) (begun : Begun)
    → begun_after (message_step sort status (Some first) byte) begun ≡ None
second_ends (voice_status one) status first byte begun = refl
second_ends (voice_status two) status first byte begun = refl
second_ends (common_status one) status first byte begun = refl
second_ends (common_status two) status first byte begun = refl
second_ends data_byte status first byte begun = refl
second_ends exclusive_start status first byte begun = refl
second_ends tune_request status first byte begun = refl
second_ends undefined_status status first byte begun = refl
second_ends exclusive_end status first byte begun = refl
second_ends real_time_status status first byte begun = refl
second_ends undefined_real_time status first byte begun = refl

pub ruleset counted_data = (first_is_held, only_ends, second_ends)

-- what the only data byte completes
pub voice_of_only : (b only : ℕ) (message : Voice1) → sort_of b ≡ voice_status one → message ≡ voice_of one b only []
    → completes (voice message) ≡ message_step (sort_of b) b None only
voice_of_only b only message e is = ap (λ m. completes (voice m)) is ∙ ap (λ sort. message_step sort b None only) (sym e)

pub common_of_only : (b only : ℕ) (message : System) → sort_of b ≡ common_status one → message ≡ common_of one b only []
    → completes (common message) ≡ message_step (sort_of b) b None only
common_of_only b only message e is = ap (λ m. completes (common m)) is ∙ ap (λ sort. message_step sort b None only) (sym e)
