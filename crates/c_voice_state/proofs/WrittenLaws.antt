-- Facts that are written one by one.
use Rattle.std.proofs.Common.{◌≡◌, ℕ, ◌+◌, ◌-◌, ◌^◌, ◌<◌, ◌≤◌, List, [], ◌∷◌, ◌++◌, length, sym, ap, ◌∙◌, refl, arith, append_assoc, length-append}
use Rattle.std.specs.Prelude.{map, min, slice_set}
use Rattle.std.proofs.lemmas.List.{append-nil, length-map, map-append}
use Rattle.voice_state.specs.Facts.{count_of}
use Rattle.voice_state.specs.declared.fact.Fact.{Fact}
use Rattle.c_answers.specs.Fronts.{with_front}
use Rattle.c_answers.proofs.FrontLaws.{set_front}
use Rattle.c_voice_state.specs.Facts.{numbers_of}
use Rattle.c_voice_state.specs.declared.fact_numbers.FactNumbers.{FactNumbers}

-- so many facts are written, and these are left
pub record AreWritten (facts : List Fact) (old : List FactNumbers) (left : List Fact) (count : ℕ) (buffer : List FactNumbers) : Type 0 where
  pub done : List Fact
  pub parts : facts ≡ done ++ left
  pub count_is : count ≡ length done
  pub front : buffer ≡ with_front (map numbers_of done) old

pub none_yet : (facts : List Fact) (old : List FactNumbers) → AreWritten facts old facts 0 old
none_yet facts old = record { done = []; parts = refl; count_is = refl; front = refl }

module _ (facts : List Fact) (old : List FactNumbers) (fits : length facts ≤ length old) (count : ℕ) (buffer : List FactNumbers) where
  -- there is a place for the next one
  pub place : (fact : Fact) (left : List Fact) → AreWritten facts old (fact ∷ left) count buffer → count < length old
  place fact left are =
      let all : length facts ≡ length are.done + length (fact ∷ left) = ap length are.parts ∙ length-append are.done (fact ∷ left) in
      omega (arith, all, fits, are.count_is)

  pub one_more : (fact : Fact) (left : List Fact) → AreWritten facts old (fact ∷ left) count buffer →
      AreWritten facts old left (count + 1) (slice_set buffer count (numbers_of fact))
  one_more fact left are =
      let size : length (map numbers_of are.done) ≡ count = length-map are.done numbers_of ∙ sym are.count_is in
      record {
        done = are.done ++ fact ∷ [];
        parts = are.parts ∙ sym (append_assoc are.done (fact ∷ []) left);
        count_is = omega (arith, are.count_is, length-append are.done (fact ∷ []));
        front =
            ap (λ b. slice_set b count (numbers_of fact)) are.front
            ∙ ap (λ n. slice_set (with_front (map numbers_of are.done) old) n (numbers_of fact)) (sym size)
            ∙ set_front (map numbers_of are.done) old (numbers_of fact) (omega (arith, size, place fact left are))
            ∙ ap (λ front. with_front front old) (sym (map-append numbers_of are.done (fact ∷ [])));
      }

  pub all_written : AreWritten facts old [] count buffer → buffer ≡ with_front (map numbers_of facts) old
  all_written are =
      are.front ∙ ap (λ done. with_front (map numbers_of done) old) (sym (are.parts ∙ append-nil are.done))

-- so many facts are counted, and these are left
pub record AreCounted (facts left : List Fact) (count : ℕ) : Type 0 where
  pub done : List Fact
  pub parts : facts ≡ done ++ left
  pub count_is : count ≡ count_of done

pub none_counted : (facts : List Fact) → AreCounted facts facts 0
none_counted facts = record { done = []; parts = refl; count_is = refl }

-- one more, if that is no number above all of 64 bits
pub one_counted : (facts : List Fact) (count : ℕ) (fact : Fact) (left : List Fact) → AreCounted facts (fact ∷ left) count
    → AreCounted facts left (min (count + 1) (2 ^ 64 - 1))
one_counted facts count fact left are =
    record {
      done = are.done ++ fact ∷ [];
      parts = are.parts ∙ sym (append_assoc are.done (fact ∷ []) left);
      count_is = omega (arith, are.count_is, length-append are.done (fact ∷ []));
    }

pub all_counted : (facts : List Fact) (count : ℕ) → AreCounted facts [] count → count ≡ count_of facts
all_counted facts count are = are.count_is ∙ ap count_of (sym (are.parts ∙ append-nil are.done))
