-- Packets that are cut from bytes one after another.
use Rattle.std.proofs.Common.{◌≡◌, ◌<◌, ◌≤◌, ◌+◌, ◌*◌, ◌-◌, ◌/◌, ◌∙◌, ℕ, zero, suc}
use Rattle.std.proofs.Common.{List, [], ◌∷◌, ◌++◌, length, take, drop, refl, ap, sym, arith, length-append}
use Rattle.std.proofs.Math.Seq.{take-add, take-take}
use Rattle.std.proofs.lemmas.List.{append-nil, length-take-le, take-append-drop}
use Rattle.std.proofs.lemmas.List.Elements.{All-nil, All-push}
use Rattle.std.proofs.lemmas.List.Folds.{concat-append}
use Rattle.std.proofs.lemmas.Grind.{flat_map-append}
use Rattle.std.specs.Prelude.{All, Some}
use Rattle.std.specs.List.{concat}
use Rattle.packet_words.specs.ForProofs.Sizes.{asked_by_word}
use Rattle.packet_words.specs.Words.{IsPacket, first_words, number_of, word_at, words_asked, words_of}
use Rattle.packet_words.specs.declared.words.Order.{Order}
use Rattle.c_answers.specs.Blocks.{nothing_taken}
use Rattle.c_answers.specs.Fronts.{with_front}
use Rattle.c_answers.specs.Numbers as numbers
use Rattle.c_answers.specs.declared.status.Status.{Status}
use Rattle.c_answers.proofs.FrontLaws.{written_behind}
use Rattle.c_pure.specs.Packets.{AreCut, stop_before, words_by}

-- ---- the packet at the front

-- as many bytes as the first word asks for are a packet
pub own_packet : (order : Order) (bytes : List ℕ) (count : ℕ) → count ≡ words_asked (word_at order bytes 0) → 0 < count
    → 4 * count ≤ length bytes → IsPacket order (take (4 * count) bytes)
own_packet order bytes count asked some there =
    let own : List ℕ = take (4 * count) bytes in
    let size : length own ≡ 4 * count = length-take-le (4 * count) bytes there in
    let word : word_at order own 0 ≡ word_at order bytes 0 = ap (number_of order) (take-take 4 (4 * count) bytes (omega (arith, some))) in
    size ∙ ap (λ n. 4 * n) (asked ∙ ap words_asked (sym word)) ∙ sym (asked_by_word order own (omega (arith, size, some)))

first_count : (order : Order) (bytes : List ℕ) (n : ℕ) → length (first_words order bytes n) ≡ n
first_count order bytes zero = refl
first_count order bytes (suc n) =
    omega (arith, first_count order bytes n, length-append (first_words order bytes n) (word_at order bytes n ∷ []))

-- and its words are so many
pub own_count : (order : Order) (bytes : List ℕ) (count : ℕ) → 4 * count ≤ length bytes
    → length (words_of order (take (4 * count) bytes)) ≡ count
own_count order bytes count there =
    first_count order (take (4 * count) bytes) (length (take (4 * count) bytes) / 4)
    ∙ omega (arith, length-take-le (4 * count) bytes there)

-- ---- the packets so far

-- what was cut so far
pub record AreSoFar (order : Order) (bytes old : List ℕ) (taken written : ℕ) (buffer : List ℕ) : Type 0 where
  pub packets : List (List ℕ)
  pub whole : All (IsPacket order) packets
  pub taken_are : take taken bytes ≡ concat packets
  pub taken_is : taken ≡ length (concat packets)
  pub within : taken ≤ length bytes
  pub written_is : written ≡ length (words_by order packets)
  pub fits : written ≤ length old
  pub front : buffer ≡ with_front (words_by order packets) old

pub none_yet : (order : Order) (bytes old : List ℕ) → AreSoFar order bytes old 0 0 old
none_yet order bytes old =
    record {
      packets = [];
      whole = All-nil (IsPacket order);
      taken_are = refl;
      taken_is = refl;
      within = omega arith;
      written_is = refl;
      fits = omega arith;
      front = refl;
    }

module _ (order : Order) (bytes old : List ℕ) (taken written : ℕ) (buffer : List ℕ)
    (are : AreSoFar order bytes old taken written buffer) where
  pub one_more : (count : ℕ) (words rest : List ℕ) →
      let own = take (4 * count) (drop taken bytes) in
      count ≡ length words → 4 * count ≤ length bytes - taken → count ≤ length old - written → IsPacket order own
      → words ≡ words_of order own → rest ≡ with_front words (drop written buffer) →
      AreSoFar order bytes old (taken + 4 * count) (written + count) (take written buffer ++ rest)
  one_more count words rest size there room packet words_are rest_is =
      let own : List ℕ = take (4 * count) (drop taken bytes) in
      let packets : List (List ℕ) = are.packets ++ own ∷ [] in
      let joined : concat packets ≡ concat are.packets ++ own =
      concat-append are.packets (own ∷ []) ∙ ap (λ more. concat are.packets ++ more) (append-nil own) in
      let more : words_by order packets ≡ words_by order are.packets ++ words =
      flat_map-append (words_of order) are.packets (own ∷ [])
      ∙ ap (λ more. words_by order are.packets ++ more) (append-nil (words_of order own))
      ∙ ap (λ last. words_by order are.packets ++ last) (sym words_are) in
      let all : take (taken + 4 * count) bytes ≡ concat packets =
      take-add taken (4 * count) bytes ∙ ap (λ front. front ++ own) are.taken_are ∙ sym joined in
      record {
        packets = packets;
        whole = All-push (IsPacket order) are.packets own are.whole packet;
        taken_are = all;
        taken_is = sym (length-take-le (taken + 4 * count) bytes (omega (arith, there, are.within))) ∙ ap length all;
        within = omega (arith, there, are.within);
        written_is =
            omega (arith, size, are.written_is, ap length more, length-append (words_by order are.packets) words);
        fits = omega (arith, room, are.fits);
        front =
            written_behind (words_by order are.packets) words old buffer rest written are.written_is are.front rest_is
            ∙ ap (λ front. with_front front old) (sym more);
      }

  pub ends_there : (why : Status) (need : ℕ) → stop_before order (length old - written) (drop taken bytes) ≡ Some (why, need) →
      AreCut order bytes old (numbers.number_of why) buffer (record nothing_taken { taken = taken; written = written; need = need })
  ends_there why need stop =
      record {
        packets = are.packets;
        rest = drop taken bytes;
        why = why;
        need = need;
        whole = are.whole;
        bytes_are = sym (take-append-drop taken bytes) ∙ ap (λ front. front ++ drop taken bytes) are.taken_are;
        end = ap (λ n. stop_before order (length old - n) (drop taken bytes)) (sym are.written_is) ∙ stop;
        answer = refl;
        front = are.front;
        block_is = λ i. record nothing_taken { taken = are.taken_is i; written = are.written_is i; need = need };
      }
