-- The first word of a packet tells how many bytes it has.
use Rattle.std.specs.Prelude.{◌≡◌, ℕ, ◌*◌, ◌≤◌, List, ◌++◌, length}
use Rattle.std.proofs.Common.{ap, sym, ◌∙◌, subst, lit<}
use Rattle.std.proofs.Math.Nat.{le_trans, le-add_right}
use Rattle.std.proofs.lemmas.List.{length-append, take-append-le}
use Rattle.item_reader.specs.Cut.{IsLength}
use Rattle.packet_words.specs.Words.{bytes_asked, number_of, words_asked}
use Rattle.packet_words.specs.declared.words.Order.{Order}
pub use Rattle.packet_words.specs.ForProofs.Sizes.{asked_by_word, count_in, size_in}

module _ (order : Order) where
  told_by_word : (front more : List ℕ) → 4 ≤ length front → bytes_asked order (front ++ more) ≡ bytes_asked order front
  told_by_word front more enough =
      let L : ℕ → Type 0 = λ n. 4 ≤ n in
      let longer : 4 ≤ length (front ++ more) =
      subst L (sym (length-append front more)) (le_trans enough (le-add_right (length front) (length more))) in
      asked_by_word order (front ++ more) longer
      ∙ ap (λ xs. 4 * words_asked (number_of order xs)) (take-append-le 4 front more enough)
      ∙ sym (asked_by_word order front enough)

  pub packet_lengths : IsLength (bytes_asked order)
  packet_lengths =
      record { head = 4; some = lit< tt; least = λ bytes. (size_in order bytes).0; most = λ bytes. (size_in order bytes).1; told = told_by_word }
