-- One more packet is taken.
use Rattle.std.proofs.Common.{◌≡◌, ◌<◌, ◌≤◌, ℕ, ◌+◌, ◌*◌, ◌==◌, Bool, true, false, cond, List, [], ◌∷◌, ◌++◌}
use Rattle.std.proofs.Common.{length, Option, None, Some, refl, ap, sym, ◌∙◌, subst, arith, length-append}
use Rattle.std.specs.Prelude.{IsTrue, ◌↔◌, reverse}
use Rattle.std.proofs.lemmas.Bool.{cond_both, eqb-true}
use Rattle.std.proofs.lemmas.List.{length-reverse}
use Rattle.std.specs.Option.{option_to_list}
use Rattle.ump_grammar.specs.declared.packet.Packet.{Packet}
use Rattle.ump_grammar.specs.declared.packet.Packet.TheVariants as packet
use Rattle.ump_grammar.specs.Ranges.{IsPacket}
use Rattle.midi1_bytes.specs.Stream.{open_in}
use Rattle.midi_meaning.specs.declared.listed.Listed.{Listed}
use Rattle.midi_meaning.specs.Back.{back}
use Rattle.midi_meaning.specs.Lanes.{pair_by, pair_of, pairs_over}
use Rattle.midi_meaning.specs.Laws.{CarriedPacketsHaveAPiece}
use Rattle.midi_meaning.specs.Listing.{is_carried, line_of, lines_over, listed}
use Rattle.midi_meaning.specs.Parts.{Placed, parts_of, whole_of}
use Rattle.midi_meaning.specs.Plain.{plain_piece, voice_messages}
use Rattle.midi_meaning.specs.UpLaws.{RoomsThatAreNotReachedDoNotMatterInBytes}
use Rattle.down_translator.specs.declared.carried.Carried.{Carried}
use Rattle.down_translator.specs.Carried.{line_in}
use Rattle.midi_meaning.specs.Styles.{plain_style}
use Rattle.down_translator.specs.Held.{begun_at_in, down_after, new_down, paired_of, whole_in}
use Rattle.down_translator.specs.Recording.{packets_of}
use Rattle.down_translator.specs.Step.{IsStep, piece_of}
use Rattle.self_test.specs.declared.counts.Counts.{Counts}
use Rattle.self_test.specs.declared.course.Course.{Course}
use Rattle.self_test.specs.Counts.{bytes_over, counts_with}
use Rattle.self_test.specs.ForProofs.Held.{ComesBack, HasReturned, HasTaken}
use Rattle.self_test.specs.Played.{ArePlayed, IsPlayed}
use Rattle.self_test.proofs.BackLaws.{IsReturned, returned_after, returned_piece, returned_short, steps_within}
use Rattle.self_test.proofs.PlayedLaws.{IsRead, messages_played, read_all}

-- ---- a packet that is played

pub is_packet : (p : Packet) → IsPlayed p → IsPacket p
is_packet (packet.Voice2 group message) h = (omega (arith, h.0), h.1)
is_packet _ h = absurd h

pub is_returned : (p : Packet) → IsPlayed p → IsReturned p
is_returned (packet.Voice2 group message) h = h.2
is_returned _ h = absurd h

pub is_read : (p : Packet) (bytes : List ℕ) → IsPlayed p → open_in (Some 6) bytes ≡ None → ArePlayed bytes
    → IsRead bytes (plain_piece false (whole_in (new_down false plain_style 6) p) p)
is_read (packet.Voice2 group message) bytes h closed played =
    read_all (voice_messages false message) bytes (messages_played message h.1 h.2) closed played
is_read _ bytes h closed played = absurd h

module _ (past : List Placed) (old : Course) (offset : ℕ) (p : Packet) (carried : Carried) (played : IsPlayed p) (taken : HasTaken past old)
    (step : IsStep old.down offset p carried) where
  own_piece : carried.piece.now ≡ plain_piece false (whole_in (new_down false plain_style 6) p) p
  own_piece = step.piece ∙ ap (λ state. piece_of state p) taken.down_is ∙ returned_piece p (is_returned p played)

  pub piece_is_read : IsRead (bytes_over (packets_of past)) carried.piece.now
  piece_is_read =
      let R : List ℕ → Type 0 = λ xs. IsRead (bytes_over (packets_of past)) xs in
      subst R (sym own_piece) (is_read p (bytes_over (packets_of past)) played taken.closed taken.returned.played)

  pub piece_is_short : length carried.piece.now ≤ 12
  piece_is_short =
      let L : List ℕ → Type 0 = λ xs. length xs ≤ 12 in
      subst L (sym own_piece) (returned_short p (is_returned p played))

-- ---- what is counted of it

pair_count : (group : ℕ) (t : Bool) (piece : List ℕ) → (IsTrue t ↔ (0 < length piece))
    → length (pair_by (Some group) t piece) ≡ cond (length piece == 0) 0 1
pair_count group true [] h = absurd (omega (arith, h.0 refl))
pair_count group true (byte ∷ bytes) h =
    cond_both (length (byte ∷ bytes) == 0) 0 1 (λ n. 1 ≡ n) (λ e. absurd (omega (arith, eqb-true (length (byte ∷ bytes)) 0 e))) (λ e. refl)
pair_count group false [] h = refl
pair_count group false (byte ∷ bytes) h = cc (h.1 (omega arith))

-- the pair, the line and the bytes of a packet after others
record IsCounted (past : List Placed) (offset : ℕ) (p : Packet) : Type 0 where
  pairs : length (pair_of false (packets_of past) p)
      ≡ cond (length (plain_piece false (whole_in (new_down false plain_style 6) p) p) == 0) 0 1
  line : listed false (begun_at_in (new_down false plain_style 6) p) offset p
      ≡ line_of false None (parts_of past) (record { offset = offset; packet = p })
  piece : plain_piece false (whole_of (packets_of past) p) p ≡ plain_piece false (whole_in (new_down false plain_style 6) p) p

is_counted : CarriedPacketsHaveAPiece false → (past : List Placed) (offset : ℕ) (p : Packet) → IsPlayed p → IsCounted past offset p
is_counted pieces past offset (packet.Voice2 group message) h = record {
  pairs =
      pair_count group (is_carried false None (packet.Voice2 group message)) (plain_piece false None (packet.Voice2 group message))
      (pieces None (packet.Voice2 group message));
  line = refl;
  piece = refl;
}
is_counted pieces past offset _ h = absurd h

one_line : (line : Option Listed) → length (option_to_list line) ≤ 1
one_line None = omega arith
one_line (Some line) = omega arith

-- ---- one more

module _ (pieces : CarriedPacketsHaveAPiece false) (rooms : RoomsThatAreNotReachedDoNotMatterInBytes false) (past : List Placed)
    (old new : Course) (offset : ℕ) (p : Packet) (carried : Carried) (again : ℕ) (played : IsPlayed p) (taken : HasTaken past old)
    (step : IsStep old.down offset p carried) where
  abbrev pub bytes : List ℕ
  bytes = bytes_over (packets_of past)

  abbrev pub piece : List ℕ
  piece = plain_piece false (whole_in (new_down false plain_style 6) p) p

  counted : IsCounted past offset p
  counted = is_counted pieces past offset p played

  piece_is : carried.piece.now ≡ piece
  piece_is = own_piece past old offset p carried played taken step

  line_is : line_in carried ≡ line_of false None (parts_of past) (record { offset = offset; packet = p })
  line_is = step.line ∙ ap (λ state. listed (paired_of state) (begun_at_in state p) offset p) taken.down_is ∙ counted.line

  abbrev pub now : List ℕ
  now = reverse carried.piece.now ++ bytes

  now_is : now ≡ bytes_over (p ∷ packets_of past)
  now_is = ap (λ xs. reverse xs ++ bytes) (piece_is ∙ sym counted.piece)

  carried_is : old.counts.carried + cond (length carried.piece.now == 0) 0 1 ≡ length (pairs_over false (p ∷ packets_of past))
  carried_is =
      let one : length (pair_of false (packets_of past) p) ≡ cond (length carried.piece.now == 0) 0 1 =
      counted.pairs ∙ ap (λ xs. cond (length xs == 0) 0 1) (sym piece_is) in
      let before : old.counts.carried ≡ length (pairs_over false (packets_of past)) = ap (λ (c : Counts). c.carried) taken.counts_are in
      let all = length-append (pairs_over false (packets_of past)) (pair_of false (packets_of past) p) in
      omega (arith, one, before, all)

  listed_is : old.counts.listed + length (option_to_list (line_in carried))
      ≡ length (lines_over false None (record { offset = offset; packet = p } ∷ past))
  listed_is =
      let line : Option Listed = line_of false None (parts_of past) (record { offset = offset; packet = p }) in
      let one : length (option_to_list (line_in carried)) ≡ length (option_to_list line) = ap (λ o. length (option_to_list o)) line_is in
      let before : old.counts.listed ≡ length (lines_over false None past) = ap (λ (c : Counts). c.listed) taken.counts_are in
      let all = length-append (lines_over false None past) (option_to_list line) in
      omega (arith, one, before, all)

  bytes_are : old.counts.bytes + length carried.piece.now ≡ length (bytes_over (p ∷ packets_of past))
  bytes_are =
      let before : old.counts.bytes ≡ length bytes = ap (λ (c : Counts). c.bytes) taken.counts_are in
      let both : length now ≡ length (reverse carried.piece.now) + length bytes = length-append (reverse carried.piece.now) bytes in
      let turned : length (reverse carried.piece.now) ≡ length carried.piece.now = length-reverse carried.piece.now in
      let all : length now ≡ length (bytes_over (p ∷ packets_of past)) = ap length now_is in
      omega (arith, before, both, turned, all)

  again_is : ArePlayed now → again + length (back false (Some 6) 0 bytes) ≡ length (back false (Some 6) 0 now)
      → old.counts.again + again ≡ length (back false None 0 (bytes_over (p ∷ packets_of past)))
  again_is all count =
      let before : old.counts.again ≡ length (back false None 0 bytes) = ap (λ (c : Counts). c.again) taken.counts_are in
      let same : length (back false (Some 6) 0 bytes) ≡ length (back false None 0 bytes) =
      ap length (rooms.pieces 6 0 bytes (steps_within bytes taken.returned.played)) in
      let after : length (back false (Some 6) 0 now) ≡ length (back false None 0 now) =
      ap length (rooms.pieces 6 0 now (steps_within now all)) in
      let moved : length (back false None 0 now) ≡ length (back false None 0 (bytes_over (p ∷ packets_of past))) =
      ap (λ xs. length (back false None 0 xs)) now_is in
      omega (arith, before, same, after, moved, count)

  pub one_more : new.down ≡ down_after offset p old.down → ComesBack bytes now again new.up new.again
      → again ≤ 12 * length carried.piece.now → new.counts ≡ counts_with old.counts carried again
      → HasTaken (record { offset = offset; packet = p } ∷ past) new
  one_more down_is back_is few counts_are =
      let short : length carried.piece.now ≤ 12 = piece_is_short past old offset p carried played taken step in
      let H : List ℕ → Type 0 = λ xs. HasReturned xs new.up new.again in
      let one : cond (length carried.piece.now == 0) 0 1 ≤ 1 =
      cond_both (length carried.piece.now == 0) 0 1 (λ n. n ≤ 1) (λ e. omega arith) (λ e. omega arith) in
      let line : length (option_to_list (line_in carried)) ≤ 1 = one_line (line_in carried) in
      let count_carried : new.counts.carried ≡ old.counts.carried + cond (length carried.piece.now == 0) 0 1 =
      ap (λ (c : Counts). c.carried) counts_are in
      let count_listed : new.counts.listed ≡ old.counts.listed + length (option_to_list (line_in carried)) =
      ap (λ (c : Counts). c.listed) counts_are in
      let count_bytes : new.counts.bytes ≡ old.counts.bytes + length carried.piece.now = ap (λ (c : Counts). c.bytes) counts_are in
      let count_again : new.counts.again ≡ old.counts.again + again = ap (λ (c : Counts). c.again) counts_are in
      let most_carried : old.counts.carried ≤ length past = taken.few_carried in
      let most_listed : old.counts.listed ≤ length past = taken.few_listed in
      let most_bytes : old.counts.bytes ≤ 12 * length past = taken.few_bytes in
      let most_again : old.counts.again ≤ 12 * old.counts.bytes = taken.few_again in
      record {
        down_is = down_is ∙ ap (down_after offset p) taken.down_is ∙ returned_after offset p (is_returned p played);
        returned = subst H now_is back_is.returned;
        closed = ap (open_in (Some 6)) (sym now_is) ∙ (piece_is_read past old offset p carried played taken step).closed;
        counts_are =
            counts_are
            ∙ (λ i.
            record {
              carried = carried_is i;
              listed = listed_is i;
              bytes = bytes_are i;
              again = again_is back_is.returned.played back_is.count i;
            });
        few_carried = omega (arith, one, count_carried, most_carried);
        few_listed = omega (arith, line, count_listed, most_listed);
        few_bytes = omega (arith, short, count_bytes, most_bytes);
        few_again = omega (arith, few, count_bytes, count_again, most_again);
      }
