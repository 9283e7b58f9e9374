-- The words of replies, which are put packet by packet.
use Rattle.std.proofs.Common.{◌≡◌, ◌<◌, ℕ, List, [], ◌∷◌, ◌++◌, length, take, drop, refl, ap, sym, ◌∙◌, subst, arith}
use Rattle.std.specs.Prelude.{Result, Ok, Err, slice_index}
use Rattle.std.specs.List.{flat_map}
use Rattle.std.proofs.lemmas.List.{append_assoc, append-nil}
use Rattle.packet_words.specs.Words.{word_bytes, words_asked}
use Rattle.packet_words.specs.declared.words.Order.{Order}
use Rattle.ump_grammar.specs.declared.packet.Packet.{Packet}
use Rattle.ump_grammar.specs.Reading.{Encodes}
use Rattle.ump_grammar.specs.Replies.{AddsPackets}
use Rattle.pass_loop.specs.Places.{FailsAt, Places, over_puts}
use Rattle.pass_loop.specs.Put.{Put, in_output}
use Rattle.pass_loop.specs.ForProofs.PutLaws.{over_puts-none, stops_more, then_puts}
use Rattle.pass_loop.specs.declared.ends.RunEnd.{RunEnd}
use Rattle.packet_input.specs.Written.{AreWritten}
use Rattle.endpoint_pass.specs.ForProofs.Taking.{PutsPackets}

-- ---- the words of the first packet, and those of the others

adds_behind : (front : List ℕ) (packets : List Packet) (old new : List ℕ) → AddsPackets packets old new
    → AddsPackets packets (front ++ old) (front ++ new)
adds_behind front [] old new adds = ap (λ xs. front ++ xs) adds
adds_behind front (p ∷ ps) old new adds =
    let one = adds.1 in (
      front ++ adds.0,
      record {
        words = one.words;
        encoded = one.encoded;
        added = ap (λ xs. front ++ xs) one.added ∙ sym (append_assoc front old one.words);
      },
      adds_behind front ps adds.0 new adds.2,
    )

adds_more : (packets : List Packet) (old new : List ℕ) → AddsPackets packets old new
    → (words : List ℕ) × (new ≡ old ++ words) × AddsPackets packets [] words
adds_more [] old new adds = ([], adds ∙ sym (append-nil old), refl)
adds_more (p ∷ ps) old new adds =
    let one = adds.1 in
    let more = adds_more ps adds.0 new adds.2 in
    let A : List ℕ → Type 0 = λ xs. AddsPackets ps xs (one.words ++ more.0) in (
      one.words ++ more.0,
      more.1 ∙ ap (λ xs. xs ++ more.0) one.added ∙ append_assoc old one.words more.0,
      (
        one.words,
        record { words = one.words; encoded = one.encoded; added = refl },
        subst A (append-nil one.words) (adds_behind one.words ps [] more.0 more.2),
      ),
    )

abbrev pub asked : List ℕ → ℕ
asked words = words_asked (slice_index words 0)

take-front : (xs ys : List ℕ) → take (length xs) (xs ++ ys) ≡ xs
take-front [] ys = refl
take-front (x ∷ xs) ys = ap (λ zs. x ∷ zs) (take-front xs ys)

drop-front : (xs ys : List ℕ) → drop (length xs) (xs ++ ys) ≡ ys
drop-front [] ys = refl
drop-front (x ∷ xs) ys = drop-front xs ys

-- a packet's words are as many as the first of them asks for, whatever follows
asked_in_front : (front rest : List ℕ) → length front ≡ asked front → length front ≡ asked (front ++ rest)
asked_in_front [] rest whole = absurd (let none : 0 ≡ 1 = whole in omega (arith, none))
asked_in_front (word ∷ front) rest whole = whole

-- the first of these packets, with its words, and what follows
pub record NextPacket (packets : List Packet) (words : List ℕ) : Type 0 where
  pub first : Packet
  pub others : List Packet
  pub packets_are : packets ≡ first ∷ others
  pub encoded : Encodes first (take (asked words) words)
  pub follow : AddsPackets others [] (drop (asked words) words)

pub next_packet : (packets : List Packet) (words : List ℕ) → AddsPackets packets [] words → 0 < length words → NextPacket packets words
next_packet [] words adds some = absurd (let e : words ≡ [] = adds in omega (arith, some, ap length e))
next_packet (p ∷ ps) words adds some =
    let one = adds.1 in
    let more = adds_more ps adds.0 words adds.2 in
    let split : words ≡ one.words ++ more.0 = more.1 ∙ ap (λ xs. xs ++ more.0) one.added in
    let count : asked words ≡ length one.words = ap asked split ∙ sym (asked_in_front one.words more.0 one.encoded.spelled.whole) in
    let front : take (asked words) words ≡ one.words =
    ap (λ n. take n words) count ∙ ap (take (length one.words)) split ∙ take-front one.words more.0 in
    let rest : drop (asked words) words ≡ more.0 =
    ap (λ n. drop n words) count ∙ ap (drop (length one.words)) split ∙ drop-front one.words more.0 in
    let E : List ℕ → Type 0 = λ xs. Encodes p xs in
    let A : List ℕ → Type 0 = λ xs. AddsPackets ps [] xs in
    record {
      first = p;
      others = ps;
      packets_are = refl;
      encoded = subst E (sym front) one.encoded;
      follow = subst A (sym rest) more.2;
    }

-- there are words if packets are left
none_left : (p : Packet) (ps : List Packet) (words : List ℕ) → AddsPackets (p ∷ ps) [] words → length words ≡ 0 → ⊥
none_left p ps words adds none =
    let one = adds.1 in
    let more = adds_more ps adds.0 words adds.2 in
    by_front one.words more.0 one.encoded.spelled.whole (more.1 ∙ ap (λ xs. xs ++ more.0) one.added)
  where
    by_front : (front others : List ℕ) → length front ≡ asked front → words ≡ front ++ others → ⊥
    by_front [] others whole e = let no : 0 ≡ 1 = whole in omega (arith, no)
    by_front (word ∷ front) others whole e = omega (arith, none, ap length e)

-- ---- what is put for them

-- there is something to be put for packets that have words
pub can_be_written : (order : Order) (packets : List Packet) (old new : List ℕ) → AddsPackets packets old new
    → (puts : List Put) × AreWritten order packets puts
can_be_written order [] old new adds = ([], refl)
can_be_written order (p ∷ ps) old new adds =
    let more = can_be_written order ps adds.0 new adds.2 in
    let one : List Put = in_output (flat_map (word_bytes order) adds.1.words) ∷ [] in
    (one ++ more.0, (one, more.0, (adds.1.words, adds.1.encoded, refl), more.1, refl))

abbrev pub put_of : Order → List ℕ → List Put
put_of order words = in_output (flat_map (word_bytes order) words) ∷ []

-- Of some words the first packets are put, and these are left: whatever is put for the rest, that is what is put for all.
pub record PutSoFar (order : Order) (packets : List Packet) (rest : List ℕ) (old now : Places) : Type 0 where
  pub left : List Packet
  pub words : AddsPackets left [] rest
  pub continues : (new : Places) (result : Result (Unit {0}) RunEnd) → PutsPackets order left now new result
      → PutsPackets order packets old new result

pub nothing_put : (order : Order) (packets : List Packet) (words : List ℕ) (old : Places) → AddsPackets packets [] words
    → PutSoFar order packets words old old
nothing_put order packets words old adds = record { left = packets; words = adds; continues = λ new result puts. puts }

module _ (order : Order) (packets : List Packet) (rest : List ℕ) (old now : Places) (so_far : PutSoFar order packets rest old now) where
  module _ (some : 0 < length rest) where
    abbrev next : NextPacket so_far.left rest
    next = next_packet so_far.left rest so_far.words some

    abbrev one : List ℕ
    one = take (asked rest) rest

    pub one_more : (later : Places) → later ≡ over_puts (put_of order one) now → PutSoFar order packets (drop (asked rest) rest) old later
    one_more later stands =
        let W : List Packet → Places → Result (Unit {0}) RunEnd → Type 0 = λ ps new result. PutsPackets order ps now new result in
        record {
          left = next.others;
          words = next.follow;
          continues = λ new result puts.
              so_far.continues new result
              (subst (λ ps. W ps new result) (sym next.packets_are) (
                put_of order one ++ puts.0,
                (put_of order one, puts.0, (one, next.encoded, refl), puts.1, refl),
                then_puts (put_of order one) puts.0 now later new result stands puts.2,
              ));
        }

    pub one_fails : (later : Places) (end : RunEnd) → FailsAt (put_of order one) end now later
        → PutsPackets order packets old later (Err end)
    one_fails later end fails =
        let others = can_be_written order next.others [] (drop (asked rest) rest) next.follow in
        let W : List Packet → Type 0 = λ ps. PutsPackets order ps now later (Err end) in
        so_far.continues later (Err end)
        (subst W (sym next.packets_are) (
          put_of order one ++ others.0,
          (put_of order one, others.0, (one, next.encoded, refl), others.1, refl),
          stops_more (put_of order one) others.0 end now later fails,
        ))

  pub all_put : length rest ≡ 0 → PutsPackets order packets old now (Ok tt)
  all_put none = by_left so_far.left refl
    where
      by_left : (left : List Packet) → so_far.left ≡ left → PutsPackets order packets old now (Ok tt)
      by_left [] e =
          let W : List Packet → Type 0 = λ ps. PutsPackets order ps now now (Ok tt) in
          so_far.continues now (Ok tt) (subst W (sym e) ([], refl, sym (over_puts-none now)))
      by_left (p ∷ ps) e =
          let A : List Packet → Type 0 = λ xs. AddsPackets xs [] rest in
          absurd (none_left p ps rest (subst A e so_far.words) none)
