-- An input, read packet by packet.
use Rattle.std.proofs.Common.{◌≡◌, ◌+◌, ◌-◌, ◌*◌, ◌≤◌, ◌<◌, ◌/◌, ◌%◌, ◌^◌, ℕ, zero, suc, Bool, true, false, List, []}
use Rattle.std.proofs.Common.{◌∷◌, ◌++◌, length, Option, None, Some, refl, ap, sym, ◌∙◌, subst, arith, inl, inr, nat_lt}
use Rattle.std.specs.Prelude.{IfSome, ◌⊎◌, if◌then◌else◌}
use Rattle.std.specs.List.{concat}
use Rattle.std.proofs.Math.Nat.{mod-eq_of_lt}
use Rattle.std.proofs.lemmas.List.{append_assoc, append-nil, length-append, map_push}
use Rattle.item_reader.specs.CutLaws.{ItemsAreReadInOrder}
use Rattle.item_reader.specs.Reading.{Gives, cursor}
use Rattle.item_reader.specs.SoFar.{ReadSoFar, StandsBehind, given}
use Rattle.item_reader.specs.declared.cutting.Tail as tails
use Rattle.item_reader.specs.declared.cutting.Tail.TheVariants as tail
use Rattle.outside.specs.Outside.{Loses, ahead}
use Rattle.ump_words.specs.Cut.{IsPacket, IsRest, bytes_asked, first_words, word_at, words_asked, words_of}
use Rattle.ump_words.specs.ForProofs.Lengths.{size_in}
use Rattle.ump_words.specs.Reader.{Reading, GivesPacket, Finishes, Waits}
use Rattle.ump_words.specs.declared.words.Framed.{Framed}
use Rattle.ump_words.specs.declared.words.Order.{Order}
use Rattle.ump_grammar.specs.declared.packet.Bad.{Bad}
use Rattle.ump_grammar.specs.declared.packet.Packet.{Packet}
use Rattle.ump_grammar.specs.Reason.{reason as reason_of}
use Rattle.ump_grammar.specs.Spelling.{Spells}
use Rattle.pass_loop.specs.Items.{limit}
use Rattle.pass_loop.specs.Pass.{HasGivenUp, IsFront}
use Rattle.pass_loop.specs.declared.ends.Reason.TheVariants.{Truncated}
use Rattle.packet_input.specs.Packets.{AreRead, GivenBehind, IsCutBehind, IsRead, framed_behind}
use Rattle.packet_input.specs.Packets.{framed_of, packets_behind, reason_for, refusal_behind, room_behind}

AreRead-push : (items : List (Framed × Packet)) (item : Framed × Packet) → AreRead items → IsRead item → AreRead (items ++ item ∷ [])
AreRead-push [] item are read = (read, tt)
AreRead-push (i ∷ items) item are read = (are.0, AreRead-push items item are.1 read)

both : (all : Option (List ℕ)) (P Q : List ℕ → Type 0) → IfSome all P → IfSome all Q → IfSome all (λ bytes. P bytes × Q bytes)
both None P Q p q = tt
both (Some bytes) P Q p q = (p, q)

each : (all : Option (List ℕ)) (P Q : List ℕ → Type 0) → IfSome all P → ((bytes : List ℕ) → P bytes → Q bytes) → IfSome all Q
each None P Q here more = tt
each (Some bytes) P Q here more = more bytes here

-- ---- numbers

-- an offset within the limit isn't cut when it is added to the bytes before the first packet
below : (at before : ℕ) → at ≤ 4294967296 - before → before ≤ 4294967296 → at + before < 2 ^ 64
below at before fits few = omega (arith, fits, few)

pub whole-sum : (at before : ℕ) → at ≤ room_behind before → before ≤ limit → (at + before) % 2 ^ 64 ≡ at + before
whole-sum at before fits few = mod-eq_of_lt (below at before fits few)

-- how many bytes a packet has
words-count : (order : Order) (bytes : List ℕ) (n : ℕ) → length (first_words order bytes n) ≡ n
words-count order bytes zero = refl
words-count order bytes (suc n) =
    omega (arith, length-append (first_words order bytes n) (word_at order bytes n ∷ []), words-count order bytes n)

packet-size : (order : Order) (chunk : List ℕ) → IsPacket order chunk → length chunk ≡ 4 * length (words_of order chunk)
packet-size order chunk is = go (nat_lt (length chunk) 4) is
  where
    go : (few : Bool) → length chunk ≡ (if few then 4 else 4 * words_asked (word_at order chunk 0))
        → length chunk ≡ 4 * length (words_of order chunk)
    go true size = omega (arith, size, words-count order chunk (length chunk / 4))
    go false size = omega (arith, size, words-count order chunk (length chunk / 4))

-- ---- what is read

-- the chunks of a front are its whole cutting
fronts : (order : Order) (before : ℕ) (reader : Reading) (all now : Option (List ℕ)) (items : List (Framed × Packet))
    (read : ReadSoFar (bytes_asked order) (framed_behind before order) order (room_behind before) reader (given all now (framed_of items)))
    → AreRead items → (all' ahead' : Option (List ℕ)) → Loses all' ahead' (concat read.chunks)
    → IfSome all' (λ bytes. IsFront (packets_behind order before) bytes items)
fronts order before reader all now items read are None ahead' lost = tt
fronts order before reader all now items read are (Some bytes) None lost = absurd lost
fronts order before reader all now items read are (Some bytes) (Some rest) lost = (
  concat read.chunks,
  rest,
  lost,
  (
    are,
    inl (record {
      tail = tail.End;
      cut = record {
        chunks = read.chunks;
        cuts = record {
          rest = [];
          whole = sym (append-nil (concat read.chunks));
          each = read.each;
          ends = (refl, omega (arith, read.within));
        };
        same = read.same;
      };
      end_is = refl;
    }),
  ),
)

module _ (order : Order) (before : ℕ) (laws : ItemsAreReadInOrder bytes_asked (framed_behind before)) (reader : Reading)
    (all left : Option (List ℕ)) (items : List (Framed × Packet)) (so_far : GivenBehind order before reader (given all left items)) where
  pub going : reader.end ≡ None
  going = ap (λ r. r.end) so_far.read.place

  within : reader.offset ≤ room_behind before
  within =
      let W : Reading → Type 0 = λ r. r.offset ≤ room_behind before in
      subst W (sym so_far.read.place) so_far.read.within

  -- the packet at its offset in the input
  abbrev pub placed : Framed → Framed
  placed framed = record { offset = framed.offset + before; words = framed.words }

  -- one more packet
  module _ (reader' : Reading) (left' : Option (List ℕ)) (framed : Framed)
      (gives : GivesPacket (cursor reader left) (cursor reader' left') framed) where
    abbrev gives_placed : Gives (bytes_asked reader.how) (cursor reader left) (cursor reader' left') (framed_behind before reader.how)
        (placed framed)
    gives_placed = record {
      chunk = gives.chunk;
      is_item = gives.is_item;
      lost = gives.lost;
      item_is = ap placed gives.item_is;
      within = gives.within;
      goes_on = gives.goes_on;
    }

    at-reader : framed.offset ≡ reader.offset
    at-reader = ap (λ f. f.offset) gives.item_is

    pub sum-is : before ≤ limit → (framed.offset + before) % 2 ^ 64 ≡ framed.offset + before
    sum-is few =
        let W : ℕ → Type 0 = λ n. n ≤ room_behind before in
        whole-sum framed.offset before (subst W (sym at-reader) within) few

    -- the reader stands after it
    pub size : reader'.offset ≡ reader.offset + 4 * length framed.words
    size =
        let chunk : length gives.chunk ≡ 4 * length (words_of reader.how gives.chunk) = packet-size reader.how gives.chunk gives.is_item in
        let same : length framed.words ≡ length (words_of reader.how gives.chunk) = ap (λ f. length f.words) gives.item_is in
        let next : reader'.offset ≡ reader.offset + length gives.chunk = ap (λ r. r.offset) gives.goes_on in
        omega (arith, chunk, same, next)

    pub some : 0 < length framed.words
    some =
        let chunk : length gives.chunk ≡ 4 * length (words_of reader.how gives.chunk) = packet-size reader.how gives.chunk gives.is_item in
        let same : length framed.words ≡ length (words_of reader.how gives.chunk) = ap (λ f. length f.words) gives.item_is in
        omega (arith, chunk, same, (size_in reader.how gives.chunk).0, gives.is_item)

    pub is_within : reader'.offset ≤ room_behind before
    is_within =
        let next : reader'.offset ≡ reader.offset + length gives.chunk = ap (λ r. r.offset) gives.goes_on in
        let W : ℕ → Type 0 = λ n. n ≤ room_behind before in
        let L : ℕ → Type 0 = λ n. reader.offset + length gives.chunk ≤ n in
        subst W (sym next) (subst L (ap (λ r. r.limit) so_far.read.place) gives.within)

    pub at-place : framed.offset + before ≡ reader.offset + before
    at-place = ap (λ n. n + before) at-reader

    -- words are refused
    pub at_words : (cause : Bad) → reason_of framed.words ≡ Some cause
        → IfSome all (λ bytes. packets_behind order before bytes items (Some (reason_for cause, framed.offset + before)))
    at_words cause is =
        each all (λ bytes. StandsBehind (bytes_asked order) (framed_behind before order) (room_behind before) bytes (framed_of items)
        (placed framed))
        _
        (laws.stands_behind order (room_behind before) reader all left (framed_of items) so_far.read reader' left' (placed framed)
        gives_placed)
        (λ bytes stands. (
          so_far.are,
          inr (record {
            refused = placed framed;
            after = stands.after;
            tail = stands.tail;
            cut = stands.cut;
            cause = cause;
            cause_is = is;
            end_is = refl;
          }),
        ))

    module _ (packet : Packet) (fine : reason_of framed.words ≡ None) (spells : Spells packet framed.words) where
      abbrev item : Framed × Packet
      item = (placed framed, packet)

      pub given_more : GivenBehind order before reader' (given all left' (items ++ item ∷ []))
      given_more =
          let R : List Framed → Type 0 =
          λ fs. ReadSoFar (bytes_asked order) (framed_behind before order) order (room_behind before) reader' (given all left' fs) in
          record {
            read =
                subst R (sym (map_push (λ (i : Framed × Packet). i.0) items item))
                (laws.step order (room_behind before) reader all left (framed_of items) so_far.read reader' left' (placed framed)
                gives_placed);
            are = AreRead-push items item so_far.are (record { fine = fine; spells = spells });
          }

      pub front_more : IfSome all (λ bytes. IsFront (packets_behind order before) bytes (items ++ item ∷ []))
      front_more =
          let more = given_more in
          fronts order before reader' all left' (items ++ item ∷ []) more.read more.are all (ahead reader'.pending left') more.read.lost

  -- the packets end with this tail
  pub at_tail : (reader' : Reading) (left' : Option (List ℕ)) (t : tails.Tail) → Finishes (cursor reader left) (cursor reader' left') t
      → IfSome all (λ bytes. packets_behind order before bytes items (refusal_behind before t))
  at_tail reader' left' t ends =
      each all (λ bytes. IsCutBehind order before bytes (framed_of items) t) _
      (laws.finishes order (room_behind before) reader all left (framed_of items) so_far.read reader' left' t ends)
      (λ bytes cut. (so_far.are, inl (record { tail = t; cut = cut; end_is = refl })))

  -- the input ends
  pub at_end : (reader' : Reading) (left' : Option (List ℕ)) → Finishes (cursor reader left) (cursor reader' left') tail.End
      → IfSome all (λ bytes. packets_behind order before bytes items None × (left' ≡ Some []))
  at_end reader' left' ends =
      both all (λ bytes. packets_behind order before bytes items None) (λ bytes. left' ≡ Some []) (at_tail reader' left' tail.End ends)
      (laws.nothing_left order (room_behind before) reader all left (framed_of items) so_far.read reader' left' ends)

  -- all of it was given
  pub all_read : (reader' : Reading) (left' : Option (List ℕ)) → Finishes (cursor reader left) (cursor reader' left') tail.End
      → IfSome all (λ bytes. reader.offset ≡ length bytes)
  all_read reader' left' ends = by_told all (ahead reader.pending left) so_far.read.lost ends.ends
    where
      by_told : (all' ahead' : Option (List ℕ)) → Loses all' ahead' (concat so_far.read.chunks)
          → IfSome ahead' (λ bytes. (bytes ≡ []) × (reader.offset ≤ reader.limit)) → IfSome all' (λ bytes. reader.offset ≡ length bytes)
      by_told None ahead' lost nothing = tt
      by_told (Some bytes) None lost nothing = absurd lost
      by_told (Some bytes) (Some more) lost nothing =
          ap (λ r. r.offset) so_far.read.place
          ∙ ap length (sym (lost ∙ ap (λ xs. concat so_far.read.chunks ++ xs) nothing.0 ∙ append-nil (concat so_far.read.chunks)))

  -- it ends within a packet, whose offset isn't cut either
  pub part-sum : (reader' : Reading) (left' : Option (List ℕ)) (at : ℕ)
      → Finishes (cursor reader left) (cursor reader' left') (tail.Truncated at) → before ≤ limit → (at + before) % 2 ^ 64 ≡ at + before
  part-sum reader' left' at ends few =
      let W : ℕ → Type 0 = λ n. n ≤ room_behind before in
      whole-sum at before (subst W (sym ends.held.0) within) few

  -- if a read failed, the same packets are given, and no byte is lost
  pub still_given : (reader' : Reading) (left' : Option (List ℕ)) → Waits (cursor reader left) (cursor reader' left')
      → GivenBehind order before reader' (given all left' items)
  still_given reader' left' waits =
      record {
        read = laws.waits order (room_behind before) reader all left (framed_of items) so_far.read reader' left' waits;
        are = so_far.are;
      }

  -- a read failed
  pub at_fault : (reader' : Reading) (left' : Option (List ℕ)) → Waits (cursor reader left) (cursor reader' left')
      → IfSome all (λ bytes. HasGivenUp (packets_behind order before) bytes left' items)
  at_fault reader' left' waits =
      let chunks : List ℕ = concat so_far.read.chunks in
      let L : Option (List ℕ) → Type 0 = λ now. Loses all now chunks in
      let R : Reading → Type 0 = λ r. IsRest r.how reader'.pending in
      let W : Reading → Type 0 = λ r. r.offset + length reader'.pending ≤ r.limit in
      by_told all left' (subst L (sym waits.same) so_far.read.lost)
      (cut_by reader'.pending (subst R so_far.read.place waits.partial) (subst W so_far.read.place waits.within))
    where
      cut_by : (rest : List ℕ) → IsRest order rest → length (concat so_far.read.chunks) + length rest ≤ room_behind before
          → packets_behind order before (concat so_far.read.chunks ++ rest) items None
          ⊎ ((offset : ℕ) × packets_behind order before (concat so_far.read.chunks ++ rest) items (Some (Truncated, offset)))
      cut_by [] is_rest fits =
          inl (
            so_far.are,
            inl (record {
              tail = tail.End;
              cut = record {
                chunks = so_far.read.chunks;
                cuts = record { rest = []; whole = refl; each = so_far.read.each; ends = (refl, omega (arith, so_far.read.within)) };
                same = so_far.read.same;
              };
              end_is = refl;
            }),
          )
      cut_by (b ∷ rest) is_rest fits =
          let at : ℕ = 0 + length (concat so_far.read.chunks) in
          inr (
            at + before,
            (
              so_far.are,
              inl (record {
                tail = tail.Truncated at;
                cut = record {
                  chunks = so_far.read.chunks;
                  cuts = record {
                    rest = b ∷ rest;
                    whole = refl;
                    each = so_far.read.each;
                    ends = (refl, omega arith, is_rest, omega (arith, fits));
                  };
                  same = so_far.read.same;
                };
                end_is = refl;
              }),
            ),
          )

      by_told : (all' left'' : Option (List ℕ)) → Loses all' (ahead reader'.pending left'') (concat so_far.read.chunks)
          → packets_behind order before (concat so_far.read.chunks ++ reader'.pending) items None
          ⊎ ((offset : ℕ) × packets_behind order before (concat so_far.read.chunks ++ reader'.pending) items (Some (Truncated, offset)))
          → IfSome all' (λ bytes. HasGivenUp (packets_behind order before) bytes left'' items)
      by_told None left'' lost cut = tt
      by_told (Some bytes) None lost cut = absurd lost
      by_told (Some bytes) (Some rest) lost cut =
          record {
            given = concat so_far.read.chunks ++ reader'.pending;
            rest = rest;
            parts = lost ∙ sym (append_assoc (concat so_far.read.chunks) reader'.pending rest);
            left_is = refl;
            cut = cut;
          }
