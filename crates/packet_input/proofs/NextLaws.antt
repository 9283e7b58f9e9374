-- What is given out next, by what the reader of words answers.
use Rattle.std.proofs.Common.{◌≡◌, ◌+◌, ◌-◌, ◌%◌, ◌^◌, ◌≤◌, ◌<◌, ℕ, List, length, Option, None, Some, ap, arith, refl, subst, sym, ◌∙◌}
use Rattle.std.specs.Prelude.{IfOk, IfSome, Result, Ok, Err}
use Rattle.item_reader.specs.CutLaws.{ItemsAreReadInOrder}
use Rattle.item_reader.specs.Reading.{ReadCause, answer_of, cursor}
use Rattle.item_reader.specs.SoFar.{given}
use Rattle.item_reader.specs.declared.cutting.Tail as tails
use Rattle.item_reader.specs.declared.cutting.Tail.TheVariants as tail
use Rattle.outside.specs.declared.objects.ReadStop.{ReadStop}
use Rattle.outside.specs.declared.objects.ReadStop.TheVariants as stop
use Rattle.outside.specs.declared.objects.Source as source
use Rattle.pass_loop.specs.Items.{limit}
use Rattle.pass_loop.specs.Next.{ComesNearer, GivesNext, NextCause}
use Rattle.pass_loop.specs.declared.ends.Reason.TheVariants.{Truncated}
use Rattle.pass_loop.specs.declared.pass.Next.{Next}
use Rattle.pass_loop.specs.declared.pass.Next.TheVariants as next
use Rattle.ump_words.specs.Cut.{bytes_asked}
use Rattle.ump_words.specs.ForProofs.Lengths.{size_in}
use Rattle.ump_words.specs.Reader.{Answers, GivesPacket, Reading}
use Rattle.ump_words.specs.declared.words.Framed.{Framed}
use Rattle.ump_words.specs.declared.words.Order.{Order}
use Rattle.ump_grammar.specs.Ranges.{IsPacket}
use Rattle.ump_grammar.specs.Reading.{Decodes}
use Rattle.ump_grammar.specs.declared.packet.Bad.{Bad}
use Rattle.ump_grammar.specs.declared.packet.Bad.TheVariants as bad
use Rattle.ump_grammar.specs.declared.packet.Packet.{Packet}
use Rattle.packet_input.specs.Packets.{GivenBehind, MovesOn, RefusesBytes, GivesNextPacket}
use Rattle.packet_input.specs.Packets.{framed_behind, next_of_stop, packets_behind, reason_for}
use Rattle.packet_input.proofs.PacketLaws.{all_read, at-place, at_end, at_fault, at_tail, at_words, front_more}
use Rattle.packet_input.proofs.PacketLaws.{given_more, going, is_within, part-sum, size, some, still_given, sum-is}

-- what is given out for words by what they are read into
abbrev pub next_of : Framed → Result Packet Bad → Next Framed Packet
next_of framed (Ok packet) = next.Item framed packet
next_of framed (Err why) = next.Refused (reason_for why) framed.offset

-- the words with their offset after so many bytes, as a sum of 64 bits
abbrev pub shifted : ℕ → Framed → Framed
shifted before framed = record { offset = (framed.offset + before) % 2 ^ 64; words = framed.words }

refuses-bytes : (framed : Framed) (read : Result Packet Bad) → RefusesBytes (next_of framed read)
refuses-bytes framed (Ok packet) = tt
refuses-bytes framed (Err bad.BadCount) = tt
refuses-bytes framed (Err bad.HighBit) = tt

comes-nearer : (framed : Framed) (read : Result Packet Bad) (old new : ℕ) → new < old → ComesNearer old new (next_of framed read)
comes-nearer framed (Ok packet) old new less = less
comes-nearer framed (Err why) old new less = tt

has-cause : (framed : Framed) (read : Result Packet Bad) (old new : ℕ) → new ≡ old → NextCause old new (next_of framed read)
has-cause framed (Ok packet) old new same = same
has-cause framed (Err why) old new same = same

-- a reader that gives out words had not ended
goes-on : {S : Type 0} (framed : Framed) (words words' : Reading) (input input' : S) (end : Option tails.Tail)
    → IfSome end
    (λ t. let told : Result (Option Framed) ReadStop = Ok (Some framed) in (told ≡ answer_of t) × (words' ≡ words) × (input' ≡ input))
    → end ≡ None
goes-on framed words words' input input' None again = refl
goes-on framed words words' input input' (Some tail.End) again = absurd (let e = again.0 in cc)
goes-on framed words words' input input' (Some (tail.Truncated at)) again = absurd (let e = again.0 in cc)
goes-on framed words words' input input' (Some tail.TooLong) again = absurd (let e = again.0 in cc)

module _ {S : Type 0} (s : source.Ghosts S) (before : ℕ) (few : before ≤ limit)
    (laws : ItemsAreReadInOrder bytes_asked (framed_behind before)) (words words' : Reading)
    (input input' : S) (told : Result (Option Framed) ReadStop)
    (answer : words.end ≡ None → Answers (cursor words (s.left input)) (cursor words' (s.left input')) told)
    (again : IfSome words.end (λ t. (told ≡ answer_of t) × (words' ≡ words) × (input' ≡ input)))
    (cause : ReadCause (s.faults input) (s.faults input') told) where
  abbrev left : Option (List ℕ)
  left = s.left input

  abbrev left' : Option (List ℕ)
  left' = s.left input'

  abbrev IsNext : Next Framed Packet → Type 0
  IsNext result = GivesNextPacket s before words words' input input' result

  -- words, which are decoded into this
  module _ (framed : Framed) (is : told ≡ Ok (Some framed)) (read : Result Packet Bad) (decodes : Decodes framed.words read)
      (fits : IfOk read IsPacket) where
    goes : words.end ≡ None
    goes =
        let A : Result (Option Framed) ReadStop → Type 0 =
        λ r. IfSome words.end (λ t. (r ≡ answer_of t) × (words' ≡ words) × (input' ≡ input)) in
        goes-on framed words words' input input' words.end (subst A is again)

    gives : GivesPacket (cursor words left) (cursor words' left') framed
    gives = subst (Answers (cursor words left) (cursor words' left')) is (answer goes)

    less : words'.limit - words'.offset < words.limit - words.offset
    less =
        let offset : words'.offset ≡ words.offset + length gives.chunk = ap (λ r. r.offset) gives.goes_on in
        let limit' : words'.limit ≡ words.limit = ap (λ r. r.limit) gives.goes_on in
        omega (arith, (size_in words.how gives.chunk).0, gives.is_item, gives.within, offset, limit')

    module _ (order : Order) (all : Option (List ℕ)) (items : List (Framed × Packet))
        (so_far : GivenBehind order before words (given all left items)) where
      abbrev Gives : Framed → Result Packet Bad → Type 0
      Gives at decoded =
          GivesNext (packets_behind order before) (λ past item. IsPacket item.1) (GivenBehind order before words') (given all left' items)
          (next_of at decoded)

      offset-is : (framed.offset + before) % 2 ^ 64 ≡ framed.offset + before
      offset-is = sum-is order before laws words all left items so_far words' left' framed gives few

      by_packet : (decoded : Result Packet Bad) → Decodes framed.words decoded → IfOk decoded IsPacket
          → Gives (record { offset = framed.offset + before; words = framed.words }) decoded
      by_packet (Ok packet) spelled fit = (
        given_more order before laws words all left items so_far words' left' framed gives packet spelled.0 spelled.1,
        fit,
        front_more order before laws words all left items so_far words' left' framed gives packet spelled.0 spelled.1,
      )
      by_packet (Err why) refused fit = at_words order before laws words all left items so_far words' left' framed gives why refused

      by_words : Gives (shifted before framed) read
      by_words =
          let G : ℕ → Type 0 = λ at. Gives (record { offset = at; words = framed.words }) read in
          subst G (sym offset-is) (by_packet read decodes fits)

      moves : (decoded : Result Packet Bad) → MovesOn before words words' all (next_of (shifted before framed) decoded)
      moves (Ok packet) = (
        offset-is ∙ at-place order before laws words all left items so_far words' left' framed gives,
        some order before laws words all left items so_far words' left' framed gives,
        size order before laws words all left items so_far words' left' framed gives,
        is_within order before laws words all left items so_far words' left' framed gives,
      )
      moves (Err why) = tt

    pub gives_words : IsNext (next_of (shifted before framed) read)
    gives_words =
        record {
          answer = by_words;
          place = λ order all items so_far. moves order all items so_far read;
          reason = refuses-bytes (shifted before framed) read;
          nearer = comes-nearer (shifted before framed) read (words.limit - words.offset) (words'.limit - words'.offset) less;
          cause =
              has-cause (shifted before framed) read (s.faults input) (s.faults input')
              (subst (ReadCause (s.faults input) (s.faults input')) is cause);
        }

  -- the end of the input
  pub gives_end : told ≡ Ok None → IsNext next.End
  gives_end is =
      let A : Result (Option Framed) ReadStop → Type 0 = Answers (cursor words left) (cursor words' left') in
      record {
        answer =
            λ order all items so_far. at_end order before laws words all left items so_far words' left'
            (subst A is (answer (going order before laws words all left items so_far)));
        place =
            λ order all items so_far. all_read order before laws words all left items so_far words' left'
            (subst A is (answer (going order before laws words all left items so_far)));
        reason = tt;
        nearer = tt;
        cause = subst (ReadCause (s.faults input) (s.faults input')) is cause;
      }

  -- a stop
  pub gives_stop : (why : ReadStop) → told ≡ Err why → IsNext (next_of_stop before why)
  gives_stop (stop.Read failed) is =
      let A : Result (Option Framed) ReadStop → Type 0 = Answers (cursor words left) (cursor words' left') in
      record {
        answer =
            λ order all items so_far.
            let waits = subst A is (answer (going order before laws words all left items so_far)) in (
              still_given order before laws words all left items so_far words' left' waits,
              at_fault order before laws words all left items so_far words' left' waits,
            );
        place = λ order all items so_far. tt;
        reason = tt;
        nearer = tt;
        cause = (subst (ReadCause (s.faults input) (s.faults input')) is cause).1;
      }
  gives_stop (stop.Truncated at) is =
      let A : Result (Option Framed) ReadStop → Type 0 = Answers (cursor words left) (cursor words' left') in
      record {
        answer =
            λ order all items so_far.
            let ends = subst A is (answer (going order before laws words all left items so_far)) in
            let G : ℕ → Type 0 = λ n. IfSome all (λ bytes. packets_behind order before bytes items (Some (Truncated, n))) in
            subst G (sym (part-sum order before laws words all left items so_far words' left' at ends few))
            (at_tail order before laws words all left items so_far words' left' (tail.Truncated at) ends);
        place = λ order all items so_far. tt;
        reason = tt;
        nearer = tt;
        cause = subst (ReadCause (s.faults input) (s.faults input')) is cause;
      }
  gives_stop stop.TooLong is =
      let A : Result (Option Framed) ReadStop → Type 0 = Answers (cursor words left) (cursor words' left') in
      record {
        answer =
            λ order all items so_far.
            at_tail order before laws words all left items so_far words' left' tail.TooLong
            (subst A is (answer (going order before laws words all left items so_far)));
        place = λ order all items so_far. tt;
        reason = tt;
        nearer = tt;
        cause = subst (ReadCause (s.faults input) (s.faults input')) is cause;
      }
