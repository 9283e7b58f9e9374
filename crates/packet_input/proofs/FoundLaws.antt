-- What begins at a place of the words that are held, and what reading more of them brings.
use Rattle.std.proofs.Common.{◌≡◌, ◌+◌, ◌-◌, ◌≤◌, ℕ, List, length, Option, None, Some, arith, subst, sym}
use Rattle.std.specs.Prelude.{IfOk, IfSome, Result, Ok, Err}
use Rattle.item_reader.specs.CutLaws.{ItemsAreReadInOrder}
use Rattle.item_reader.specs.Reading.{cursor, held_bytes, passed}
use Rattle.item_reader.specs.SoFar.{given}
use Rattle.item_reader.specs.declared.cutting.Tail.TheVariants as tail
use Rattle.outside.specs.declared.objects.ReadStop.{ReadStop}
use Rattle.outside.specs.declared.objects.ReadStop.TheVariants as stop
use Rattle.pass_loop.specs.ForProofs.HeldItems.{further_held}
use Rattle.pass_loop.specs.Next.{GivesFound, GivesMore, IsFurther}
use Rattle.pass_loop.specs.declared.ends.Reason.{Reason}
use Rattle.pass_loop.specs.declared.ends.Reason.TheVariants.{Truncated}
use Rattle.pass_loop.specs.declared.pass.Found.{Found}
use Rattle.pass_loop.specs.declared.pass.Found.TheVariants as found
use Rattle.pass_loop.specs.declared.pass.More.{More}
use Rattle.pass_loop.specs.declared.pass.More.TheVariants as more
use Rattle.ump_words.specs.Cut.{bytes_asked, framed_at}
use Rattle.ump_words.specs.Reader.{Brings, GivesPacket, IsHeldAt, Reading}
use Rattle.ump_words.specs.declared.words.Framed.{Framed}
use Rattle.ump_words.specs.declared.words.Order.{Order}
use Rattle.ump_grammar.specs.Ranges.{IsPacket}
use Rattle.ump_grammar.specs.Reading.{Decodes}
use Rattle.ump_grammar.specs.declared.packet.Bad.{Bad}
use Rattle.ump_grammar.specs.declared.packet.Packet.{Packet}
use Rattle.packet_input.specs.Packets.{GivenSoFar, ReadsAt, found_of, framed_behind, packet_cutting, packets_behind, reason_for, refusal_of_stop}
use Rattle.packet_input.proofs.PacketLaws.{at_fault, at_tail, at_words, front_more, given_more, going, part-sum, still_given}

unmoved : (offset : ℕ) → offset + 0 ≡ offset
unmoved offset = omega arith

module _ (laws : ItemsAreReadInOrder bytes_asked (framed_behind 0)) (words : Reading) (place : ℕ) where
  module _ (order : Order) (all left : Option (List ℕ)) (items : List (Framed × Packet))
      (so_far : GivenSoFar order (passed place words) (given all left items)) where
    abbrev Finds : Found Framed Packet → Type 0
    Finds result =
        GivesFound (packet_cutting order) (λ past item. IsPacket item.1) (λ at. GivenSoFar order (passed at words)) (given all left items)
        result

    finds_words : (framed : Framed) (next : ℕ) → IsHeldAt place next words framed → (read : Result Packet Bad)
        → Decodes framed.words read → IfOk read IsPacket → Finds (found_of framed next read)
    finds_words framed next held (Ok packet) decodes fits =
        let gives : GivesPacket (cursor (passed place words) left) (cursor (passed next words) left) framed = held.gives left in
        let F : ℕ → Type 0 = λ n. Finds (found.Item (record { offset = n; words = framed.words }) packet next) in
        subst F (unmoved framed.offset) (
          given_more order 0 laws (passed place words) all left items so_far (passed next words) left framed gives packet decodes.0 decodes.1,
          fits,
          front_more order 0 laws (passed place words) all left items so_far (passed next words) left framed gives packet decodes.0 decodes.1,
        )
    finds_words framed next held (Err why) decodes fits =
        let gives : GivesPacket (cursor (passed place words) left) (cursor (passed next words) left) framed = held.gives left in
        let F : ℕ → Type 0 = λ n. Finds (found.Refused (reason_for why) n) in
        subst F (unmoved framed.offset)
        (at_words order 0 laws (passed place words) all left items so_far (passed next words) left framed gives why decodes)

    pub finds : (result : Found Framed Packet) → ReadsAt words place result → Finds result
    finds result reads =
        subst Finds (sym reads.3.3) (finds_words reads.0 reads.1 reads.2 reads.3.0 reads.3.1 reads.3.2)

further : (words : Reading) (place next : ℕ) (framed : Framed) → IsHeldAt place next words framed → (read : Result Packet Bad)
    → IsFurther (λ at. words.limit - (words.offset + at)) (length (held_bytes words)) place (found_of framed next read)
further words place next framed held (Ok packet) =
    further_held (bytes_asked words.how) (framed_at words.how) place next words framed held
further words place next framed held (Err why) = tt

pub is_further : (words : Reading) (place : ℕ) (result : Found Framed Packet) → ReadsAt words place result
    → IsFurther (λ at. words.limit - (words.offset + at)) (length (held_bytes words)) place result
is_further words place result reads =
    let F : Found Framed Packet → Type 0 =
    λ f. IsFurther (λ at. words.limit - (words.offset + at)) (length (held_bytes words)) place f in
    subst F (sym reads.3.3) (further words place reads.1 reads.0 reads.2 reads.3.0)

-- what reading more brings, by the refusal when the words stop
abbrev pub more_at : Option (Reason × ℕ) → More
more_at None = more.Failed
more_at (Some refusal) = more.Refused refusal.0 refusal.1

few : 0 ≤ 4294967296
few = omega arith

pub stops : ItemsAreReadInOrder bytes_asked (framed_behind 0) → (words words' : Reading) (left left' : Option (List ℕ)) (why : ReadStop)
    → (words.end ≡ None → Brings (cursor words left) (cursor words' left') (Err why))
    → (order : Order) (all : Option (List ℕ)) (items : List (Framed × Packet)) → GivenSoFar order words (given all left items)
    → GivesMore (packet_cutting order) (GivenSoFar order words') (given all left' items) (more_at (refusal_of_stop 0 why))
stops laws words words' left left' (stop.Read failed) brings order all items so_far =
    let waits = brings (going order 0 laws words all left items so_far) in (
      still_given order 0 laws words all left items so_far words' left' waits,
      at_fault order 0 laws words all left items so_far words' left' waits,
    )
stops laws words words' left left' (stop.Truncated at) brings order all items so_far =
    let ends = brings (going order 0 laws words all left items so_far) in
    let G : ℕ → Type 0 = λ n. IfSome all (λ bytes. packets_behind order 0 bytes items (Some (Truncated, n))) in
    subst G (sym (part-sum order 0 laws words all left items so_far words' left' at ends few))
    (at_tail order 0 laws words all left items so_far words' left' (tail.Truncated at) ends)
stops laws words words' left left' stop.TooLong brings order all items so_far =
    at_tail order 0 laws words all left items so_far words' left' tail.TooLong (brings (going order 0 laws words all left items so_far))

-- the same by a refusal that is known otherwise
pub stops_as : ItemsAreReadInOrder bytes_asked (framed_behind 0) → (words words' : Reading) (left left' : Option (List ℕ)) (why : ReadStop)
    → (words.end ≡ None → Brings (cursor words left) (cursor words' left') (Err why))
    → (refusal : Option (Reason × ℕ)) → refusal_of_stop 0 why ≡ refusal
    → (order : Order) (all : Option (List ℕ)) (items : List (Framed × Packet)) → GivenSoFar order words (given all left items)
    → GivesMore (packet_cutting order) (GivenSoFar order words') (given all left' items) (more_at refusal)
stops_as laws words words' left left' why brings refusal same order all items so_far =
    let G : Option (Reason × ℕ) → Type 0 =
    λ r. GivesMore (packet_cutting order) (GivenSoFar order words') (given all left' items) (more_at r) in
    subst G same (stops laws words words' left left' why brings order all items so_far)
