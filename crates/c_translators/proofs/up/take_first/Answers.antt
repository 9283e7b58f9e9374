use Rattle.std.proofs.Common.{List, ℕ, length, sym, subst, arith}
use Rattle.std.specs.Prelude.{slice_index}
use Rattle.c_answers.specs.Outcomes.{items_of}
use Rattle.c_translators.specs.ByteBlocks.{TakesRun}
use Rattle.c_translators.specs.Up.{IsAccepted}
use Rattle.c_translators.proofs.ByteBlockLaws.{byte_taken, first_byte}
use Rattle.c_translators.proofs.UpLaws.{raises_within}
use Rattle.c_translators.proofs.up.take_first.Goals as goal

pub show-requires-clause-room : goal.show-requires-clause-room
show-requires-clause-room c =
    raises_within c.exclusives_stay_within_their_limit.ensures c.args.up.now _ c.args.next (length c.args.words.now) c.in-Ok.raised
    c.requires.sound.within c.requires.room c.in-Ok.ensures.answer

pub returns-in-Ok : goal.returns-in-Ok
returns-in-Ok c =
    let byte : ℕ = slice_index c.args.bytes.now 0 in
    let outcome = c.show.new.outcome in
    let accepted : IsAccepted c.args.up.now byte c.args.next c.args.words.now outcome c.show.new.words =
    record { raised = c.in-Ok.raised; accepts = c.in-Ok.ensures.answer; keeps = c.byte.ensures.kept; written = c.show.ensures } in
    let T : List ℕ → Type 0 =
    λ own. TakesRun c.args.up.now c.args.next own accepted.written.words.words (items_of outcome) c.byte.follows.lender-at-none in (
      record {
        words = accepted.written.words.words;
        items = items_of outcome;
        takes = subst T (sym (first_byte c.args.bytes.now c.requires.some))
            (byte_taken c.args.up.now byte c.args.next c.args.words.now outcome c.show.new.words c.byte.follows.lender-at-none accepted
            c.byte.follows.holds-at-none);
        within = omega (arith, c.requires.some);
        written_is = accepted.written.words.count_is;
        items_is = c.put_item.ensures.count;
        words_are = accepted.written.words.front;
        outcomes_are = c.put_item.ensures.written;
      },
      omega arith,
      λ wrong. absurd (omega (arith, wrong)),
    )
