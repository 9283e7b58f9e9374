use Rattle.std.proofs.Common.{◌≡◌, ℕ, List, length, false, ap}
use Rattle.midi_meaning.specs.Parts.{Placed}
use Rattle.down_translator.specs.Recording.{packets_of}
use Rattle.self_test.specs.declared.counts.Counts.{Counts}
use Rattle.self_test.specs.declared.course.Course.{Course}
use Rattle.self_test.specs.Counts.{bytes_over}
use Rattle.self_test.proofs.CourseLaws.{one_more, piece_is_read}
use Rattle.self_test.proofs.course.Course.take.Goals as goal

pub bring_back-again-requires-clause-ready : goal.bring_back-again-requires-clause-ready
bring_back-again-requires-clause-ready c =
    let past : List Placed = c.requires.taken.0 in
    let taken = c.requires.taken.1 in (
      bytes_over (packets_of past),
      taken.returned,
      (piece_is_read past c.args.self.now c.args.offset c.args.packet.now c.in-Ok.carried c.requires.played taken
          c.in-Ok.ensures.answer).played,
      ap (λ (counts : Counts). counts.bytes) taken.counts_are,
    )

pub returns-in-Ok : goal.returns-in-Ok
returns-in-Ok c = λ past taken.
    let old : Course = c.args.self.now in
    let new : Course = record {
      down = c.packet.follows.lender-at-none;
      up = c.bring_back-again.new.up;
      again = c.bring_back-again.new.down;
      counts = c.with_more-self.result;
    } in
    let bytes : List ℕ = bytes_over (packets_of past) in
    let read = piece_is_read past old c.args.offset c.args.packet.now c.in-Ok.carried c.requires.played taken c.in-Ok.ensures.answer in
    let place : old.counts.bytes ≡ length bytes = ap (λ (counts : Counts). counts.bytes) taken.counts_are in
    one_more (c.carried_packets_have_a_piece.ensures false) (c.rooms_that_are_not_reached_do_not_matter_in_bytes.ensures false) past old new
    c.args.offset c.args.packet.now c.in-Ok.carried c.bring_back-again.result c.requires.played taken c.in-Ok.ensures.answer
    c.packet.follows.holds-at-none (c.bring_back-again.ensures.back bytes taken.returned read.played place) c.bring_back-again.ensures.few
    c.with_more-self.ensures
