use Rattle.std.proofs.Common.{◌≡◌, ◌*◌, List, subst, arith}
use Rattle.midi_meaning.specs.Parts.{Placed}
use Rattle.self_test.specs.Counts.{first_packets}
use Rattle.self_test.specs.ForProofs.Held.{HasTaken}
use Rattle.self_test.proofs.CountLaws.{length-first_packets, one_more_packet}
use Rattle.self_test.proofs.counts.count.Goals as goal

pub take-requires-clause-taken : goal.take-requires-clause-taken
take-requires-clause-taken c =
    let seed = c.args.seed in
    let index = c.loop-index.index in
    let size = length-first_packets seed index in (
      first_packets seed index,
      c.loop-index.invariant.taken,
      omega (arith, size, c.loop-index-test.true, c.ranges.packets.fits),
      omega (arith, size, c.from.ensures),
    )

pub loop-index-preserved : goal.loop-index-preserved
loop-index-preserved c =
    let seed = c.args.seed in
    let index = c.loop-index.index in
    let given = c.loop-index.invariant.given in
    let place : c.from.result * 8 ≡ 8 * index = omega (arith, c.from.ensures) in
    let T : List Placed → Type 0 = λ past. HasTaken past c.take.new.self in
    record {
      given = c.next-packet.ensures.after seed index given;
      taken =
          subst T
          (one_more_packet seed index (c.from.result * 8) c.next-packet.result place (c.next-packet.ensures.packet seed index given))
          (c.take.ensures (first_packets seed index) c.loop-index.invariant.taken);
    }
