use Rattle.std.proofs.Common.{◌<◌, ◌++◌, length, take, arith}
use Rattle.std.specs.Prelude.{reverse}
use Rattle.self_test.proofs.BackLaws.{comes_back_more, place_at, played_at}
use Rattle.self_test.proofs.back.bring_back.Goals as goal

pub bring_byte_back-again-requires : goal.bring_byte_back-again-requires
bring_byte_back-again-requires c =
    let past = c.requires.ready.0 in
    let piece = c.args.piece.now in
    let i = c.loop-byte.byte-index in
    let within : i < length piece = omega (arith, c.loop-byte-test.true) in
    record {
      ready = (
        reverse (take i piece) ++ past,
        (c.loop-byte.invariant.back past c.requires.ready.1 c.requires.ready.2 c.requires.ready.3).returned,
        (played_at past piece i within c.requires.ready.2).0,
        place_at past piece i c.args.offset c.loop-byte.at within c.requires.ready.3 c.loop-byte.invariant.place,
      );
    }

pub loop-byte-preserved : goal.loop-byte-preserved
loop-byte-preserved c =
    let piece = c.args.piece.now in
    let i = c.loop-byte.byte-index in
    let within : i < length piece = omega (arith, c.loop-byte-test.true) in
    record {
      place = omega (arith, c.loop-byte.invariant.place);
      few = omega (arith, c.loop-byte.invariant.few, c.bring_byte_back-again.ensures.few);
      back = λ past returned played place.
          let before = c.loop-byte.invariant.back past returned played place in
          comes_back_more past piece i c.loop-byte.again c.bring_byte_back-again.result c.loop-byte.up c.bring_byte_back-again.new.up
          c.loop-byte.down c.bring_byte_back-again.new.down within before
          (c.bring_byte_back-again.ensures.back (reverse (take i piece) ++ past) before.returned (played_at past piece i within played).0
          (place_at past piece i c.args.offset c.loop-byte.at within place c.loop-byte.invariant.place));
    }
