use Rattle.std.proofs.Common.{Bool, refl, subst, inr}
use Rattle.midi_clip.specs.Header.{HasTaken}
use Rattle.pass_loop.specs.Pass.{Seen, seen_with}
use Rattle.clip_pass.specs.Ends.{ClipEnds}
use Rattle.clip_pass.proofs.EndLaws.{no-clip, seen-before}
use Rattle.clip_pass.proofs.clipping.show_clip.Goals as goal

pub returns-in-Ok-true : goal.returns-in-Ok-true
returns-in-Ok-true g c =
    let old : Seen = seen_with g.S.Source c.args.input.now (g.O.Outputs.places c.args.outputs.now) in
    let mid : Seen = seen_with g.S.Source c.header.new.source (g.O.Outputs.places c.args.outputs.now) in
    let new : Seen = seen_with g.S.Source c.show_packets.new.input (g.O.Outputs.places c.show_packets.new.outputs) in
    let E : Seen → Type 0 = λ s. ClipEnds s new c.show_packets.result in
    let T : Bool → Type 0 = λ is_header. HasTaken old.left mid.left is_header in
    subst E (seen-before old mid (subst T c.in-Ok-true.field-0-test c.in-Ok-true.ensures.bytes) c.in-Ok-true.ensures.cause.kept refl)
    c.show_packets.ensures

pub returns-in-Ok-false : goal.returns-in-Ok-false
returns-in-Ok-false g c =
    let old : Seen = seen_with g.S.Source c.args.input.now (g.O.Outputs.places c.args.outputs.now) in
    let new : Seen = seen_with g.S.Source c.header.new.source (g.O.Outputs.places c.args.outputs.now) in
    let T : Bool → Type 0 = λ is_header. HasTaken old.left new.left is_header in
    no-clip old new (record {
      first = refl;
      taken = subst T c.in-Ok-false.field-0-test c.in-Ok-false.ensures.bytes;
      places = refl;
      reads = c.in-Ok-false.ensures.cause.kept;
    })

pub returns-in-Err : goal.returns-in-Err
returns-in-Err g c =
    inr (
      refl,
      record {
        taken = c.in-Err.ensures.bytes.0;
        few = c.in-Err.ensures.bytes.1;
        lost = c.in-Err.ensures.bytes.2;
        places = refl;
        reads = c.in-Err.ensures.cause.rose;
      },
    )
