use Rattle.std.proofs.Common.{◌≡◌, ◌<◌, ◌*◌, [], List, ℕ, arith, ap, sym, subst, length, drop, length-take}
use Rattle.std.specs.List.{All}
use Rattle.ump_grammar.specs.Replies.{AddsPackets}
use Rattle.voice_messages.specs.declared.voice2.Form.{Form}
use Rattle.sysex_groups.specs.Cut.{part_count}
use Rattle.ci_responder.specs.Replies.{first_packets}
use Rattle.ci_responder.proofs.PacketLaws.{chunk-data, first-more, part, part-cut, part-few, part-past, part-within}
use Rattle.ci_responder.proofs.packets.push_payload.Goals as goal

pub push-requires-clause-packet : goal.push-requires-clause-packet
push-requires-clause-packet c =
    let payload : List ℕ = c.args.payload.now in
    let k : ℕ = c.loop-form.k in
    let p : Form × List ℕ = (c.in-Some.form, c.in-Some.bytes) in
    let within : k < part_count payload = part-within payload k p c.in-Some.ensures in
    let cut : p ≡ part payload k = part-cut payload k p within c.in-Some.ensures in
    let bytes : c.in-Some.bytes ≡ (part payload k).1 = ap (λ q. q.1) cut in
    let Q : List ℕ → Type 0 = All (λ b. b < 128) in (
      c.get.ensures.below,
      omega (arith, ap length bytes, length-take 6 (drop (k * 6) payload)),
      subst Q (sym bytes) (chunk-data payload k c.requires.bytes),
    )

pub push-requires-clause-fits : goal.push-requires-clause-fits
push-requires-clause-fits c =
    let payload : List ℕ = c.args.payload.now in
    omega (
      arith,
      part-within payload c.loop-form.k (c.in-Some.form, c.in-Some.bytes) c.in-Some.ensures,
      part-few payload c.requires.fits,
      c.loop-form.invariant.count,
    )

pub loop-form-smaller : goal.loop-form-smaller
loop-form-smaller c = omega (arith, part-within c.args.payload.now c.loop-form.k (c.in-Some.form, c.in-Some.bytes) c.in-Some.ensures)

pub loop-form-preserved : goal.loop-form-preserved
loop-form-preserved c =
    let payload : List ℕ = c.args.payload.now in
    let k : ℕ = c.loop-form.k in
    let p : Form × List ℕ = (c.in-Some.form, c.in-Some.bytes) in
    let within : k < part_count payload = part-within payload k p c.in-Some.ensures in
    let cut : p ≡ part payload k = part-cut payload k p within c.in-Some.ensures in
    record {
      packets =
          first-more c.args.group payload k p c.loop-form.replies c.push.new.self cut c.loop-form.invariant.packets c.push.ensures.added;
      count = omega (arith, c.push.ensures.length, c.loop-form.invariant.count);
      within = omega (arith, within);
    }

pub returns-clause-packets : goal.returns-clause-packets
returns-clause-packets c =
    let payload : List ℕ = c.args.payload.now in
    let all : c.loop-form.k ≡ part_count payload =
    omega (arith, part-past payload c.loop-form.k c.in_default.ensures, c.loop-form.invariant.within) in
    let P : ℕ → Type 0 = λ k. AddsPackets (first_packets c.args.group payload k) [] c.loop-form.replies in
    subst P all c.loop-form.invariant.packets

pub returns-clause-few : goal.returns-clause-few
returns-clause-few c = omega (arith, part-few c.args.payload.now c.requires.fits, c.loop-form.invariant.within, c.loop-form.invariant.count)
