use Rattle.std.proofs.Common.{◌≡◌, ◌<◌, ◌≤◌, ◌∙◌, ℕ, ap, arith, subst}
use Rattle.ump_grammar.specs.Replies.{word_count}
use Rattle.system_stream.specs.Cut.{form_at, part_bytes, part_count}
use Rattle.system_stream.specs.Texts.{part_size}
use Rattle.function_blocks.specs.ForProofs.Pushing.{Pushes}
use Rattle.function_blocks.specs.Replies.{first_packets}
use Rattle.function_blocks.proofs.PushLaws.{cut-past, cut-within, few_parts, first-count, packet-cut, part_four_words, text-more}
use Rattle.function_blocks.proofs.answers.push_text.Goals as goal

pub push-requires-clause-fits : goal.push-requires-clause-fits
push-requires-clause-fits c =
    let kind = c.args.kind in
    let block = c.args.block in
    let text = c.args.text.now in
    let k = c.loop-packet.k in
    let few : part_count kind text ≤ 7 = few_parts kind text c.requires.limit in
    let within : k < part_count kind text = cut-within kind block text k c.in-Some.packet c.in-Some.ensures.packet in
    let four : word_count c.in-Some.packet ≡ 4 =
    ap word_count (packet-cut kind block text k c.in-Some.packet within c.in-Some.ensures.packet)
    ∙ part_four_words kind (form_at (part_count kind text) k) block (part_bytes (part_size kind) text k) in
    omega (arith, four, few, within, c.loop-packet.invariant.pushes.count, first-count kind block text k, c.requires.room)

pub loop-packet-smaller : goal.loop-packet-smaller
loop-packet-smaller c =
    omega (arith, cut-within c.args.kind c.args.block c.args.text.now c.loop-packet.k c.in-Some.packet c.in-Some.ensures.packet)

pub loop-packet-preserved : goal.loop-packet-preserved
loop-packet-preserved c =
    let kind = c.args.kind in
    let text = c.args.text.now in
    let within : c.loop-packet.k < part_count kind text =
    cut-within kind c.args.block text c.loop-packet.k c.in-Some.packet c.in-Some.ensures.packet in
    record {
      pushes =
          text-more kind c.args.block text c.loop-packet.k c.in-Some.packet c.args.replies.now c.loop-packet.replies c.push.new.self within
          c.in-Some.ensures.packet c.loop-packet.invariant.pushes c.push.ensures.added c.push.ensures.length;
      within = omega (arith, within);
    }

pub returns-clause-pushes : goal.returns-clause-pushes
returns-clause-pushes c =
    let kind = c.args.kind in
    let block = c.args.block in
    let text = c.args.text.now in
    let all : c.loop-packet.k ≡ part_count kind text =
    omega (arith, cut-past kind block text c.loop-packet.k c.in_default.ensures.packet, c.loop-packet.invariant.within) in
    let P : ℕ → Type 0 = λ k. Pushes (first_packets kind block text k) c.args.replies.now c.loop-packet.replies in
    subst P all c.loop-packet.invariant.pushes

pub returns-clause-few : goal.returns-clause-few
returns-clause-few c =
    let kind = c.args.kind in
    let text = c.args.text.now in
    omega (arith, first-count kind c.args.block text (part_count kind text), few_parts kind text c.requires.limit)
