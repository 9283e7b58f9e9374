use Rattle.std.proofs.Common.{Bool, ◌≡◌, ◌+◌, ◌*◌, ◌∙◌, List, [], ◌∷◌, ◌++◌, Option, Some, ℕ, ap, arith, length, refl, sym, subst}
use Rattle.std.specs.Prelude.{Result, Ok, Err, reverse}
use Rattle.item_reader.specs.SoFar.{given}
use Rattle.midi_clip.specs.declared.step.ClipFault.{ClipFault}
use Rattle.midi_clip.specs.declared.step.ClipStep.{ClipStep}
use Rattle.pass_loop.specs.ForProofs.PassLaws.{ends_at_close, ends_at_step, ends_failed, ends_refused, one_more, still}
use Rattle.pass_loop.specs.Pass.{ClosesBy, Seen, Takes, seen_with}
use Rattle.pass_loop.specs.Places.{Places}
use Rattle.pass_loop.specs.ForProofs.PutLaws.{over_puts-none}
use Rattle.pass_loop.specs.ForProofs.StepLaws.{takes_steps}
use Rattle.pass_loop.specs.declared.ends.Reason.TheVariants.{NoEnd}
use Rattle.pass_loop.specs.declared.ends.RunEnd.{RunEnd}
use Rattle.pass_loop.specs.declared.ends.RunEnd.TheVariants.{Refused, ReadFault, Done}
use Rattle.ump_words.specs.declared.words.Framed.{Framed}
use Rattle.ump_words.specs.declared.words.Order.TheVariants.{Big}
use Rattle.ump_grammar.specs.declared.packet.Packet.{Packet}
use Rattle.clip_pass.specs.Clipping.{clipping, end_refusal, size_over, puts_at, puts_by, refusal_by}
use Rattle.clip_pass.specs.Cutting.{clip_cutting}
use Rattle.clip_pass.specs.Ends.{with_header}
use Rattle.clip_pass.proofs.EndLaws.{as_any, unended}
use Rattle.clip_pass.proofs.HeaderLaws.{HasGiven, cut_of_clip, end_of_clip, fault_of_clip}
use Rattle.clip_pass.proofs.HeaderLaws.{front_of_clip, given_more, none_given, size_of_clip, whole_file}
use Rattle.clip_pass.proofs.StepLaws.{IsAny, IsOfWords, any-step, has-ended, has-not-ended, holds-more, holds-none, steps-are, text-is}
use Rattle.clip_pass.proofs.clipping.show_packets.Goals as goal

pub loop-at-init : goal.loop-at-init
loop-at-init g c =
    record {
      items = [];
      has = none_given c.args.words 8 (g.S.Source.left c.args.input.now) c.requires.words refl;
      holds = holds-none c.args.clip c.requires.clip;
      puts = [];
      accepted = tt;
      put = refl;
      places = sym (over_puts-none (g.O.Outputs.places c.args.outputs.now));
      reads = refl;
    }

pub overflow_add-size : goal.overflow_add-size
overflow_add-size g c =
    let i = c.loop-at.invariant in
    let place = c.in-Item.ensures.place Big (g.S.Source.left c.args.input.now) i.items i.has.packets in
    let same : length c.as_slice.result.now ≡ length c.in-Item.at.words = ap length c.as_slice.ensures.words in
    record { fits = omega (arith, place.0, place.2, place.3, same) }

pub loop-at-preserved : goal.loop-at-preserved
loop-at-preserved g c =
    let i =
    still _ _ _ _ _ (seen_with g.S.Source c.loop-at.input (g.O.Outputs.places c.write_out_before.new.outputs)) c.loop-at.invariant
    c.write_out_before.ensures refl in
    let after : Option (List ℕ) = g.S.Source.left c.args.input.now in
    let past : List (Framed × Packet) = reverse i.items in
    let item : Framed × Packet = (c.in-Item.at, c.in-Item.item) in
    let mid : Places = g.O.Outputs.places c.write_out_before.new.outputs in
    let new : Places = g.O.Outputs.places c.take_packet.new.outputs in
    let answer = c.in-Item.ensures.answer Big after i.items i.has.packets in
    let T : Result ClipStep ClipFault → Type 0 = λ r. Takes (refusal_by r c.in-Item.at.offset) (puts_by r item) mid new (Ok tt) in
    let takes = subst T (steps-are c.clips_are_the_definition.ensures c.loop-at.clip past c.in-Item.item i.holds) c.in-Ok.ensures.takes in
    let steps =
    takes_steps clipping past item mid new _ (Ok tt) (puts_at past item) takes
    (λ fine. (refl, holds-more c.loop-at.clip c.take_packet.new.clip past item answer.1 i.holds c.in-Ok.ensures.stage)) in
    let place = c.in-Item.ensures.place Big after i.items i.has.packets in
    let has =
    given_more c.loop-at.words c.next_packet.new.words c.loop-at.size c.in-Item.at.offset (length c.in-Item.at.words) after
    (g.S.Source.left c.loop-at.input) (g.S.Source.left c.next_packet.new.input) i.items item i.has
    answer.0 place.0 place.1 place.2 place.3 refl in
    let H : ℕ → Type 0 =
    λ words. HasGiven c.next_packet.new.words (c.in-Item.at.offset + 4 * words)
    (given after (g.S.Source.left c.next_packet.new.input) (i.items ++ item ∷ [])) in
    one_more clip_cutting clipping _ _ _ _ i (λ past puts holds accepted put. text-is past puts put) _ _ item _
    (subst H (ap length (sym c.as_slice.ensures.words)) has) c.in-Item.ensures.cause steps.0 steps.1

pub returns-in-Err : goal.returns-in-Err
returns-in-Err g c =
    let i =
    still _ _ _ _ _ (seen_with g.S.Source c.loop-at.input (g.O.Outputs.places c.write_out_before.new.outputs)) c.loop-at.invariant
    c.write_out_before.ensures refl in
    let after : Option (List ℕ) = g.S.Source.left c.args.input.now in
    let past : List (Framed × Packet) = reverse i.items in
    let item : Framed × Packet = (c.in-Item.at, c.in-Item.item) in
    let end : RunEnd = c.in-Err.end in
    let old : Seen = with_header (seen_with g.S.Source c.args.input.now (g.O.Outputs.places c.args.outputs.now)) in
    let mid : Places = g.O.Outputs.places c.write_out_before.new.outputs in
    let new : Seen = seen_with g.S.Source c.next_packet.new.input (g.O.Outputs.places c.take_packet.new.outputs) in
    let answer = c.in-Item.ensures.answer Big after i.items i.has.packets in
    let T : Result ClipStep ClipFault → Type 0 = λ r. Takes (refusal_by r c.in-Item.at.offset) (puts_by r item) mid new.places (Err end) in
    let takes = subst T (steps-are c.clips_are_the_definition.ensures c.loop-at.clip past c.in-Item.item i.holds) c.in-Err.ensures.takes in
    let steps = (takes_steps clipping past item mid new.places (Unit {0}) (Err end) (puts_at past item) takes (λ fine. (refl, tt))).0 in
    let stands =
    ends_at_step clip_cutting clipping _ _ old _ i (λ past puts holds accepted put. text-is past puts put) item end new
    (front_of_clip after (i.items ++ item ∷ []) answer.2) c.in-Item.ensures.cause steps in
    as_any IsAny (λ offset is. is) (λ offset is. is) old new end (any-step past mid new.places item end steps) stands

pub returns-in-Ok-end : goal.returns-in-Ok-end
returns-in-Ok-end g c =
    let i =
    still _ _ _ _ _ (seen_with g.S.Source c.loop-at.input (g.O.Outputs.places c.write_out_before.new.outputs)) c.loop-at.invariant
    c.write_out_before.ensures refl in
    let after : Option (List ℕ) = g.S.Source.left c.args.input.now in
    let old : Seen = with_header (seen_with g.S.Source c.args.input.now (g.O.Outputs.places c.args.outputs.now)) in
    let new : Seen = seen_with g.S.Source c.next_packet.new.input (g.O.Outputs.places c.write_out_before.new.outputs) in
    let ended =
    has-ended c.clips_are_the_definition.ensures c.loop-at.clip (reverse i.items) c.in-Ok-end.field-0 i.holds
    (sym c.end.ensures ∙ c.in-Ok-end.is) in
    let C : Bool → Type 0 =
    λ b. ClosesBy clipping (reverse i.items) new.places new.places (end_refusal b (size_over (reverse i.items))) (Ok tt) in
    as_any IsAny (λ offset is. is) (λ offset is. is) old new Done tt
    (ends_at_close clip_cutting clipping _ _ old _ i (λ past puts holds accepted put. text-is past puts put) (Ok tt) new
    (end_of_clip after i.items new.left (c.in-End.ensures.answer Big after i.items i.has.packets)) c.in-End.ensures.cause
    (subst C (sym ended) ([], refl, sym (over_puts-none new.places))))

pub returns-in-Err-end : goal.returns-in-Err-end
returns-in-Err-end g c =
    let i =
    still _ _ _ _ _ (seen_with g.S.Source c.loop-at.input (g.O.Outputs.places c.write_out_before.new.outputs)) c.loop-at.invariant
    c.write_out_before.ensures refl in
    let after : Option (List ℕ) = g.S.Source.left c.args.input.now in
    let old : Seen = with_header (seen_with g.S.Source c.args.input.now (g.O.Outputs.places c.args.outputs.now)) in
    let new : Seen = seen_with g.S.Source c.next_packet.new.input (g.O.Outputs.places c.write_out_before.new.outputs) in
    let end : RunEnd = Refused NoEnd c.loop-at.size in
    let goes_on =
    has-not-ended c.clips_are_the_definition.ensures c.loop-at.clip (reverse i.items) c.in-Err-end.field-0 i.holds
    (sym c.end.ensures ∙ c.in-Err-end.is) in
    let C : Bool → Type 0 =
    λ b. ClosesBy clipping (reverse i.items) new.places new.places (end_refusal b (size_over (reverse i.items))) (Err end) in
    let cut = end_of_clip after i.items new.left (c.in-End.ensures.answer Big after i.items i.has.packets) in
    unended c.loop-at.size old new
    (ends_at_close clip_cutting clipping _ _ old _ i (λ past puts holds accepted put. text-is past puts put) (Err end) new cut
    c.in-End.ensures.cause
    (subst C (sym goes_on) (ap (λ size. Err (Refused NoEnd size)) i.has.size_is, refl)))
    (record {
      items = i.items;
      puts = i.puts;
      cut = whole_file old.left i.items new.left c.loop-at.size cut
          (size_of_clip after i.items c.loop-at.words.offset c.loop-at.size i.has.end_is
          (c.in-End.ensures.place Big after i.items i.has.packets));
      done = record { accepted = i.accepted; put = i.put; meaning = text-is (reverse i.items) i.puts i.put };
      goes_on = goes_on;
      places = i.places;
      reads = c.in-End.ensures.cause ∙ i.reads;
    })

pub returns-in-Refused : goal.returns-in-Refused
returns-in-Refused g c =
    let i =
    still _ _ _ _ _ (seen_with g.S.Source c.loop-at.input (g.O.Outputs.places c.write_out_before.new.outputs)) c.loop-at.invariant
    c.write_out_before.ensures refl in
    let after : Option (List ℕ) = g.S.Source.left c.args.input.now in
    let end : RunEnd = Refused c.in-Refused.reason c.in-Refused.offset in
    let old : Seen = with_header (seen_with g.S.Source c.args.input.now (g.O.Outputs.places c.args.outputs.now)) in
    let new : Seen = seen_with g.S.Source c.next_packet.new.input (g.O.Outputs.places c.write_out_before.new.outputs) in
    let stands =
    ends_refused clip_cutting clipping _ _ old _ i (λ past puts holds accepted put. text-is past puts put) c.in-Refused.reason
    c.in-Refused.offset new
    (cut_of_clip after i.items (Some (c.in-Refused.reason, c.in-Refused.offset))
    (c.in-Refused.ensures.answer Big after i.items i.has.packets))
    refl c.in-Refused.ensures.cause in
    as_any IsOfWords (λ offset is. is) (λ offset is. is) old new end c.in-Refused.ensures.reason stands

pub returns-in-Failed : goal.returns-in-Failed
returns-in-Failed g c =
    let i =
    still _ _ _ _ _ (seen_with g.S.Source c.loop-at.input (g.O.Outputs.places c.write_out_before.new.outputs)) c.loop-at.invariant
    c.write_out_before.ensures refl in
    let after : Option (List ℕ) = g.S.Source.left c.args.input.now in
    let old : Seen = with_header (seen_with g.S.Source c.args.input.now (g.O.Outputs.places c.args.outputs.now)) in
    let new : Seen = seen_with g.S.Source c.next_packet.new.input (g.O.Outputs.places c.write_out_before.new.outputs) in
    let stands = ends_failed clip_cutting clipping _ _ old _ i (λ past puts holds accepted put. text-is past puts put) new
    (fault_of_clip after i.items new.left (c.in-Failed.ensures.answer Big after i.items i.has.packets).1) refl c.in-Failed.ensures.cause in
    as_any IsAny (λ offset is. is) (λ offset is. is) old new ReadFault tt stands
