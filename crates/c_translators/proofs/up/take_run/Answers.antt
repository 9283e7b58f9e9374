use Rattle.std.proofs.Common.{◌≡◌, ◌+◌, ◌-◌, ◌∙◌, List, ℕ, [], ◌∷◌, length, take, refl, ap, subst, arith}
use Rattle.std.proofs.lemmas.List.{length-take-le}
use Rattle.std.specs.Prelude.{slice_set}
use Rattle.ump_grammar.specs.Reading.{Encodes}
use Rattle.ump_grammar.specs.declared.packet.Packet.{Packet}
use Rattle.up_translator.proofs.DirectLaws.{fits}
use Rattle.up_translator.specs.DirectWords.{packet_of}
use Rattle.up_translator.specs.Fronts.{RaiseNothing}
use Rattle.up_translator.specs.Held.{UpState}
use Rattle.c_answers.specs.Lines.{no_line}
use Rattle.c_answers.specs.Outcomes.{outcome_of}
use Rattle.c_answers.specs.declared.outcome.ByteOutcome.{ByteOutcome}
use Rattle.c_answers.proofs.FrontLaws.{set_front}
use Rattle.c_translators.proofs.RunLaws.{nothing_run, one_run}
use Rattle.c_translators.proofs.up.take_run.Goals as goal

pub returns-in-None : goal.returns-in-None
returns-in-None c =
    let run : List ℕ = take c.take_data.result c.args.bytes.now in
    let N : UpState → Type 0 = λ up. RaiseNothing run up c.args.next c.take_data.new.self in
    record {
      words = [];
      items = [];
      takes = nothing_run c.exclusives_stay_within_their_limit.ensures run c.args.up.now c.args.next c.take_data.new.self c.requires.sound
          (subst N c.in-None.ensures.1 (c.take_data.ensures.after c.args.next));
      within = c.take_data.ensures.within;
      written_is = refl;
      items_is = refl;
      words_are = refl;
      outcomes_are = refl;
    }

pub returns-in-Some : goal.returns-in-Some
returns-in-Some c =
    let front = c.in-Some.ensures in
    let put = c.put_packet-written.ensures.encoded in
    let run : List ℕ = take c.in-Some.count c.args.bytes.now in
    let size : length run ≡ c.in-Some.count = length-take-le c.in-Some.count c.args.bytes.now front.within in
    let at : c.args.next + (c.in-Some.count - 1) ≡ c.args.next + (length run - 1) = omega (arith, size) in
    let outcome : ByteOutcome = outcome_of (c.args.next + (length run - 1)) (length put.words) no_line no_line in
    let outcome_is : c.of.result ≡ outcome =
    c.of.ensures ∙ (λ i. outcome_of (at i) (put.count_is i) (c.none.ensures i) (c.none-in-Some.ensures i)) in
    let E : Packet → Type 0 = λ packet. Encodes packet put.words in
    record {
      words = put.words;
      items = outcome ∷ [];
      takes = one_run c.exclusives_stay_within_their_limit.ensures run c.args.up.now c.args.next (packet_of c.in-Some.message) put.words
          c.front.new.self c.requires.sound refl (fits c.in-Some.message front.raised_direct) (subst E c.of_value.ensures put.encoded)
          (omega (arith, put.count_is, c.put_packet-written.ensures.some)) (front.raised c.args.next);
      within = front.within;
      written_is = put.count_is;
      items_is = refl;
      words_are = put.front;
      outcomes_are = ap (slice_set c.args.outcomes.now 0) outcome_is ∙ set_front [] c.args.outcomes.now outcome c.requires.item_room;
    }
