use Rattle.std.proofs.Common.{◌≡◌, ◌∙◌, Option, refl, sym, subst}
use Rattle.std.specs.Prelude.{Some, None}
use Rattle.pass_loop.specs.Pass.{Takes}
use Rattle.sysex8_streams.specs.declared.part8.Part8.{Part8}
use Rattle.sysex8_streams.specs.History.{Answer8}
use Rattle.sysex8_streams.specs.Table.{answer8_to}
use Rattle.sysex8_pass.specs.Held.{data8_after}
use Rattle.sysex8_pass.specs.Joining.{answer_puts, answer_refusal, data8_puts, data8_refusal}
use Rattle.sysex8_pass.specs.Parts.{part_in}
use Rattle.sysex8_pass.proofs.PartLaws.{part-read}
use Rattle.sysex8_pass.proofs.joining.take_data8.Goals as goal

pub returns-in-Some : goal.returns-in-Some
returns-in-Some g c =
    let part : Part8 = c.in-Some.part in
    let offset = c.args.offset in
    let table = c.args.streams.now in
    let old = g.O.Outputs.places c.args.outputs.now in
    let new = g.O.Outputs.places c.put_answer.new.outputs in
    let read : Some part ≡ part_in c.args.words.now = sym c.in-Some.is ∙ part-read c.args.words.now c.read8.result c.read8.ensures in
    let A : Answer8 → Type 0 =
    λ answer. Takes (answer_refusal offset answer) (answer_puts offset part.group part.stream answer) old new c.put_answer.result in
    let B : Option Part8 → Type 0 = λ o. c.feed8.follows.lender-at-none ≡ data8_after offset o table in
    let T : Option Part8 → Type 0 =
    λ o. Takes (data8_refusal (answer8_to table) offset o) (data8_puts (answer8_to table) offset c.args.group o) old new
    c.put_answer.result in
    record {
      after = subst B read c.feed8.follows.holds-at-none;
      takes = subst T read (subst A c.feed8.ensures.answer c.put_answer.ensures);
    }

pub returns-in-None : goal.returns-in-None
returns-in-None g c =
    let offset = c.args.offset in
    let table = c.args.streams.now in
    let old = g.O.Outputs.places c.args.outputs.now in
    let new = g.O.Outputs.places c.put_kind.new.outputs in
    let read : None ≡ part_in c.args.words.now = sym c.in-None.is ∙ part-read c.args.words.now c.read8.result c.read8.ensures in
    let B : Option Part8 → Type 0 = λ o. table ≡ data8_after offset o table in
    let T : Option Part8 → Type 0 =
    λ o. Takes (data8_refusal (answer8_to table) offset o) (data8_puts (answer8_to table) offset c.args.group o) old new
    c.put_kind.result in
    record { after = subst B read refl; takes = subst T read c.put_kind.ensures }
