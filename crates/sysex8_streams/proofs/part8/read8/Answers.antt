use Rattle.std.proofs.Common.{◌≡◌, rules}
use Rattle.ump_grammar.specs.Spelling.{form_number}
use Rattle.sysex8_streams.proofs.ReadLaws.{part-is}
use Rattle.sysex8_streams.proofs.part8.read8.Goals as goal

pub returns : goal.returns
returns c =
    let numbered : c.bits.result ≡ form_number c.in_ok-form.form = search rules in
    part-is c.args.words.now c.as_slice.result.now c.as_slice-2.result.now c.nibble.result c.in_ok-form.form c.byte.result c.bits.result
    c.bits-count.result c.extend.new.self c.data_places-places.result c.new-bytes.result
    c.as_slice.ensures.words c.as_slice-2.ensures.words c.bits.ensures numbered c.bits-count.ensures c.if-count-eq0.false
    c.if-count-eq15.false c.nibble.ensures c.byte.ensures c.data_places-places.ensures c.new-bytes.ensures c.extend.ensures
