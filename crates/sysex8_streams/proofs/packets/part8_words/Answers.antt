use Rattle.sysex8_streams.proofs.WordLaws.{encodes-seen}
use Rattle.sysex8_streams.proofs.packets.part8_words.Goals as goal

pub returns : goal.returns
returns c =
    let made = c.packet_words.ensures in
    let seen = c.as_slice.ensures in
    encodes-seen c.args.part.now c.packet_words.result c.as_slice.result.now seen.value seen.fits made.four made.kind made.group made.form
    made.count made.stream made.places
