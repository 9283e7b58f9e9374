use Rattle.ump_grammar.proofs.Encoded.{Encodes-exclusive}
use Rattle.ump_grammar.proofs.encoding.exclusive.Goals as goal

pub returns : goal.returns
returns c =
    let made = c.exclusive_words.ensures in
    Encodes-exclusive c.args.group c.args.form c.args.bytes.now _ c.requires made.whole made.kind made.group made.form made.count
    made.places
