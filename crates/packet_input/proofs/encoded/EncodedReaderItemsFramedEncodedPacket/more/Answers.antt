use Rattle.packet_input.proofs.encoded.EncodedReaderItemsFramedEncodedPacket.more.Goals as goal

pub returns-clause-answer : goal.returns-clause-answer
returns-clause-answer g c = λ first all items so_far. c.more_words.ensures.answer first.words.how all items so_far
