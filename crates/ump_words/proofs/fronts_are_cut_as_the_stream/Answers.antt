use Rattle.ump_words.proofs.fronts_are_cut_as_the_stream.Goals as goal

pub returns : goal.returns
returns c = λ order. (c.streams_are_cut_once.ensures order).front
