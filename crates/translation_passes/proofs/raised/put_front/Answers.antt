use Rattle.translation_passes.proofs.raised.put_front.Goals as goal

pub put_direct-requires-clause-accepted : goal.put_direct-requires-clause-accepted
put_direct-requires-clause-accepted g c =
    c.requires.taken c.in-Some.message c.in-Some.count c.front.new.self c.in-Some.ensures
