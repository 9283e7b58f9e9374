use Rattle.up_translator.specs.DirectWords.{packet_of}
use Rattle.translation_passes.specs.Back.{PutsDown, back_options, returning}
use Rattle.translation_passes.proofs.BackLaws.{alone_comes_down}
use Rattle.translation_passes.proofs.BackRuns.{HoldsBackFrom, engine_of, last_back, silent_back}
use Rattle.translation_passes.proofs.FrontLaws.{front_count, front_last, takes_run}
use Rattle.translation_passes.proofs.back.BackEngineRuns.take_run.Goals as goal

pub put_front-requires : goal.put_front-requires
put_front-requires g c =
    record {
      taken = λ message count new front.
          let first = c.requires.holds.0 in
          let paired = first.up.holding.paired in
          let down = c.args.self.now.down in
          let law = c.raised_bytes_are_the_definition.ensures paired in
          let silence = c.raised_packets_come_back_in_silence.ensures paired in
          let laws = c.what_is_held_is_the_definition.ensures paired in
          let in_range = c.raised_packets_are_in_range.ensures paired in
          let l =
          front_last (returning (back_options first.up)) (HoldsBackFrom first) engine_of down
          (λ up past byte holds raises. silent_back first law silence laws in_range down up past byte holds raises) c.args.bytes.now
          c.requires.holds.1 c.args.self.now.up message count new c.requires.holds.2 front in
          alone_comes_down (back_options first.up) law silence laws in_range l.up down l.before l.byte l.holds (packet_of message) l.raised;
    }

pub returns-clause-count : goal.returns-clause-count
returns-clause-count g c =
    front_count (PutsDown 0) c.args.self.now.up c.put_front.new.up c.args.bytes.now c.args.self.now.down c.put_front.new.work _ _
    c.put_front.result c.put_front.ensures.front

pub returns-clause-run : goal.returns-clause-run
returns-clause-run g c = λ first past holds.
    let paired = first.up.holding.paired in
    let down = c.args.self.now.down in
    let law = c.raised_bytes_are_the_definition.ensures paired in
    let silence = c.raised_packets_come_back_in_silence.ensures paired in
    let laws = c.what_is_held_is_the_definition.ensures paired in
    let in_range = c.raised_packets_are_in_range.ensures paired in
    takes_run (returning (back_options first.up)) (HoldsBackFrom first) engine_of down
    (λ up past byte holds raises. silent_back first law silence laws in_range down up past byte holds raises) (PutsDown 0)
    (λ up past byte packet to puts holds raises done.
    last_back first law silence laws in_range down up past byte holds packet to puts raises done) past
    c.args.bytes.now c.args.self.now.up c.put_front.new.up c.put_front.new.work _ _ c.put_front.result holds c.put_front.ensures.front

pub returns-clause-none : goal.returns-clause-none
returns-clause-none g c = c.put_front.ensures.none
