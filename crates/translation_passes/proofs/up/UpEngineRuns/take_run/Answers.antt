use Rattle.up_translator.specs.DirectWords.{packet_of}
use Rattle.translation_passes.specs.Up.{raising}
use Rattle.translation_passes.proofs.FrontLaws.{front_count, front_last, takes_run}
use Rattle.translation_passes.proofs.UpLaws.{WritesWords, alone_is_packet}
use Rattle.translation_passes.proofs.UpRuns.{HoldsUpFrom, engine_of, last_up, options_of, silent_up}
use Rattle.translation_passes.proofs.up.UpEngineRuns.take_run.Goals as goal

pub put_front-requires : goal.put_front-requires
put_front-requires g c =
    record {
      taken = λ message count new front.
          let first = c.requires.holds.0 in
          let words = c.args.self.now.words in
          let law = c.raised_bytes_are_the_definition.ensures first.up.holding.paired in
          let l =
          front_last (raising (options_of first)) (HoldsUpFrom first) engine_of words
          (λ up past byte holds raises. silent_up first law words up past byte holds raises) c.args.bytes.now c.requires.holds.1
          c.args.self.now.up message count new c.requires.holds.2 front in
          alone_is_packet (options_of first) law l.up l.before l.byte l.holds.1
          (c.raised_packets_are_in_range.ensures first.up.holding.paired) (packet_of message) l.raised;
    }

pub returns-clause-count : goal.returns-clause-count
returns-clause-count g c =
    front_count WritesWords c.args.self.now.up c.put_front.new.up c.args.bytes.now c.args.self.now.words c.put_front.new.work _ _
    c.put_front.result c.put_front.ensures.front

pub returns-clause-run : goal.returns-clause-run
returns-clause-run g c = λ first past holds.
    let words = c.args.self.now.words in
    let law = c.raised_bytes_are_the_definition.ensures first.up.holding.paired in
    takes_run (raising (options_of first)) (HoldsUpFrom first) engine_of words
    (λ up past byte holds raises. silent_up first law words up past byte holds raises) WritesWords
    (λ up past byte packet to puts holds raises done. last_up first law words up past byte holds packet to puts raises done) past
    c.args.bytes.now c.args.self.now.up c.put_front.new.up c.put_front.new.work _ _ c.put_front.result holds c.put_front.ensures.front

pub returns-clause-none : goal.returns-clause-none
returns-clause-none g c = c.put_front.ensures.none
