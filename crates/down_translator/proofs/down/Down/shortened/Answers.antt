use Rattle.std.proofs.Common.{◌≡◌, false, subst, sym}
use Rattle.std.specs.Prelude.{MatchOption}
use Rattle.ump_grammar.specs.declared.packet.Packet.{Packet}
use Rattle.down_translator.specs.Lowered.{IsShortenedStep, goes_shortened}
use Rattle.down_translator.proofs.down.Down.shortened.Goals as goal

pub returns-in-Some : goal.returns-in-Some
returns-in-Some c =
    let after = c.shortened_direct.new.self in
    let Taken : Packet → Type 0 =
    λ p. MatchOption c.shortened_direct.result ((goes_shortened c.args.self.now p ≡ false) × (after ≡ c.args.self.now))
    (λ short. IsShortenedStep c.args.self.now p short after) in
    subst Taken (sym c.in-Some.ensures.1) c.shortened_direct.ensures
