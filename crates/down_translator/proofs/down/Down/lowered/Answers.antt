use Rattle.std.proofs.Common.{◌≡◌, false, subst, sym}
use Rattle.std.specs.Prelude.{MatchOption}
use Rattle.ump_grammar.specs.declared.packet.Packet.{Packet}
use Rattle.down_translator.specs.Lowered.{IsDirectStep, goes_direct}
use Rattle.down_translator.proofs.down.Down.lowered.Goals as goal

pub returns-in-Some : goal.returns-in-Some
returns-in-Some c =
    let Told : Packet → Type 0 =
    λ p. MatchOption c.lowered_message.result (goes_direct c.args.self.now p ≡ false) (λ m. IsDirectStep c.args.self.now p m) in
    subst Told (sym c.in-Some.ensures.1) c.lowered_message.ensures
