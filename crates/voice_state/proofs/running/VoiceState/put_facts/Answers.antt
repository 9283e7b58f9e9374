use Rattle.std.proofs.Common.{append-nil, append_assoc, ◌∙◌, ◌++◌, ◌<◌, ap, sym, subst, arith, ℕ, List}
use Rattle.voice_state.specs.declared.fact.Fact.{Fact}
use Rattle.voice_state.specs.Facts.{facts_of_groups, group_facts}
use Rattle.voice_state.specs.Kept.{Keeps, KeepsGroup}
use Rattle.voice_state.proofs.ToldFacts.{more, none_first}
use Rattle.voice_state.proofs.running.VoiceState.put_facts.Goals as goal

pub loop-index-init : goal.loop-index-init
loop-index-init c = λ scale states keeps. sym (append-nil c.args.facts.now.items)
    ∙ ap (λ ys. c.args.facts.now.items ++ ys) (sym (none_first (λ group. group_facts scale group (states group))))

pub loop-index-preserved : goal.loop-index-preserved
loop-index-preserved c = λ scale states keeps.
    let index = c.loop-index.index in
    let told : ℕ → List Fact = λ group. group_facts scale group (states group) in
    let below : index < 16 = c.loop-index-test.true in
    let place = c.low_bits.ensures in
    let kept = subst (λ groups. Keeps scale groups states) (sym c.self.view_is) keeps in
    let found = subst (λ group. KeepsGroup scale group (states index)) (sym c.index.ensures) (kept index c.index.result.now below) in
    c.in_ok-put_facts.ensures scale (states index) found
    ∙ ap (λ group. c.loop-index.facts.items ++ group_facts scale group (states index)) (omega (arith, place, below))
    ∙ ap (λ ys. ys ++ told index) (c.loop-index.invariant scale states keeps)
    ∙ append_assoc c.args.facts.now.items (facts_of_groups index scale states) (told index)
    ∙ ap (λ ys. c.args.facts.now.items ++ ys) (sym (more told index))
