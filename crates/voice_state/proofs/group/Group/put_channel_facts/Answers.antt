use Rattle.std.proofs.Common.{◌∙◌, ◌++◌, ◌<◌, ap, sym, subst, arith, append-nil, append_assoc, ℕ, List}
use Rattle.voice_state.specs.declared.fact.Fact.{Fact}
use Rattle.voice_state.specs.Facts.{channel_facts, facts_of_channels}
use Rattle.voice_state.specs.Kept.{KeepsChannel, KeepsGroup}
use Rattle.voice_state.proofs.ToldFacts.{more, none_first}
use Rattle.voice_state.proofs.group.Group.put_channel_facts.Goals as goal

pub loop-index-init : goal.loop-index-init
loop-index-init c = λ scale state keeps.
    let before = c.args.facts.now.items in
    sym (append-nil before)
    ∙ ap (λ ys. before ++ ys) (sym (none_first (λ channel. channel_facts scale c.args.group channel (state.channels channel))))

pub loop-index-preserved : goal.loop-index-preserved
loop-index-preserved c = λ scale state keeps.
    let index = c.loop-index.index in
    let before = c.args.facts.now.items in
    let told : ℕ → List Fact = λ channel. channel_facts scale c.args.group channel (state.channels channel) in
    let so_far = facts_of_channels index scale c.args.group state in
    let below : index < 16 = c.loop-index-test.true in
    let place = c.low_bits.ensures in
    let kept = subst (λ group. KeepsGroup scale group state) (sym c.self.view_is) keeps in
    let found =
    subst (λ channel. KeepsChannel scale channel (state.channels index)) (sym c.index.ensures)
    (kept.channels index c.index.result.now below) in
    c.in_ok-put_facts.ensures scale (state.channels index) found
    ∙ ap (λ channel. c.loop-index.facts.items ++ channel_facts scale c.args.group channel (state.channels index))
    (omega (arith, place, below))
    ∙ ap (λ ys. ys ++ told index) (c.loop-index.invariant scale state keeps)
    ∙ append_assoc before so_far (told index)
    ∙ ap (λ ys. before ++ ys) (sym (more told index))
