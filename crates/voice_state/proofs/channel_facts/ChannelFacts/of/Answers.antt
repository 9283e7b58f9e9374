use Rattle.std.proofs.Common.{◌≡◌, ◌∙◌, ◌++◌, ap, map}
use Rattle.std.specs.Option.{option_to_list}
use Rattle.voice_state.specs.declared.fact.Fact.TheVariants as fact
use Rattle.voice_state.specs.Facts.{act_fact, in_order}
use Rattle.voice_state.proofs.FactsLeft.{acts_all}
use Rattle.voice_state.proofs.channel_facts.ChannelFacts.of.Goals as goal

pub returns : goal.returns
returns c = λ scale state keeps.
    let group = c.args.group in
    let channel = c.args.channel in
    let acts = acts_all group channel c.as_slice.result.now ∙ ap (map (act_fact group channel)) (c.as_slice.ensures ∙ keeps.acts) in
    let poly : c.facts.result ≡ in_order (fact.Poly group channel) state.poly = c.facts.ensures state.poly keeps.poly in
    let controllers : c.facts-2.result ≡ in_order (fact.Control group channel) state.controllers =
    c.facts-2.ensures state.controllers keeps.controllers in
    let pressure = c.pressure_fact.ensures scale state keeps in
    let bend = c.bend_fact.ensures scale state keeps in
    let program = ap option_to_list (c.program_fact.ensures scale state keeps) in
    let registered = c.facts-3.ensures state keeps.params.registered in
    let assignable = c.facts-4.ensures state keeps.params.assignable in
    λ i. acts i ++ poly i ++ controllers i ++ (pressure i ++ bend i ++ program i) ++ registered i ++ assignable i
