use Rattle.std.proofs.Common.{◌∷◌, ◌+◌, [], List, ℕ, drop, take, sym, subst}
use Rattle.std.proofs.lemmas.Result.{err_from_is_err_and}
use Rattle.midi_lines.specs.FactLines.{fact_text}
use Rattle.pass_loop.specs.Places.{FailsAt}
use Rattle.pass_loop.specs.Put.{Put, in_output}
use Rattle.pass_loop.specs.ForProofs.PutLaws.{stops_more, then_stops}
use Rattle.show_pass.specs.KeptState.{fact_puts}
use Rattle.show_pass.proofs.KeptLaws.{all_facts}
use Rattle.show_pass.proofs.kept_state.put_facts.Goals as goal

pub returns-in_err-put_output : goal.returns-in_err-put_output
returns-in_err-put_output g c =
    let end = c.in_err-put_output.field-0.0 in
    let old = g.O.Outputs.places c.args.outputs.now in
    let mid = g.O.Outputs.places c.loop-fact.outputs in
    let new = g.O.Outputs.places c.put_output.new.self in
    let n : ℕ = c.loop-fact.fact-index in
    let all = c.args.facts.now in
    let fact = c.fact-item.result in
    let rest : List Put = fact_puts (drop (n + 1) all) in
    let F : List Put → Type 0 = λ puts. FailsAt puts end old new in
    let T : List ℕ → Type 0 = λ text. FailsAt (in_output text ∷ []) end mid new in
    let p = err_from_is_err_and c.from_residual.result c.from_residual.ensures.1 in
    rw (p.1, p.2) (subst F (sym (all_facts all n fact c.loop-fact-test.true c.fact-item.is))
    (then_stops (fact_puts (take n all)) (in_output (fact_text fact) ∷ rest) end old mid new c.loop-fact.invariant
    (stops_more (in_output (fact_text fact) ∷ []) rest end mid new
    (subst T c.fill_fact_line.ensures.text (subst T c.as_slice.ensures.value c.in_err-put_output.ensures)))))
