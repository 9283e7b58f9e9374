use Rattle.std.proofs.Common.{List, ◌++◌, Ok, length, refl, ap, sym, subst, ◌∙◌, arith}
use Rattle.std.specs.Option.{option_to_list}
use Rattle.std.proofs.lemmas.Bool.{le-ltb}
use Rattle.voice_state.specs.declared.fact.Fact.{Fact}
use Rattle.c_voice_state.specs.Facts.{ArePut}
use Rattle.c_voice_state.proofs.told.put_counts.Goals as goal

pub returns-in-None-None : goal.returns-in-None-None
returns-in-None-None c =
    λ scale states keeps.
    let first = ap option_to_list (sym c.in-None-None.is-0) ∙ c.system_fact.ensures scale states keeps in
    let second = ap option_to_list (sym c.in-None-None.is-1) ∙ c.real_time_fact.ensures scale states keeps in
    let A : List Fact → Type 0 = λ told. ArePut told c.args.buffer.now (Ok 0) c.args.buffer.now in
    subst A (λ i. first i ++ second i) (le-ltb (length c.args.buffer.now) 0 (omega arith), refl, refl)

pub returns-in-Some-Some : goal.returns-in-Some-Some
returns-in-Some-Some c =
    λ scale states keeps.
    let first = ap option_to_list (sym c.in-Some-Some.is-0) ∙ c.system_fact.ensures scale states keeps in
    let second = ap option_to_list (sym c.in-Some-Some.is-1) ∙ c.real_time_fact.ensures scale states keeps in
    let A : List Fact → Type 0 = λ told. ArePut told c.args.buffer.now c.put_two.result c.put_two.new.buffer in
    subst A (λ i. first i ++ second i) c.put_two.ensures

pub returns-in-Some-None : goal.returns-in-Some-None
returns-in-Some-None c =
    λ scale states keeps.
    let first = ap option_to_list (sym c.in-Some-None.is-0) ∙ c.system_fact.ensures scale states keeps in
    let second = ap option_to_list (sym c.in-Some-None.is-1) ∙ c.real_time_fact.ensures scale states keeps in
    let A : List Fact → Type 0 = λ told. ArePut told c.args.buffer.now c.put_one-in-Some-None.result c.put_one-in-Some-None.new.buffer in
    subst A (λ i. first i ++ second i) c.put_one-in-Some-None.ensures

pub returns-in-None-Some : goal.returns-in-None-Some
returns-in-None-Some c =
    λ scale states keeps.
    let first = ap option_to_list (sym c.in-None-Some.is-0) ∙ c.system_fact.ensures scale states keeps in
    let second = ap option_to_list (sym c.in-None-Some.is-1) ∙ c.real_time_fact.ensures scale states keeps in
    let A : List Fact → Type 0 = λ told. ArePut told c.args.buffer.now c.put_one.result c.put_one.new.buffer in
    subst A (λ i. first i ++ second i) c.put_one.ensures
