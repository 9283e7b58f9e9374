use Rattle.std.proofs.Common.{ℕ, List, Bool, sym, subst}
use Rattle.std.proofs.lemmas.Bool.{le-ltb, lt-ltb}
use Rattle.std.specs.Prelude.{if◌then◌else◌}
use Rattle.voice_state.specs.Facts.{channel_facts, group_counts}
use Rattle.voice_state.specs.declared.fact.Fact.{Fact}
use Rattle.c_voice_state.specs.Facts.{ArePut}
use Rattle.c_voice_state.proofs.told.put_asked.Goals as goal

pub returns-in-Some : goal.returns-in-Some
returns-in-Some c =
    λ scale states keeps.
    let group = c.args.group in let channel = c.args.channel in
    let F : ℕ → List Fact = λ n. channel_facts scale group n ((states group).channels n) in
    let C : ℕ → Type 0 = λ n. ArePut (F n) c.args.buffer.now c.put_channel.result c.put_channel.new.buffer in
    let B : Bool → Type 0 = λ below. ArePut (if below then F channel else group_counts group (states group)) c.args.buffer.now
    c.put_channel.result c.put_channel.new.buffer in
    subst B (sym (lt-ltb channel 16 c.in-Some.ensures.1)) (subst C c.in-Some.ensures.0 (c.put_channel.ensures scale states keeps))

pub returns-in-None : goal.returns-in-None
returns-in-None c =
    λ scale states keeps.
    let group = c.args.group in let channel = c.args.channel in
    let B : Bool → Type 0 = λ below. ArePut
    (if below then channel_facts scale group channel ((states group).channels channel) else group_counts group (states group))
    c.args.buffer.now c.put_counts.result c.put_counts.new.buffer in
    subst B (sym (le-ltb channel 16 c.in-None.ensures)) (c.put_counts.ensures scale states keeps)
