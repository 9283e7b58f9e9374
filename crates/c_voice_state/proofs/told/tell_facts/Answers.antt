use Rattle.std.proofs.Common.{◌≡◌, ◌≤◌, ◌<◌, ◌⊎◌, ℕ, List, Bool, Ok, true, inl, inr, refl, sym, subst, arith}
use Rattle.std.proofs.lemmas.Bool.{lt-ltb}
use Rattle.std.specs.Prelude.{◌==◌, ◌||◌, nat_lt}
use Rattle.voice_state.specs.declared.fact.Fact.{Fact}
use Rattle.c_voice_state.specs.Facts.{ArePut, AreTold, facts_at, no_channel, tells, tells_at}
use Rattle.c_voice_state.specs.declared.fact_numbers.FactNumbers.{FactNumbers}
use Rattle.c_voice_state.proofs.told.tell_facts.Goals as goal

in_range : (channel : ℕ) → (15 < channel × channel ≡ 255) ⊎ (channel ≤ 15) → (nat_lt channel 16 || channel == no_channel) ≡ true
in_range channel (inl (above, is)) = subst (λ n. (nat_lt n 16 || n == no_channel) ≡ true) (sym is) refl
in_range channel (inr below) = λ i. lt-ltb channel 16 (omega (arith, below)) i || channel == no_channel

told_of : (told : List Fact) (old : List FactNumbers) (written : ℕ) (new : List FactNumbers) → ArePut told old (Ok written) new
    → AreTold told old 0 written 0 new
told_of told old written new (room, count, front) = subst (λ small. tells small told old 0 written 0 new) (sym room) (refl, count, refl, front)

pub returns-in-Ok : goal.returns-in-Ok
returns-in-Ok c =
    let group = c.args.group in let channel = c.args.channel in
    let new = c.put_asked.new.buffer in
    let T : Bool → Bool → Type 0 = λ is_group is_channel. tells_at is_group is_channel c.args.state.now group channel c.args.buffer.now 0
    c.in-Ok.count 0 new in
    subst (λ is_group. T is_group (nat_lt channel 16 || channel == no_channel)) (sym (lt-ltb group 16 c.in-Some.ensures.1))
    (subst (T true) (sym (in_range channel c.else-channel-gt15.either)) (λ scale states keeps.
    let G : ℕ → Type 0 = λ n. ArePut (facts_at scale states n channel) c.args.buffer.now (Ok c.in-Ok.count) new in
    told_of (facts_at scale states group channel) c.args.buffer.now c.in-Ok.count new
    (subst G c.in-Some.ensures.0 (c.in-Ok.ensures scale states keeps))))
