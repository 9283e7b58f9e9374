-- A key is one group and one stream id.
use Rattle.std.proofs.Common.{ℕ, ◌≡◌, ◌<◌, true, false, arith, ◌==◌}
use Rattle.std.proofs.lemmas.Bool.{eq-eqb, ne_eqb}
use Rattle.sysex8_streams.specs.History.{key_of}

pub same-key : (group other_group stream other_stream : ℕ) → group ≡ other_group → stream ≡ other_stream
    → (key_of group stream == key_of other_group other_stream) ≡ true
same-key group other_group stream other_stream groups streams =
    eq-eqb (key_of group stream) (key_of other_group other_stream) (omega (arith, groups, streams))

pub other-group : (group other_group stream other_stream : ℕ) → stream < 256 → other_stream < 256 → (group ≡ other_group → ⊥)
    → (key_of group stream == key_of other_group other_stream) ≡ false
other-group group other_group stream other_stream small other_small differ =
    ne_eqb (key_of group stream) (key_of other_group other_stream) (λ same. differ (omega (arith, same, small, other_small)))

pub other-stream : (group other_group stream other_stream : ℕ) → stream < 256 → other_stream < 256 → (stream ≡ other_stream → ⊥)
    → (key_of group stream == key_of other_group other_stream) ≡ false
other-stream group other_group stream other_stream small other_small differ =
    ne_eqb (key_of group stream) (key_of other_group other_stream) (λ same. differ (omega (arith, same, small, other_small)))

pub ruleset key_laws = (same-key, other-group, other-stream)
