-- The first packets of a seed.
use Rattle.std.proofs.Common.{◌≡◌, ℕ, ◌+◌, ◌*◌, ◌∷◌, zero, suc, length, refl, ap, sym, ◌∙◌, add-one}
use Rattle.ump_grammar.specs.declared.packet.Packet.{Packet}
use Rattle.self_test.specs.Counts.{first_packets}
use Rattle.self_test.specs.Generator.{generated}

pub length-first_packets : (seed count : ℕ) → length (first_packets seed count) ≡ count
length-first_packets seed zero = refl
length-first_packets seed (suc count) = ap suc (length-first_packets seed count)

pub one_more_packet : (seed count offset : ℕ) (p : Packet) → offset ≡ 8 * count → p ≡ generated seed count
    → record { offset = offset; packet = p } ∷ first_packets seed count ≡ first_packets seed (count + 1)
one_more_packet seed count offset p place is =
    (λ i. record { offset = place i; packet = is i } ∷ first_packets seed count) ∙ ap (first_packets seed) (sym (add-one count))
