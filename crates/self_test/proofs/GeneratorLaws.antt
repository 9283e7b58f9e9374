-- The draws of a packet, one after the other.
use Rattle.std.proofs.Common.{◌≡◌, ◌<◌, ℕ, ◌+◌, ◌==◌, None, suc, ap, sym, ◌∙◌, refl, arith}
use Rattle.std.proofs.lemmas.Bool.{cond_both, eqb-true}
use Rattle.std.specs.Prelude.{nat_le}
use Rattle.ump_grammar.specs.declared.packet.Packet.TheVariants as packet
use Rattle.midi_meaning.specs.Controllers.{Role, role_of}
use Rattle.midi_meaning.specs.Refusal.{bad_control, bad_role}
use Rattle.self_test.specs.declared.generator.Draws.{Draws}
use Rattle.self_test.specs.ForProofs.Draws.{AreDrawn}
use Rattle.self_test.specs.Generator.{HasGiven, after_draw, draw_at, generated, drawn_message, number_over, upper_half}

number_over_more : (seed place : ℕ) → number_over seed (suc place) ≡ after_draw (number_over seed place)
unfolding number_over
number_over_more seed place = refl

-- a draw
pub drawn_at : (seed place number drawn : ℕ) → number ≡ number_over seed place → drawn ≡ upper_half (after_draw number)
    → drawn ≡ draw_at seed place
drawn_at seed place number drawn is e = e ∙ ap (λ n. upper_half (after_draw n)) is ∙ ap upper_half (sym (number_over_more seed place))

-- and the number after it
pub after_at : (seed place next number new : ℕ) → next ≡ place + 1 → number ≡ number_over seed place → new ≡ after_draw number
    → new ≡ number_over seed next
after_at seed place next number new place_is is e =
    let next_is : suc place ≡ next = omega arith in
    e ∙ ap after_draw is ∙ sym (number_over_more seed place) ∙ ap (number_over seed) next_is

pub nothing_given : (seed : ℕ) → HasGiven seed 0 seed
unfolding number_over
nothing_given seed = refl

-- the message of five draws
pub message_is : (seed place : ℕ) (draws : Draws) → AreDrawn seed place draws
    → packet.Voice2 0 (drawn_message draws.kind draws.channel draws.number draws.high draws.low) ≡ generated seed place
unfolding generated
message_is seed place draws are = rw (are.kind, are.channel, are.number, are.high, are.low)

-- ---- a controller below data increment

pub not_refused : (index : ℕ) → index < 96 → bad_control index ≡ None
unfolding role_of
not_refused index below =
    let P : Role → Type 0 = λ role. bad_role role ≡ None in
    cond_both (index == 0) _ _ P (λ e. refl) (λ e.
    cond_both (index == 32) _ _ P (λ e. refl) (λ e.
    cond_both (index == 6) _ _ P (λ e. refl) (λ e.
    cond_both (index == 38) _ _ P (λ e. refl) (λ e.
    cond_both (index == 96) _ _ P (λ e. absurd (omega (arith, below, eqb-true index 96 e))) (λ e.
    cond_both (index == 97) _ _ P (λ e. absurd (omega (arith, below, eqb-true index 97 e))) (λ e.
    cond_both (index == 98) _ _ P (λ e. refl) (λ e.
    cond_both (index == 99) _ _ P (λ e. refl) (λ e.
    cond_both (index == 100) _ _ P (λ e. refl) (λ e.
    cond_both (index == 101) _ _ P (λ e. refl) (λ e.
    cond_both (index == 121) _ _ P (λ e. refl) (λ e.
    cond_both (nat_le 120 index) _ _ P (λ e. refl) (λ e.
    cond_both (nat_le index 31) _ _ P (λ e. refl) (λ e.
    cond_both (nat_le index 63) _ _ P (λ e. refl) (λ e. refl))))))))))))))
