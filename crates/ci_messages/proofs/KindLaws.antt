-- Sub-ids and the kinds that they tell.
use Rattle.std.proofs.Common.{◌≡◌, ◌≤◌, ◌==◌, ℕ, true, false, arith, refl, sym, inl, inr, true≢false}
use Rattle.std.proofs.lemmas.Bool.{cases_Bool, eqb-true}
use Rattle.ci_messages.specs.declared.kind.Kind.{Kind}
use Rattle.ci_messages.specs.declared.kind.Kind.TheVariants as kind
use Rattle.ci_messages.specs.Messages.{has_row, kind_of, sub_of}

differs : (one other : ℕ) → (one ≡ other → ⊥) → (one == other) ≡ false
differs one other never = elim (cases_Bool (one == other)) [
  | inl same ↦ absurd (never (eqb-true one other same))
  | inr apart ↦ apart
]

named : (k : Kind) (version : ℕ) → (version == 0) ≡ false → (version == 1) ≡ false → kind_of (sub_of k) version ≡ k
named kind.Discovery version some full = rw (some, full) refl
named kind.DiscoveryReply version some full = rw (some, full) refl
named kind.EndpointInquiry version some full = rw (some, full) refl
named kind.EndpointReply version some full = rw (some, full) refl
named kind.Invalidate version some full = rw (some, full) refl
named kind.Nak version some full = rw (some, full) refl
named kind.ProfileInquiry version some full = rw (some, full) refl
named kind.ProfileReply version some full = rw (some, full) refl
named kind.SetOn version some full = rw (some, full) refl
named kind.SetOff version some full = rw (some, full) refl
named kind.EnabledReport version some full = rw (some, full) refl
named kind.DisabledReport version some full = rw (some, full) refl
named kind.Property version some full = rw (some, full) refl
named kind.Other version some full = rw (some, full) refl

pub named_in_full : (k : Kind) (version : ℕ) → 2 ≤ version → kind_of (sub_of k) version ≡ k
named_in_full k version full =
    named k version (differs version 0 (λ is. omega (arith, is, full))) (differs version 1 (λ is. omega (arith, is, full)))

pub named_in_short : (k : Kind) → has_row (sub_of k) 1 ≡ true → kind_of (sub_of k) 1 ≡ k
named_in_short kind.Discovery row = refl
named_in_short kind.DiscoveryReply row = refl
named_in_short kind.EndpointInquiry row = absurd (true≢false (sym row))
named_in_short kind.EndpointReply row = absurd (true≢false (sym row))
named_in_short kind.Invalidate row = refl
named_in_short kind.Nak row = refl
named_in_short kind.ProfileInquiry row = refl
named_in_short kind.ProfileReply row = refl
named_in_short kind.SetOn row = refl
named_in_short kind.SetOff row = refl
named_in_short kind.EnabledReport row = refl
named_in_short kind.DisabledReport row = refl
named_in_short kind.Property row = refl
named_in_short kind.Other row = refl
