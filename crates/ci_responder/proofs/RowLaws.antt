-- The first rows of a message.
use Rattle.std.proofs.Common.{◌≡◌, ◌≢◌, ◌==◌, ℕ, Bool, false, refl, inl, inr}
use Rattle.std.proofs.lemmas.Bool.{cases_Bool, eq-eqb, eqb-true}
use Rattle.ci_responder.specs.declared.heard.Heard.TheVariants as heard
use Rattle.ci_responder.specs.Messages.{Message}
use Rattle.ci_responder.specs.Rows.{heard_row}

differs : (one other : ℕ) → one ≢ other → (one == other) ≡ false
differs one other never = elim (cases_Bool (one == other)) [
  | inl same ↦ absurd (never (eqb-true one other same))
  | inr apart ↦ apart
]

pub own_first : (muid : ℕ) (named : Bool) (message : Message) → message.source ≡ muid → heard_row muid named message ≡ heard.Collision
own_first muid named message own = rw (eq-eqb message.source muid own) refl

pub version_00_next : (muid : ℕ) (named : Bool) (message : Message) → message.source ≢ muid → message.version ≡ 0
    → heard_row muid named message ≡ heard.OldVersion
version_00_next muid named message other old = rw (differs message.source muid other, eq-eqb message.version 0 old) refl
