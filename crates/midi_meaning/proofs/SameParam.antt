-- Parameters are the same if their kinds and numbers are the same.
use Rattle.std.proofs.Common.{◌≡◌, refl, true, ◌&&◌}
use Rattle.std.proofs.lemmas.Bool.{and_parts, eqb-true, eq-eqb}
use lib.Dec.{eqb}
use Rattle.voice_messages.specs.declared.voice2.ParamKind.{ParamKind}
use Rattle.voice_messages.specs.declared.voice2.ParamKind.TheVariants.{Registered, Assignable}
use Rattle.voice_messages.specs.declared.voice2.Param.{Param}
use Rattle.midi_meaning.specs.State.{same_kind, same_param}

same_kind-true : (k l : ParamKind) → same_kind k l ≡ true → k ≡ l
same_kind-true Registered Registered h = refl
same_kind-true Assignable Assignable h = refl
same_kind-true Registered Assignable h = cc
same_kind-true Assignable Registered h = cc

pub same_param-true : (p q : Param) → same_param p q ≡ true → p ≡ q
same_param-true p q h =
    let a = and_parts (same_kind p.kind q.kind) (eqb p.bank q.bank && eqb p.index q.index) h in
    let b = and_parts (eqb p.bank q.bank) (eqb p.index q.index) a.1 in
    λ i. record { kind = same_kind-true p.kind q.kind a.0 i; bank = eqb-true p.bank q.bank b.0 i; index = eqb-true p.index q.index b.1 i }

same_kind-refl : (k : ParamKind) → same_kind k k ≡ true
same_kind-refl Registered = refl
same_kind-refl Assignable = refl

pub same_param-refl : (p : Param) → same_param p p ≡ true
same_param-refl p = λ i. same_kind-refl p.kind i && (eq-eqb p.bank p.bank refl i && eq-eqb p.index p.index refl i)
