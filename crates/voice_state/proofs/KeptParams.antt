-- Parameters that are put are those of the changed channel.
use Rattle.std.proofs.Common.{◌≡◌, ◌∙◌, ap, sym, refl, subst, ℕ, ◌/◌, ◌%◌, ◌<◌, ◌==◌, ◌&&◌}
use Rattle.std.proofs.Common.{Bool, true, false, cond, if◌then◌else◌, List, Option, Some, None}
use Rattle.std.proofs.lemmas.Bool.{cond_both}
use Rattle.voice_messages.specs.declared.voice2.ParamKind.{ParamKind}
use Rattle.voice_messages.specs.declared.voice2.ParamKind.TheVariants.{Registered, Assignable}
use Rattle.voice_messages.specs.declared.voice2.Param.{Param}
use Rattle.midi_meaning.specs.State.{Channel, same_param, with_param, with_value, with_looseness}
use Rattle.midi_meaning.proofs.SameParam.{same_param-true}
use Rattle.voice_state.specs.declared.param_map.ParamState.{ParamState}
use Rattle.voice_state.specs.declared.params.Params.{Params}
use Rattle.voice_state.specs.KeptParams.{state_in, KeepsParams, PutsIn, PutsParam}
use Rattle.voice_state.specs.Params.{number_of, param_of, param_state, state_at, IsOf}
use Rattle.voice_state.proofs.ToldFacts.{number_in, same_number}

-- ---- what is read

abbrev value_of : Option ParamState → Option ℕ
value_of None = None
value_of (Some state) = state.value

abbrev loose_of : Option ParamState → Bool
loose_of None = false
loose_of (Some state) = state.loose

value_again : (value : Option ℕ) (is_loose : Bool) → value_of (param_state value is_loose) ≡ value
value_again None true = refl
value_again None false = refl
value_again (Some n) is_loose = refl

loose_again : (value : Option ℕ) (is_loose : Bool) → loose_of (param_state value is_loose) ≡ is_loose
loose_again None true = refl
loose_again None false = refl
loose_again (Some n) is_loose = refl

pub param_again : (kind : ParamKind) (bank index : ℕ) → index < 128
    → param_of kind (number_of bank index) ≡ record { kind = kind; bank = bank; index = index }
param_again kind bank index below =
    λ i. record { kind = kind; bank = (number_in bank index below).0 i; index = (number_in bank index below).1 i }

read : (kind : ParamKind) (bank index : ℕ) (params : Params) (channel : Channel) → index < 128 → KeepsParams params channel →
    state_in params (record { kind = kind; bank = bank; index = index })
    ≡ param_state (channel.params (record { kind = kind; bank = bank; index = index }))
    (channel.loose (record { kind = kind; bank = bank; index = index }))
read Registered bank index params channel below keeps =
    keeps.registered (number_of bank index)
    ∙ ap (λ param. param_state (channel.params param) (channel.loose param)) (param_again Registered bank index below)
read Assignable bank index params channel below keeps =
    keeps.assignable (number_of bank index)
    ∙ ap (λ param. param_state (channel.params param) (channel.loose param)) (param_again Assignable bank index below)

pub value_read : (params : Params) (param : Param) (channel : Channel) (state : Option ParamState) → param.index < 128
    → state ≡ state_in params param → KeepsParams params channel → value_of state ≡ channel.params param
value_read params param channel state below is keeps =
    ap value_of (is ∙ read param.kind param.bank param.index params channel below keeps)
    ∙ value_again (channel.params param) (channel.loose param)

pub loose_read : (params : Params) (param : Param) (channel : Channel) (state : Option ParamState) → param.index < 128
    → state ≡ state_in params param → KeepsParams params channel → loose_of state ≡ channel.loose param
loose_read params param channel state below is keeps =
    ap loose_of (is ∙ read param.kind param.bank param.index params channel below keeps)
    ∙ loose_again (channel.params param) (channel.loose param)

-- ---- what is put

-- a channel in which a parameter has a new value and looseness
abbrev changed : Param → Option ℕ → Bool → Channel → Channel
changed param value is_loose channel = record channel {
  params = λ other. if same_param other param then value else channel.params other;
  loose = λ other. if same_param other param then is_loose else channel.loose other;
}

chosen : (same : Bool) (value : Option ℕ) (is_loose : Bool) (old : Option ParamState) (old_value : Option ℕ) (was_loose : Bool) →
    param_state value is_loose ≡ Some (record { value = value; loose = is_loose }) → old ≡ param_state old_value was_loose →
    cond same (Some (record { value = value; loose = is_loose })) old
    ≡ param_state (cond same value old_value) (cond same is_loose was_loose)
chosen true value is_loose old old_value was_loose told is = sym told
chosen false value is_loose old old_value was_loose told is = is

put_in : (kind : ParamKind) (bank index : ℕ) (old new : List (ℕ × ParamState)) (value : Option ℕ) (is_loose : Bool) (channel : Channel)
    → index < 128 →
    param_state value is_loose ≡ Some (record { value = value; loose = is_loose }) →
    PutsIn old new (number_of bank index) (record { value = value; loose = is_loose }) → IsOf kind old channel →
    (number : ℕ) → state_at new number ≡ param_state
    (cond ((number / 128 == bank) && (number % 128 == index)) value (channel.params (param_of kind number)))
    (cond ((number / 128 == bank) && (number % 128 == index)) is_loose (channel.loose (param_of kind number)))
put_in kind bank index old new value is_loose channel below told puts keeps number =
    let at : Bool → Option ParamState =
    λ same. param_state (cond same value (channel.params (param_of kind number)))
    (cond same is_loose (channel.loose (param_of kind number))) in
    puts number
    ∙ chosen (number == number_of bank index) value is_loose (state_at old number) (channel.params (param_of kind number))
    (channel.loose (param_of kind number)) told (keeps number)
    ∙ ap at (sym (same_number bank index number below))

put_keeps : (kind : ParamKind) (bank index : ℕ) (old new : Params) (value : Option ℕ) (is_loose : Bool) (channel : Channel) → index < 128 →
    param_state value is_loose ≡ Some (record { value = value; loose = is_loose }) →
    PutsParam old new (record { kind = kind; bank = bank; index = index }) (record { value = value; loose = is_loose })
    → KeepsParams old channel →
    KeepsParams new (changed (record { kind = kind; bank = bank; index = index }) value is_loose channel)
put_keeps Registered bank index old new value is_loose channel below told puts keeps = record {
  registered = put_in Registered bank index old.registered new.registered value is_loose channel below told puts.0 keeps.registered;
  assignable = subst (λ entries. IsOf Assignable entries channel) (sym puts.1) keeps.assignable;
}
put_keeps Assignable bank index old new value is_loose channel below told puts keeps = record {
  registered = subst (λ entries. IsOf Registered entries channel) (sym puts.1) keeps.registered;
  assignable = put_in Assignable bank index old.assignable new.assignable value is_loose channel below told puts.0 keeps.assignable;
}

pub set_keeps : (param : Param) (old new : Params) (value : ℕ) (channel : Channel) → param.index < 128 →
    PutsParam old new param (record { value = Some value; loose = false }) → KeepsParams old channel
    → KeepsParams new (with_param param value channel)
set_keeps param old new value channel below puts keeps =
    put_keeps param.kind param.bank param.index old new (Some value) false channel below refl puts keeps

-- ---- with a part as before

alike : (params : Params) (channel other : Channel) → ((param : Param) → channel.params param ≡ other.params param)
    → ((param : Param) → channel.loose param ≡ other.loose param) →
    KeepsParams params channel → KeepsParams params other
alike params channel other values looseness keeps = record {
  registered =
      λ number. keeps.registered number
      ∙ λ i. param_state (values (param_of Registered number) i) (looseness (param_of Registered number) i);
  assignable =
      λ number. keeps.assignable number
      ∙ λ i. param_state (values (param_of Assignable number) i) (looseness (param_of Assignable number) i);
}

-- if a parameter gets what it has
same_kept : {A : Type 0} (param other : Param) (f : Param → A) (x : A) → x ≡ f param → cond (same_param other param) x (f other) ≡ f other
same_kept param other f x is =
    cond_both (same_param other param) x (f other) (λ y. y ≡ f other) (λ e. is ∙ ap f (sym (same_param-true other param e))) (λ e. refl)

told_loose : (value : Option ℕ) → param_state value true ≡ Some (record { value = value; loose = true })
told_loose None = refl
told_loose (Some n) = refl

pub value_keeps : (param : Param) (old new : Params) (value : ℕ) (is_loose : Bool) (channel : Channel) → param.index < 128
    → is_loose ≡ channel.loose param →
    PutsParam old new param (record { value = Some value; loose = is_loose }) → KeepsParams old channel
    → KeepsParams new (with_value param value channel)
value_keeps param old new value is_loose channel below is puts keeps =
    alike new (changed param (Some value) is_loose channel) (with_value param value channel) (λ other. refl)
    (λ other. same_kept param other channel.loose is_loose is)
    (put_keeps param.kind param.bank param.index old new (Some value) is_loose channel below refl puts keeps)

pub loose_keeps : (param : Param) (old new : Params) (value : Option ℕ) (channel : Channel) → param.index < 128
    → value ≡ channel.params param →
    PutsParam old new param (record { value = value; loose = true }) → KeepsParams old channel
    → KeepsParams new (with_looseness true param channel)
loose_keeps param old new value channel below is puts keeps =
    alike new (changed param value true channel) (with_looseness true param channel)
    (λ other. same_kept param other channel.params value is) (λ other. refl)
    (put_keeps param.kind param.bank param.index old new value true channel below (told_loose value) puts keeps)
