-- The parameters that are kept of a channel, of both kinds.
use Rattle.std.specs.Prelude.{ℕ, ◌≡◌, ◌≤◌, ◌==◌, List, length, Option, None}
use Rattle.voice_messages.specs.declared.voice2.ParamKind.{ParamKind}
use Rattle.voice_messages.specs.declared.voice2.ParamKind.TheVariants.{Registered, Assignable}
use Rattle.voice_messages.specs.declared.voice2.Param.{Param}
use Rattle.midi_meaning.specs.State.{Channel, put}
use Rattle.voice_state.specs.declared.param_map.ParamState.{ParamState}
use Rattle.voice_state.specs.declared.params.Params.{Params}
use Rattle.voice_state.specs.Params.{number_of, state_at, IsOf}

abbrev pub entries_of : ParamKind → Params → List (ℕ × ParamState)
entries_of Registered params = params.registered
entries_of Assignable params = params.assignable

abbrev pub state_in : Params → Param → Option ParamState
state_in params param = state_at (entries_of param.kind params) (number_of param.bank param.index)

-- there are as many of a parameter's kind as there is room for, and it isn't one of them
abbrev pub AreFull : ℕ → Params → Param → Type 0
AreFull room params param = (room ≤ length (entries_of param.kind params)) × (state_in params param ≡ None)

-- what is kept is what the channel has
pub record KeepsParams (params : Params) (channel : Channel) : Type 0 where
  pub registered : IsOf Registered params.registered channel
  pub assignable : IsOf Assignable params.assignable channel

-- one parameter has a new state, and all others are as before
abbrev pub PutsIn : List (ℕ × ParamState) → List (ℕ × ParamState) → ℕ → ParamState → Type 0
PutsIn old new number state = (other : ℕ) → state_at new other ≡ put ◌==◌ (state_at old) number state other

abbrev pub PutsBy : ParamKind → Params → Params → ℕ → ParamState → Type 0
PutsBy Registered old new number state = PutsIn old.registered new.registered number state × (new.assignable ≡ old.assignable)
PutsBy Assignable old new number state = PutsIn old.assignable new.assignable number state × (new.registered ≡ old.registered)

abbrev pub PutsParam : Params → Params → Param → ParamState → Type 0
PutsParam old new param state = PutsBy param.kind old new (number_of param.bank param.index) state
