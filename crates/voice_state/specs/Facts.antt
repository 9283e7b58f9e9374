-- What is told of the states of a stream's groups: what isn't at its first value, in order (own rule).
use Rattle.std.specs.Prelude.{ℕ, ◌-◌, ◌^◌, ◌==◌, min, Bool, true, if◌then◌else◌, List, [], ◌∷◌, ◌++◌, map, length, Option, Some, None}
use Rattle.std.specs.List.{flat_map, range_with_len}
use Rattle.std.specs.Option.{option_map, option_to_list}
use Rattle.voice_messages.specs.declared.voice2.ParamKind.{ParamKind}
use Rattle.voice_messages.specs.declared.voice2.ParamKind.TheVariants.{Registered, Assignable}
use Rattle.voice_messages.specs.declared.voice2.Param.{Param}
use Rattle.midi_meaning.specs.State.{Act, on, off, mode, ProgramChange, Channel, GroupState}
use Rattle.midi_meaning.specs.Messages.{Scale}
use Rattle.voice_state.specs.declared.fact.Fact.{Fact}
use Rattle.voice_state.specs.declared.fact.Fact.TheVariants as fact

-- 0, 1 and so on, so many; a name that stands for its list, which may be long
unfoldable pub first : ℕ → List ℕ
first count = range_with_len 0 count

abbrev pub act_fact : ℕ → ℕ → Act → Fact
act_fact group channel (on note velocity) = fact.On group channel note velocity
act_fact group channel (off note velocity) = fact.Off group channel note velocity
act_fact group channel (mode index value) = fact.Mode group channel index value

-- a fact of each value that a map has below an index, in order
abbrev pub told_below : ℕ → (ℕ → ℕ → Fact) → (ℕ → Option ℕ) → List Fact
told_below count fact_of values = flat_map (λ index. option_to_list (option_map (fact_of index) (values index))) (first count)

-- of a map of 128
abbrev pub in_order : (ℕ → ℕ → Fact) → (ℕ → Option ℕ) → List Fact
in_order fact_of values = told_below 128 fact_of values

abbrev pub pressure_facts : ℕ → ℕ → ℕ → List Fact
pressure_facts group channel value = if value == 0 then [] else fact.Pressure group channel value ∷ []

abbrev pub bend_facts : ℕ → ℕ → ℕ → ℕ → List Fact
bend_facts centre group channel value = if value == centre then [] else fact.Bend group channel value ∷ []

abbrev pub program_fact : ℕ → ℕ → ProgramChange → Fact
program_fact group channel change = fact.Program group channel change.program change.bank

abbrev pub value_facts : Scale → ℕ → ℕ → Channel → List Fact
value_facts scale group channel state =
    pressure_facts group channel state.pressure
    ++ bend_facts (scale.wide 8192) group channel state.bend
    ++ option_to_list (option_map (program_fact group channel) state.program)

-- ---- parameters

-- a parameter is told if it has a value or is loose
abbrev pub is_told : Option ℕ → Bool → Bool
is_told None is_loose = is_loose
is_told (Some value) is_loose = true

abbrev pub param_fact_by : ParamKind → ℕ → ℕ → ℕ → ℕ → Option ℕ → Bool → Fact
param_fact_by Registered group channel bank index value is_loose = fact.Registered group channel bank index value is_loose
param_fact_by Assignable group channel bank index value is_loose = fact.Assignable group channel bank index value is_loose

abbrev pub param_fact : ℕ → ℕ → Param → Option ℕ → Bool → Fact
param_fact group channel param value is_loose = param_fact_by param.kind group channel param.bank param.index value is_loose

abbrev pub param_facts : ℕ → ℕ → Channel → Param → List Fact
param_facts group channel state param =
    if is_told (state.params param) (state.loose param) then
    param_fact group channel param (state.params param) (state.loose param) ∷ []
    else []

-- by the bank, then by the index
abbrev pub params_in_order : ℕ → ℕ → ParamKind → Channel → List Fact
params_in_order group channel kind state =
    flat_map (λ bank. flat_map (λ index. param_facts group channel state (record { kind = kind; bank = bank; index = index })) (first 128))
    (first 128)

-- ---- all of it

abbrev pub channel_facts : Scale → ℕ → ℕ → Channel → List Fact
channel_facts scale group channel state =
    map (act_fact group channel) state.acts
    ++ in_order (fact.Poly group channel) state.poly
    ++ in_order (fact.Control group channel) state.controllers
    ++ value_facts scale group channel state
    ++ params_in_order group channel Registered state
    ++ params_in_order group channel Assignable state

-- how many there are, at most the greatest number of 64 bits
abbrev pub count_of : {A : Type 0} → List A → ℕ
count_of list = min (length list) (2 ^ 64 - 1)

abbrev pub count_facts : (ℕ → Fact) → ℕ → List Fact
count_facts fact_of count = if count == 0 then [] else fact_of count ∷ []

-- of a group's counts
abbrev pub group_counts : ℕ → GroupState → List Fact
group_counts group state =
    count_facts (fact.System group) (count_of state.commons) ++ count_facts (fact.RealTime group) (count_of state.real_times)

-- of so many channels
abbrev pub facts_of_channels : ℕ → Scale → ℕ → GroupState → List Fact
facts_of_channels count scale group state = flat_map (λ channel. channel_facts scale group channel (state.channels channel)) (first count)

abbrev pub group_facts : Scale → ℕ → GroupState → List Fact
group_facts scale group state =
    facts_of_channels 16 scale group state ++ group_counts group state

-- of so many groups, at a scale
abbrev pub facts_of_groups : ℕ → Scale → (ℕ → GroupState) → List Fact
facts_of_groups count scale states = flat_map (λ group. group_facts scale group (states group)) (first count)

-- of all sixteen
abbrev pub facts_of : Scale → (ℕ → GroupState) → List Fact
facts_of scale states = facts_of_groups 16 scale states
