-- What is kept of parameters: entries by the numbers of 14 bits, in their order.
use Rattle.std.specs.Prelude.{ℕ, ◌≡◌, ◌<◌, ◌≤◌, ◌==◌, ◌+◌, ◌*◌, ◌/◌, ◌%◌, Bool, false, if◌then◌else◌, List, [], ◌∷◌, length, slice_index_or}
use Rattle.std.specs.Prelude.{Option, Some, None}
use Rattle.voice_messages.specs.declared.voice2.ParamKind.{ParamKind}
use Rattle.voice_messages.specs.declared.voice2.Param.{Param}
use Rattle.midi_meaning.specs.State.{Channel}
use Rattle.voice_state.specs.declared.param_map.ParamState.{ParamState}
use Rattle.voice_state.specs.declared.fact.Fact.{Fact}
use Rattle.voice_state.specs.Facts.{is_told, param_fact}

abbrev pub number_of : ℕ → ℕ → ℕ
number_of bank index = bank * 128 + index

abbrev pub param_of : ParamKind → ℕ → Param
param_of kind number = record { kind = kind; bank = number / 128; index = number % 128 }

-- what the first entry of a number has
abbrev pub state_at : List (ℕ × ParamState) → ℕ → Option ParamState
state_at [] number = None
state_at (entry ∷ entries) number = if entry.0 == number then Some entry.1 else state_at entries number

abbrev pub no_entry : ℕ × ParamState
no_entry = (0, record { value = None; loose = false })

-- the number of the entry at a place
abbrev pub number_at : List (ℕ × ParamState) → ℕ → ℕ
number_at entries place = let entry = slice_index_or entries place no_entry in entry.0

-- the numbers rise, so none comes twice
abbrev pub IsInOrder : List (ℕ × ParamState) → Type 0
IsInOrder entries = (i j : ℕ) → i < j → j < length entries → number_at entries i < number_at entries j

-- the entry at a place has the number
pub record IsAt (entries : List (ℕ × ParamState)) (number place : ℕ) : Type 0 where
  pub in_range : place < length entries
  pub has_number : number_at entries place ≡ number

-- one of the number would go to a place: lesser numbers before it, and greater ones from it on
pub record IsGapFor (entries : List (ℕ × ParamState)) (number place : ℕ) : Type 0 where
  pub in_range : place ≤ length entries
  pub lesser_before : (j : ℕ) → j < place → number_at entries j < number
  pub greater_after : (j : ℕ) → place ≤ j → j < length entries → number < number_at entries j

-- what is known of a parameter, if it is told
abbrev pub param_state : Option ℕ → Bool → Option ParamState
param_state value is_loose = if is_told value is_loose then Some (record { value = value; loose = is_loose }) else None

-- the entries are what a channel has of the parameters of a kind
abbrev pub IsOf : ParamKind → List (ℕ × ParamState) → Channel → Type 0
IsOf kind entries channel =
    (number : ℕ) → state_at entries number ≡ param_state (channel.params (param_of kind number)) (channel.loose (param_of kind number))

-- what is told of an entry, of a kind
abbrev pub entry_fact : ℕ → ℕ → ParamKind → ℕ × ParamState → Fact
entry_fact group channel kind entry = param_fact group channel (param_of kind entry.0) entry.1.value entry.1.loose
