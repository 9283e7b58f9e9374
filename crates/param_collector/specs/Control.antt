-- The answer to a control change and the state after it, by the state before it.
use Rattle.std.specs.Prelude.{◌≡◌, ℕ, ◌+◌, ◌-◌, ◌*◌, ◌<◌, Option, Some, None, IfSome, slice_set}
use Rattle.voice_messages.specs.declared.voice2.Param.{Param}
use Rattle.voice_messages.specs.Ranges.{IsParam}
use Rattle.midi_meaning.specs.Registers.{Registers, with_bank_msb, with_bank_lsb, with_number_msb}
use Rattle.midi_meaning.specs.Registers.{with_number_lsb, without_selection, selected}
use Rattle.midi_meaning.specs.Controllers.{Role, bank_msb, bank_lsb, data_msb, data_lsb, data_increment, data_decrement}
use Rattle.midi_meaning.specs.Controllers.{number_msb, number_lsb, reset_all, channel_mode, coarse, fine, plain}
use Rattle.param_collector.specs.declared.collected.Collected.{Collected}
use Rattle.param_collector.specs.declared.collected.Collected.TheVariants as collected
use Rattle.param_collector.specs.Holding.{Holding, registers_at, msb_at, pair_at}
use Rattle.param_collector.specs.Msbs.{place_of, pair_place}

-- ---- the answer

-- to a data entry: the selected parameter, with its value after it
abbrev pub entered : Option Param → (Param → ℕ) → Collected
entered None values = collected.Ignored
entered (Some param) values = collected.Set param (values param)

-- by the values of parameters and of controllers after it; a pair is named by the index of its MSB
abbrev pub answer_by : Role → ℕ → Option Param → (Param → ℕ) → (ℕ → ℕ) → Collected
answer_by bank_msb index param values controllers = collected.Held
answer_by bank_lsb index param values controllers = collected.Held
answer_by data_msb index param values controllers = entered param values
answer_by data_lsb index param values controllers = entered param values
answer_by data_increment index param values controllers = collected.DataIncrement
answer_by data_decrement index param values controllers = collected.DataDecrement
answer_by (number_msb kind) index param values controllers = collected.Held
answer_by (number_lsb kind) index param values controllers = collected.Held
answer_by reset_all index param values controllers = collected.Plain
answer_by channel_mode index param values controllers = collected.Plain
answer_by coarse index param values controllers = collected.Pair index (controllers index)
answer_by fine index param values controllers = collected.Pair (index - 32) (controllers (index - 32))
answer_by plain index param values controllers = collected.Plain

-- the value after a data entry or a half of a pair: the MSB sets the LSB to 0, the LSB keeps the MSB
abbrev pub value_after : Role → ℕ → ℕ → ℕ
value_after data_msb value msb = value * 128
value_after coarse value msb = value * 128
value_after _ value msb = msb * 128 + value

abbrev pub answer_of : Role → Holding → ℕ → ℕ → ℕ → Collected
answer_of role holding channel index value =
    answer_by role index (selected (registers_at holding channel))
    (λ param. value_after role value (msb_at holding channel param))
    (λ coarse. value_after role value (pair_at holding channel coarse))

-- ---- the state after it

abbrev pub at_registers : ℕ → (Registers → Registers) → Holding → Holding
at_registers channel change holding =
    record holding { registers = slice_set holding.registers channel (change (registers_at holding channel)) }

abbrev pub with_msb_at : ℕ → Param → ℕ → Holding → Holding
with_msb_at channel param msb holding = record holding { msbs = slice_set holding.msbs (place_of channel param) msb }

-- a data entry of an MSB sets that of the selected parameter
abbrev pub with_entry : Option Param → ℕ → ℕ → Holding → Holding
with_entry None channel msb holding = holding
with_entry (Some param) channel msb holding = with_msb_at channel param msb holding

abbrev pub with_pair_at : ℕ → ℕ → ℕ → Holding → Holding
with_pair_at channel index msb holding = record holding { pairs = slice_set holding.pairs (pair_place channel index) msb }

-- reset all controllers: expression, 11, is at its greatest, and modulation, 1, at 0 (RP-015)
abbrev pub with_reset : ℕ → Holding → Holding
with_reset channel holding = with_pair_at channel 1 0 (with_pair_at channel 11 127 (at_registers channel without_selection holding))

abbrev pub holding_after : Role → Holding → ℕ → ℕ → ℕ → Holding
holding_after bank_msb holding channel index value = at_registers channel (with_bank_msb value) holding
holding_after bank_lsb holding channel index value = at_registers channel (with_bank_lsb value) holding
holding_after data_msb holding channel index value = with_entry (selected (registers_at holding channel)) channel value holding
holding_after data_lsb holding channel index value = holding
holding_after data_increment holding channel index value = holding
holding_after data_decrement holding channel index value = holding
holding_after (number_msb kind) holding channel index value = at_registers channel (with_number_msb kind value) holding
holding_after (number_lsb kind) holding channel index value = at_registers channel (with_number_lsb kind value) holding
holding_after reset_all holding channel index value = with_reset channel holding
holding_after channel_mode holding channel index value = holding
holding_after coarse holding channel index value = with_pair_at channel index value holding
holding_after fine holding channel index value = holding
holding_after plain holding channel index value = holding

-- these answers say that nothing has changed
abbrev pub Leaves : Collected → Holding → Holding → Type 0
Leaves collected.DataIncrement old new = new ≡ old
Leaves collected.DataDecrement old new = new ≡ old
Leaves collected.Ignored old new = new ≡ old
Leaves _ old new = Unit {0}

-- ---- ranges

-- the channel, the value, and the number of the selected parameter
abbrev pub AreInRange : ℕ → Option Param → ℕ → Type 0
AreInRange channel param value = (channel < 16) × (value < 128) × IfSome param IsParam

-- those that a data entry, a pair or a reset asks for
abbrev pub EntryInRange : Role → ℕ → Option Param → ℕ → Type 0
EntryInRange data_msb channel param value = AreInRange channel param value
EntryInRange data_lsb channel param value = AreInRange channel param value
EntryInRange coarse channel param value = (channel < 16) × (value < 128)
EntryInRange fine channel param value = (channel < 16) × (value < 128)
EntryInRange reset_all channel param value = channel < 16
EntryInRange _ channel param value = Unit {0}
