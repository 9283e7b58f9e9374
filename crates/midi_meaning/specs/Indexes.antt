-- The indexes that a role may have, as far as the answers to a control change tell them apart (MIDI 1.0
-- Detailed Specification, the table of controller numbers).
use Rattle.std.specs.Prelude.{◌≡◌, ℕ, ◌≤◌, ◌⊎◌, Bool, true, false}
use Rattle.midi_meaning.specs.Controllers.{Role, bank_msb, bank_lsb, data_msb, data_lsb, data_increment, data_decrement}
use Rattle.midi_meaning.specs.Controllers.{number_msb, number_lsb, reset_all, channel_mode, coarse, fine, plain}

-- a half of the bank or of a parameter's number
abbrev pub IsHalf : ℕ → Type 0
IsHalf index = (index ≡ 0) ⊎ (index ≡ 32) ⊎ ((98 ≤ index) × (index ≤ 101))

abbrev pub IsDataEntry : ℕ → Type 0
IsDataEntry index = (index ≡ 6) ⊎ (index ≡ 38)

-- the MSB of a controller
abbrev pub IsCoarse : ℕ → Type 0
IsCoarse index = (1 ≤ index) × (index ≤ 31) × ¬ (index ≡ 6)

-- its LSB
abbrev pub IsFine : ℕ → Type 0
IsFine index = (33 ≤ index) × (index ≤ 63) × ¬ (index ≡ 38)

pub record IsOther (index : ℕ) : Type 0 where
  pub no_half : ¬ IsHalf index
  pub no_data_entry : ¬ IsDataEntry index
  pub no_data_increment : ¬ (index ≡ 96)
  pub no_data_decrement : ¬ (index ≡ 97)
  pub no_coarse : ¬ IsCoarse index
  pub no_fine : ¬ IsFine index

abbrev pub HasIndex : Role → ℕ → Type 0
HasIndex bank_msb index = IsHalf index
HasIndex bank_lsb index = IsHalf index
HasIndex data_msb index = IsDataEntry index
HasIndex data_lsb index = IsDataEntry index
HasIndex data_increment index = index ≡ 96
HasIndex data_decrement index = index ≡ 97
HasIndex (number_msb kind) index = IsHalf index
HasIndex (number_lsb kind) index = IsHalf index
HasIndex reset_all index = IsOther index
HasIndex channel_mode index = IsOther index
HasIndex coarse index = IsCoarse index
HasIndex fine index = IsFine index
HasIndex plain index = IsOther index

-- The same whether controllers are paired or not: without pairs an MSB or LSB is a controller like all others
-- (own rule).
abbrev pub IsUnpaired : Bool → ℕ → Type 0
IsUnpaired paired index = IsOther index ⊎ ((paired ≡ false) × (IsCoarse index ⊎ IsFine index))

abbrev pub HasIndexIn : Bool → Role → ℕ → Type 0
HasIndexIn paired coarse index = (paired ≡ true) × IsCoarse index
HasIndexIn paired fine index = (paired ≡ true) × IsFine index
HasIndexIn paired reset_all index = IsUnpaired paired index
HasIndexIn paired channel_mode index = IsUnpaired paired index
HasIndexIn paired plain index = IsUnpaired paired index
HasIndexIn paired role index = HasIndex role index
