-- The state of a collector.
use Rattle.std.specs.Prelude.{◌≡◌, ℕ, Bool, true, if◌then◌else◌, List, length, replicate, slice_index_or}
use Rattle.voice_messages.specs.declared.voice2.Param.{Param}
use Rattle.midi_meaning.specs.Registers.{Registers, unset_registers}
use Rattle.param_collector.specs.Msbs.{place_of, pair_place, zeros}

-- the registers of the sixteen channels, the table of the MSBs, whether controllers are paired, and the table
-- of the MSBs of pairs
pub record Holding : Type 0 where
  pub registers : List Registers
  pub msbs : List ℕ
  pub paired : Bool
  pub pairs : List ℕ

-- Sixteen registers, and an MSB for each channel, kind and number. If controllers are paired there are 32
-- MSBs for each channel.
abbrev pub IsHolding : Holding → Type 0
IsHolding holding =
    (length holding.registers ≡ 16) × (length holding.msbs ≡ 524288) × (holding.paired ≡ true → length holding.pairs ≡ 512)

abbrev pub pair_count : Bool → ℕ
pair_count paired = if paired then 512 else 0

abbrev pub fresh : Bool → Holding
fresh paired = record {
  registers = replicate 16 unset_registers;
  msbs = zeros 524288;
  paired = paired;
  pairs = zeros (pair_count paired);
}

abbrev pub registers_at : Holding → ℕ → Registers
registers_at holding channel = slice_index_or holding.registers channel unset_registers

abbrev pub msb_at : Holding → ℕ → Param → ℕ
msb_at holding channel param = slice_index_or holding.msbs (place_of channel param) 0

-- the MSB of a paired controller, by the index of its MSB
abbrev pub pair_at : Holding → ℕ → ℕ → ℕ
pair_at holding channel index = slice_index_or holding.pairs (pair_place channel index) 0
