-- What the compact style relies on: if the bytes of a lane after the last System Reset set the running status
-- or a half of a register, all bytes of the lane leave the same value there.
use Rattle.std.specs.Prelude.{ℕ, ◌≡◌, List, length, Option, Some, None, Bool}
use Rattle.midi1_bytes.specs.Stream.{open_in, running}
use Rattle.midi1_bytes.specs.RunningStatus.{IsKnownIn}
use Rattle.midi_meaning.specs.Registers.{Pair, Registers}
use Rattle.midi_meaning.specs.Compact.{since_reset, registers_in}
use Rattle.midi_meaning.specs.LaneState.{LaneState, registers_at}

-- what is set in the first is the same in the second
abbrev pub IsSameIn : {X : Type 0} → Option X → Option X → Type 0
IsSameIn {X} some all = (value : X) → some ≡ Some value → all ≡ Some value

pub record PairIsSameIn (some all : Pair) : Type 0 where
  pub msb : IsSameIn some.msb all.msb
  pub lsb : IsSameIn some.lsb all.lsb

pub record AreSameIn (some all : Registers) : Type 0 where
  pub bank : PairIsSameIn some.bank all.bank
  pub registered : PairIsSameIn some.registered all.registered
  pub assignable : PairIsSameIn some.assignable all.assignable
  pub touched : IsSameIn some.touched all.touched

module _ (paired : Bool) where
  -- The bytes of a lane, newest first. Nothing is open after the last System Reset.
  pub record IsRelied (past : List ℕ) : Type 0 where
    pub running : IsKnownIn (running (since_reset past)) past
    pub registers : (channel : ℕ) → AreSameIn (registers_in paired (since_reset past) channel) (registers_in paired past channel)
    pub closed : open_in None (since_reset past) ≡ None

  -- What is kept of a lane is what its bytes after the last System Reset leave.
  pub record IsLaneOf (lane : LaneState) (past : List ℕ) : Type 0 where
    pub running : lane.running ≡ running (since_reset past)
    pub registers : (channel : ℕ) → registers_at lane.channels channel ≡ registers_in paired (since_reset past) channel
    pub sixteen : length lane.channels ≡ 16
