-- The facts of a running state, as numbers.
use Rattle.std.specs.Prelude.{◌≡◌, ◌==◌, ◌||◌, if◌then◌else◌, ℕ, nat_lt, Bool, true, false, List, length, map, Option, Some, None, Result, Ok, Err, is_some, unwrap_or}
use Rattle.midi_meaning.specs.Messages.{Scale}
use Rattle.voice_messages.specs.declared.voice2.Bank.{Bank}
use Rattle.voice_messages.specs.declared.voice2.Param.{Param}
use Rattle.voice_messages.specs.declared.voice2.ParamKind.TheVariants.{Registered, Assignable}
use Rattle.voice_state.specs.Addresses.{address_of}
use Rattle.voice_state.specs.Facts.{channel_facts, count_of, group_counts}
use Rattle.voice_state.specs.Kept.{KeptGroup, Keeps}
use Rattle.voice_state.specs.States.{States}
use Rattle.voice_state.specs.declared.fact.Fact.{Fact}
use Rattle.voice_state.specs.declared.fact.Fact.TheVariants as facts
use Rattle.voice_state.specs.declared.fact.FactAddress.{FactAddress}
use Rattle.c_answers.specs.Fronts.{with_front}
use Rattle.c_answers.specs.Numbers.{number_of}
use Rattle.c_answers.specs.declared.status.Status.{Status}
use Rattle.c_answers.specs.declared.status.Status.TheVariants as statuses
use Rattle.c_voice_state.specs.declared.fact_numbers.FactNumbers.{FactNumbers}

-- a fact of this group and channel without numbers of its own; the channel is 0 if it is about the whole group
abbrev pub nothing_at : FactAddress → FactNumbers
nothing_at address =
    record {
      count = 0;
      value = 0;
      kind = 0;
      group = address.group;
      channel = unwrap_or address.channel 0;
      number = 0;
      bank = 0;
      bank_lsb = 0;
      has_bank = false;
      has_value = false;
      is_loose = false;
    }

-- a fact of this kind, with a number and a value
abbrev pub valued : FactNumbers → ℕ → ℕ → ℕ → FactNumbers
valued at kind number value = record at { kind = kind; number = number; value = value; has_value = true }

-- a fact of this kind, with a count of messages
abbrev pub counted : FactNumbers → ℕ → ℕ → FactNumbers
counted at kind count = record at { kind = kind; count = count }

abbrev pub msb_of : Option Bank → ℕ
msb_of None = 0
msb_of (Some bank) = bank.msb

abbrev pub lsb_of : Option Bank → ℕ
lsb_of None = 0
lsb_of (Some bank) = bank.lsb

abbrev pub programmed : FactNumbers → ℕ → Option Bank → FactNumbers
programmed at program bank =
    record at { kind = 7; number = program; bank = msb_of bank; bank_lsb = lsb_of bank; has_bank = is_some bank }

abbrev pub parametrised : FactNumbers → ℕ → Param → Option ℕ → Bool → FactNumbers
parametrised at kind param value is_loose =
    record at {
      kind = kind;
      bank = param.bank;
      number = param.index;
      value = unwrap_or value 0;
      has_value = is_some value;
      is_loose = is_loose;
    }

abbrev pub told_at : FactNumbers → Fact → FactNumbers
told_at at (facts.On group channel note velocity) = valued at 0 note velocity
told_at at (facts.Off group channel note velocity) = valued at 1 note velocity
told_at at (facts.Mode group channel index value) = valued at 2 index value
told_at at (facts.Poly group channel note value) = valued at 3 note value
told_at at (facts.Control group channel index value) = valued at 4 index value
told_at at (facts.Pressure group channel value) = valued at 5 0 value
told_at at (facts.Bend group channel value) = valued at 6 0 value
told_at at (facts.Program group channel program bank) = programmed at program bank
told_at at (facts.Registered group channel bank index value is_loose) =
    parametrised at 8 (record { kind = Registered; bank = bank; index = index }) value is_loose
told_at at (facts.Assignable group channel bank index value is_loose) =
    parametrised at 9 (record { kind = Assignable; bank = bank; index = index }) value is_loose
told_at at (facts.System group count) = counted at 10 count
told_at at (facts.RealTime group count) = counted at 11 count

abbrev pub numbers_of : Fact → FactNumbers
numbers_of fact = told_at (nothing_at (address_of fact)) fact

-- ---- the facts of one channel, or the counts of a group

-- the number of no channel (own rule)
abbrev pub no_channel : ℕ
no_channel = 255

-- the facts of a channel of a group, or if it is no channel the counts of the group's system messages
abbrev pub facts_at : Scale → States → ℕ → ℕ → List Fact
facts_at scale states group channel =
    if nat_lt channel 16 then channel_facts scale group channel ((states group).channels channel) else group_counts group (states group)

-- All of them were written, and counted, if the buffer has room for them all. Otherwise nothing was written, and
-- `need` is their number, at most the greatest of 64 bits.
abbrev pub ArePut : List Fact → List FactNumbers → Result ℕ ℕ → List FactNumbers → Type 0
ArePut told old (Ok written) new =
    (nat_lt (length old) (length told) ≡ false) × (written ≡ length told) × (new ≡ with_front (map numbers_of told) old)
ArePut told old (Err need) new = (nat_lt (length old) (length told) ≡ true) × (need ≡ count_of told) × (new ≡ old)

-- by whether the buffer has fewer places than there are facts
abbrev pub tells : Bool → List Fact → List FactNumbers → ℕ → ℕ → ℕ → List FactNumbers → Type 0
tells true told old status written need new =
    (status ≡ number_of statuses.SmallBuffer) × (written ≡ 0) × (need ≡ count_of told) × (new ≡ old)
tells false told old status written need new =
    (status ≡ number_of statuses.Done) × (written ≡ length told) × (need ≡ 0) × (new ≡ with_front (map numbers_of told) old)

abbrev pub AreTold : List Fact → List FactNumbers → ℕ → ℕ → ℕ → List FactNumbers → Type 0
AreTold told old status written need new = tells (nat_lt (length old) (length told)) told old status written need new

-- no fact is reported
abbrev pub IsUntold : Status → List FactNumbers → ℕ → ℕ → ℕ → List FactNumbers → Type 0
IsUntold why old status written need new = (status ≡ number_of why) × (written ≡ 0) × (need ≡ 0) × (new ≡ old)

-- by whether the group and the channel are in range
abbrev pub tells_at : Bool → Bool → List KeptGroup → ℕ → ℕ → List FactNumbers → ℕ → ℕ → ℕ → List FactNumbers → Type 0
tells_at false is_channel kept group channel old status written need new = IsUntold statuses.BadGroup old status written need new
tells_at true false kept group channel old status written need new = IsUntold statuses.BadChannel old status written need new
tells_at true true kept group channel old status written need new =
    (scale : Scale) (states : States) → Keeps scale kept states → AreTold (facts_at scale states group channel) old status written need new

abbrev pub HasFacts : List KeptGroup → ℕ → ℕ → List FactNumbers → ℕ → ℕ → ℕ → List FactNumbers → Type 0
HasFacts kept group channel old status written need new =
    tells_at (nat_lt group 16) (nat_lt channel 16 || channel == no_channel) kept group channel old status written need new
