-- The lines of what is told of a state (own rule): the group, the channel, what it is, and its numbers.
use Rattle.std.specs.Prelude.{ℕ, Bool, true, false, List, [], ◌++◌, codes, decimal, Option, Some, None}
use Rattle.std.specs.Option.{option_map_or}
use Rattle.voice_messages.specs.declared.voice2.Bank.{Bank}
use Rattle.voice_state.specs.declared.fact.Fact.{Fact}
use Rattle.voice_state.specs.declared.fact.Fact.TheVariants as fact
use Rattle.voice_state.specs.declared.fact.FactAddress.{FactAddress}
use Rattle.voice_state.specs.Addresses.{address_of}

-- a number with a space before it
unfoldable pub spaced : ℕ → List ℕ
spaced number = codes " " ++ decimal number

-- `state GROUP`
unfoldable pub of_group : ℕ → List ℕ
of_group group = codes "state" ++ spaced group

-- `state GROUP CHANNEL`
unfoldable pub of_channel : ℕ → ℕ → List ℕ
of_channel group channel = of_group group ++ spaced channel

-- ` bank MSB/LSB`, or ` bank none`
unfoldable pub bank_words : Option Bank → List ℕ
bank_words None = codes " bank none"
bank_words (Some bank) = codes " bank" ++ spaced bank.msb ++ codes "/" ++ decimal bank.lsb

-- the value of a parameter, or ` none` if it was never set
unfoldable pub value_word : Option ℕ → List ℕ
value_word None = codes " none"
value_word (Some value) = spaced value

unfoldable pub loose_word : Bool → List ℕ
loose_word true = codes " loose"
loose_word false = []

-- ---- what a fact is about: a channel, or a whole group

-- a whole group has no channel
abbrev pub address_text : FactAddress → List ℕ
address_text address = option_map_or (of_channel address.group) address.channel (of_group address.group)

abbrev pub address_words : Fact → List ℕ
address_words told = address_text (address_of told)

-- ---- what it tells: its name, and its numbers

abbrev pub two_numbers : List ℕ → ℕ → ℕ → List ℕ
two_numbers name first second = name ++ spaced first ++ spaced second

abbrev pub param_words : List ℕ → ℕ → ℕ → Option ℕ → Bool → List ℕ
param_words name bank index value is_loose = two_numbers name bank index ++ value_word value ++ loose_word is_loose

abbrev pub told_words : Fact → List ℕ
told_words (fact.On group channel note velocity) = two_numbers (codes " on") note velocity
told_words (fact.Off group channel note velocity) = two_numbers (codes " off") note velocity
told_words (fact.Mode group channel index value) = two_numbers (codes " mode") index value
told_words (fact.Poly group channel note value) = two_numbers (codes " poly") note value
told_words (fact.Control group channel index value) = two_numbers (codes " control") index value
told_words (fact.Pressure group channel value) = codes " pressure" ++ spaced value
told_words (fact.Bend group channel value) = codes " bend" ++ spaced value
told_words (fact.Program group channel program bank) = codes " program" ++ spaced program ++ bank_words bank
told_words (fact.Registered group channel bank index value is_loose) = param_words (codes " registered") bank index value is_loose
told_words (fact.Assignable group channel bank index value is_loose) = param_words (codes " assignable") bank index value is_loose
told_words (fact.System group count) = codes " system" ++ spaced count
told_words (fact.RealTime group count) = codes " real-time" ++ spaced count

-- ---- the whole line

abbrev pub fact_words : Fact → List ℕ
fact_words told = address_words told ++ told_words told

abbrev pub fact_text : Fact → List ℕ
fact_text told = fact_words told ++ codes "\n"
