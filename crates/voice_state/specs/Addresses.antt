-- What a fact is about: a channel of a group, or a whole group.
use Rattle.std.specs.Prelude.{ℕ, Some, None}
use Rattle.voice_state.specs.declared.fact.Fact.{Fact}
use Rattle.voice_state.specs.declared.fact.Fact.TheVariants as fact
use Rattle.voice_state.specs.declared.fact.FactAddress.{FactAddress}

abbrev pub in_channel : ℕ → ℕ → FactAddress
in_channel group channel = record { group = group; channel = Some channel }

abbrev pub in_group : ℕ → FactAddress
in_group group = record { group = group; channel = None }

abbrev pub address_of : Fact → FactAddress
address_of (fact.On group channel note velocity) = in_channel group channel
address_of (fact.Off group channel note velocity) = in_channel group channel
address_of (fact.Mode group channel index value) = in_channel group channel
address_of (fact.Poly group channel note value) = in_channel group channel
address_of (fact.Control group channel index value) = in_channel group channel
address_of (fact.Pressure group channel value) = in_channel group channel
address_of (fact.Bend group channel value) = in_channel group channel
address_of (fact.Program group channel program bank) = in_channel group channel
address_of (fact.Registered group channel bank index value is_loose) = in_channel group channel
address_of (fact.Assignable group channel bank index value is_loose) = in_channel group channel
address_of (fact.System group count) = in_group group
address_of (fact.RealTime group count) = in_group group
