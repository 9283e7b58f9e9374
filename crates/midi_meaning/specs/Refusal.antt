-- The packets that the way down refuses (own rules).
use Rattle.std.specs.Prelude.{ℕ, List, Option, Some, None}
use Rattle.voice_messages.specs.declared.voice1.Voice1.{Voice1}
use Rattle.voice_messages.specs.declared.voice1.Voice1.TheVariants as voice1
use Rattle.voice_messages.specs.declared.voice2.Voice2.{Voice2}
use Rattle.voice_messages.specs.declared.voice2.Voice2.TheVariants as voice2
use Rattle.ump_grammar.specs.declared.packet.Packet.{Packet}
use Rattle.ump_grammar.specs.declared.packet.Packet.TheVariants as packet
use Rattle.sysex_groups.specs.Exclusives.{Part, Room}
use Rattle.listing_terms.specs.declared.listed.BadStep.{BadStep}
use Rattle.listing_terms.specs.declared.listed.BadStep.TheVariants as bad
use Rattle.midi_meaning.specs.Controllers.{Role, data_increment, data_decrement, role_of}
use Rattle.listing_terms.specs.Parts.{part_of}
pub use Rattle.listing_terms.specs.ExclusiveLines.{bad_part}

-- data increment and data decrement
abbrev pub bad_role : Role → Option BadStep
bad_role data_increment = Some bad.DataIncrement
bad_role data_decrement = Some bad.DataDecrement
bad_role _ = None

abbrev pub bad_control : ℕ → Option BadStep
bad_control index = bad_role (role_of index)

abbrev pub bad_voice1 : Voice1 → Option BadStep
bad_voice1 (voice1.Control channel index value) = bad_control index
bad_voice1 _ = None

abbrev pub bad_voice2 : Voice2 → Option BadStep
bad_voice2 (voice2.Control channel index value) = bad_control index
bad_voice2 _ = None

-- why a packet is refused after these parts of exclusives, newest first, if it is refused
abbrev pub bad_step : Room → List Part → Packet → Option BadStep
bad_step room parts (packet.Voice1 group message) = bad_voice1 message
bad_step room parts (packet.Voice2 group message) = bad_voice2 message
bad_step room parts packet = bad_part room parts (part_of 0 packet)
