-- What reading and writing a packet's words answers.
use Rattle.std.specs.Prelude.{◌≡◌, ℕ, true, false, List, Result, MatchResult, Option, None, Some, MatchOption}
use Rattle.voice_messages.specs.declared.voice1.Voice1.{Voice1}
use Rattle.voice_messages.specs.declared.voice1.System.{System}
use Rattle.voice_messages.specs.declared.voice2.Form.{Form}
use Rattle.voice_messages.specs.declared.voice2.Voice2.{Voice2}
use Rattle.ump_grammar.specs.declared.packet.Bad.{Bad}
use Rattle.ump_grammar.specs.declared.packet.Packet.{Packet}
use Rattle.ump_grammar.specs.declared.packet.Packet.TheVariants.{Exclusive}
use Rattle.ump_grammar.specs.Ranges.{IsPacket}
use Rattle.ump_grammar.specs.Spelling.{Spells, SpellsSystem, SpellsVoice1, SpellsVoice2}
use Rattle.ump_grammar.specs.Zeros.{HasZeros}
use Rattle.ump_grammar.specs.Reason.{reason, has_high, marked_in_system, marked_in_voice1, marked_in_voice2}

-- the packet that the words spell if there is no reason to refuse them, and otherwise the reason
abbrev pub Decodes : List ℕ → Result Packet Bad → Type 0
Decodes words result = MatchResult result (λ p. (reason words ≡ None) × Spells p words) (λ bad. reason words ≡ Some bad)

-- the message that is spelled if no marked byte is high, and otherwise none
abbrev pub ReadsMarked : {A : Type 0} → List ℕ → (A → Type 0) → Option A → Type 0
ReadsMarked bytes IsSpelled result =
    MatchOption result (has_high bytes ≡ true) (λ message. (has_high bytes ≡ false) × IsSpelled message)

abbrev pub ReadsSystem : List ℕ → Option System → Type 0
ReadsSystem words result = ReadsMarked (marked_in_system words) (λ message. SpellsSystem message words) result

abbrev pub ReadsVoice1 : List ℕ → Option Voice1 → Type 0
ReadsVoice1 words result = ReadsMarked (marked_in_voice1 words) (λ message. SpellsVoice1 message words) result

abbrev pub ReadsVoice2 : List ℕ → Option Voice2 → Type 0
ReadsVoice2 words result = ReadsMarked (marked_in_voice2 words) (λ message. SpellsVoice2 message words) result

-- The words spell the packet, there is no reason to refuse them, and they have zeros in the places that its
-- row doesn't name.
pub record Encodes (p : Packet) (words : List ℕ) : Type 0 where
  pub spelled : Spells p words
  pub accepted : reason words ≡ None
  pub zeros : HasZeros p words

-- each 7-bit exclusive whose fields fit is encoded by some words
abbrev pub ExclusivesHaveWords : Type 0
ExclusivesHaveWords =
    (group : ℕ) (form : Form) (bytes : List ℕ) → IsPacket (Exclusive group form bytes)
    → (words : List ℕ) × Encodes (Exclusive group form bytes) words
