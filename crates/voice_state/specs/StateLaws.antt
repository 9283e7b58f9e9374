-- What holds of a state that is kept while packets or bytes come. Packets and bytes that are called `past`
-- are listed the newest first.
use Rattle.std.specs.Prelude.{◌≡◌, ℕ, false, List, [], ◌∷◌, Some, None}
use Rattle.voice_messages.specs.declared.voice2.Form.{Form}
use Rattle.ump_grammar.specs.declared.packet.Packet.{Packet}
use Rattle.ump_grammar.specs.declared.packet.Packet.TheVariants as packet
use Rattle.midi1_bytes.specs.Messages.{Message, exclusive}
use Rattle.midi1_bytes.specs.Steps.{completed_by, step_of}
use Rattle.midi_meaning.specs.Messages.{as_they_come, meaning1, raised}
use Rattle.midi_meaning.specs.Packets.{meaning2}
use Rattle.midi_meaning.specs.Parts.{whole_of}
use Rattle.midi_meaning.specs.State.{with_common}
use Rattle.voice_state.specs.Kept.{Keeps, KeptGroup}
use Rattle.voice_state.specs.States.{after_message, after_packet, at_group, first_states, states_of_stream}

-- what is kept stands for what the packets mean in each group
pub record PacketsAreKept : Type 0 where
  pub first : (kept : List KeptGroup) → Keeps raised kept (first_states raised) → Keeps raised kept (meaning2 false [])
  pub next : (kept : List KeptGroup) (past : List Packet) (packet : Packet) → whole_of past packet ≡ None →
      Keeps raised kept (after_packet packet None (meaning2 false past)) → Keeps raised kept (meaning2 false (packet ∷ past))
  pub whole : (kept : List KeptGroup) (past : List Packet) (group : ℕ) (form : Form) (bytes joined : List ℕ) →
      whole_of past (packet.Exclusive group form bytes) ≡ Some joined →
      Keeps raised kept
      (at_group group (with_common (exclusive joined)) (after_packet (packet.Exclusive group form bytes) None (meaning2 false past))) →
      Keeps raised kept (meaning2 false (packet.Exclusive group form bytes ∷ past))

-- what is kept stands for what the bytes mean
pub record BytesAreKept : Type 0 where
  pub first : (kept : List KeptGroup) → Keeps as_they_come kept (first_states as_they_come) →
      Keeps as_they_come kept (states_of_stream (meaning1 false []))
  pub silent : (kept : List KeptGroup) (past : List ℕ) (byte : ℕ) → completed_by (step_of None past byte) ≡ None →
      Keeps as_they_come kept (states_of_stream (meaning1 false past))
      → Keeps as_they_come kept (states_of_stream (meaning1 false (byte ∷ past)))
  pub completing : (kept : List KeptGroup) (past : List ℕ) (byte : ℕ) (message : Message)
      → completed_by (step_of None past byte) ≡ Some message →
      Keeps as_they_come kept (after_message 0 message (states_of_stream (meaning1 false past))) →
      Keeps as_they_come kept (states_of_stream (meaning1 false (byte ∷ past)))
