-- What is kept stands for the meaning of one more packet, or of one more byte.
use Rattle.std.proofs.Common.{◌≡◌, ◌∙◌, ap, sym, refl, subst, ℕ, ◌==◌, Bool, true, false}
use Rattle.std.proofs.Common.{cond, if◌then◌else◌, List, [], ◌∷◌, Option, Some, None}
use Rattle.std.specs.List.{fold}
use Rattle.std.specs.Option.{option_to_list}
use Rattle.voice_messages.specs.declared.voice2.Form.{Form}
use Rattle.ump_grammar.specs.declared.packet.Packet.{Packet}
use Rattle.ump_grammar.specs.declared.packet.Packet.TheVariants as packet
use Rattle.midi1_bytes.specs.Messages.{Message, exclusive}
use Rattle.midi1_bytes.specs.Steps.{completed_by, step_of}
use Rattle.midi_meaning.specs.Messages.{Scale, as_they_come, meaning1, raised, start, step1}
use Rattle.midi_meaning.specs.Packets.{meaning2, step2}
use Rattle.midi_meaning.specs.Parts.{group_of, is_group, whole_of}
use Rattle.midi_meaning.specs.State.{GroupState, with_common}
use Rattle.midi_meaning.proofs.Up.{meaning1-more}
use Rattle.voice_state.specs.Kept.{Keeps, KeepsGroup, KeptGroup}
use Rattle.voice_state.specs.StateLaws.{BytesAreKept, PacketsAreKept}
use Rattle.voice_state.specs.States.{States, after_message, after_packet, at_group, first_states, states_of_stream}

alike : (scale : Scale) (kept : List KeptGroup) (states others : States) → ((group : ℕ) → states group ≡ others group)
    → Keeps scale kept states → Keeps scale kept others
alike scale kept states others same keeps = λ index other below. subst (KeepsGroup scale _) (same index) (keeps index other below)

next_packet : (past : List Packet) (packet : Packet) → whole_of past packet ≡ None → (group : ℕ)
    → after_packet packet None (meaning2 false past) group ≡ meaning2 false (packet ∷ past) group
next_packet past packet none group =
    ap (λ whole. if is_group (group_of packet) group then step2 false (meaning2 false past group) packet whole
    else meaning2 false past group)
    (sym none)

counted : (is_own : Bool) (joined : List ℕ) (state : GroupState)
    → cond is_own (with_common (exclusive joined) (cond is_own state state)) (cond is_own state state)
    ≡ cond is_own (with_common (exclusive joined) state) state
counted true joined state = refl
counted false joined state = refl

whole_packet : (past : List Packet) (group : ℕ) (form : Form) (bytes joined : List ℕ)
    → whole_of past (packet.Exclusive group form bytes) ≡ Some joined → (other : ℕ) →
    at_group group (with_common (exclusive joined)) (after_packet (packet.Exclusive group form bytes) None (meaning2 false past)) other
    ≡ meaning2 false (packet.Exclusive group form bytes ∷ past) other
whole_packet past group form bytes joined is other =
    counted (group == other) joined (meaning2 false past other)
    ∙ ap (λ whole. if is_group (Some group) other then step2 false (meaning2 false past other) (packet.Exclusive group form bytes) whole
    else meaning2 false past other)
    (sym is)

pub packets_kept : PacketsAreKept
packets_kept = record {
  first = λ kept keeps. keeps;
  next =
      λ kept past packet none keeps. alike raised kept (after_packet packet None (meaning2 false past)) (meaning2 false (packet ∷ past))
      (next_packet past packet none) keeps;
  whole = λ kept past group form bytes joined is keeps.
      alike raised kept
      (at_group group (with_common (exclusive joined)) (after_packet (packet.Exclusive group form bytes) None (meaning2 false past)))
      (meaning2 false (packet.Exclusive group form bytes ∷ past))
      (whole_packet past group form bytes joined is) keeps;
}

same_start : (is_stream : Bool) → start as_they_come ≡ cond is_stream (start as_they_come) (start as_they_come)
same_start true = refl
same_start false = refl

stepped : (is_stream : Bool) (message : Message) (state other : GroupState)
    → cond is_stream (step1 false (cond is_stream state other) message) (cond is_stream state other)
    ≡ cond is_stream (step1 false state message) other
stepped true message state other = refl
stepped false message state other = refl

behind : (past : List ℕ) (byte : ℕ) (completed : Option Message) → completed_by (step_of None past byte) ≡ completed
    → meaning1 false (byte ∷ past) ≡ fold (step1 false) (meaning1 false past) (option_to_list completed)
behind past byte completed is =
    meaning1-more false past byte ∙ ap (λ message. fold (step1 false) (meaning1 false past) (option_to_list message)) is

pub bytes_kept : BytesAreKept
bytes_kept = record {
  first =
      λ kept keeps. alike as_they_come kept (first_states as_they_come) (states_of_stream (meaning1 false []))
      (λ group. same_start (0 == group)) keeps;
  silent =
      λ kept past byte none keeps. subst (λ state. Keeps as_they_come kept (states_of_stream state)) (sym (behind past byte None none))
      keeps;
  completing = λ kept past byte message is keeps.
      subst (λ state. Keeps as_they_come kept (states_of_stream state)) (sym (behind past byte (Some message) is))
      (alike as_they_come kept (after_message 0 message (states_of_stream (meaning1 false past)))
      (states_of_stream (step1 false (meaning1 false past) message))
      (λ group. stepped (0 == group) message (meaning1 false past) (start as_they_come)) keeps);
}
