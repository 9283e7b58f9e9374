-- The state that is kept while an input is shown, if it is asked for, and the lines of what it tells at the
-- end.
use Rattle.std.specs.Prelude.{◌≡◌, ℕ, Bool, true, false, List, [], ◌∷◌, map, Option, None, Some, is_some, IfSome}
use Rattle.ump_grammar.specs.declared.packet.Packet.{Packet}
use Rattle.ump_grammar.specs.declared.packet.Packet.TheVariants as packets
use Rattle.sysex_groups.specs.Exclusives.{Answer, whole, restarted_whole}
use Rattle.sysex_groups.specs.Table.{Table, answer_to}
use Rattle.midi1_bytes.specs.Messages.{Message}
use Rattle.midi1_bytes.specs.Steps.{Step, completed_by}
use Rattle.midi_meaning.specs.Messages.{Scale, as_they_come, raised}
use Rattle.midi_meaning.specs.State.{with_common}
use Rattle.voice_state.specs.declared.fact.Fact.{Fact}
use Rattle.voice_state.specs.Facts.{facts_of}
use Rattle.voice_state.specs.Kept.{KeptGroup, Keeps}
use Rattle.voice_state.specs.States.{States, after_message, after_packet, at_group}
use Rattle.midi_lines.specs.FactLines.{fact_text}
use Rattle.pass_loop.specs.Named.{AreNamed, Named}
use Rattle.pass_loop.specs.Put.{Put, in_output}

-- ---- what is put at the end

-- a line for each of these
abbrev pub fact_puts : List Fact → List Put
fact_puts facts = map (λ fact. in_output (fact_text fact)) facts

-- if they are asked for
abbrev pub state_puts : Bool → List Fact → List Put
state_puts false facts = []
state_puts true facts = fact_puts facts

facts_named : (named : Named) → named.output ≡ true → (facts : List Fact) → AreNamed named (fact_puts facts)
facts_named named output [] = tt
facts_named named output (fact ∷ facts) = (output, facts_named named output facts)

pub state_named : (named : Named) → named.output ≡ true → (asked : Bool) (facts : List Fact) → AreNamed named (state_puts asked facts)
state_named named output false facts = tt
state_named named output true facts = facts_named named output facts

-- ---- what is kept

-- a state, if it is asked for
abbrev pub Kept : Type 0
Kept = Option (List KeptGroup)

-- if a state is kept, it stands for these
abbrev pub StandsFor : Scale → Kept → States → Type 0
StandsFor scale kept states = IfSome kept (λ groups. Keeps scale groups states)

-- these are the facts of what is kept, or none if nothing is kept
abbrev pub AreFactsOf : Kept → List Fact → Type 0
AreFactsOf None facts = facts ≡ []
AreFactsOf (Some groups) facts = (scale : Scale) (states : States) → Keeps scale groups states → facts ≡ facts_of scale states

-- one thing is kept as much as the other was, and stands for these states if the other stood for those
abbrev pub Changes : Scale → (States → States) → Kept → Kept → Type 0
Changes scale change old new =
    (is_some new ≡ is_some old) × ((states : States) → StandsFor scale old states → StandsFor scale new (change states))

-- ---- one more packet

-- the group of the exclusive that a part ends, by the answer to it
abbrev pub ended_by_answer : ℕ → Answer → Option ℕ
ended_by_answer group (whole bytes) = Some group
ended_by_answer group (restarted_whole at bytes) = Some group
ended_by_answer group _ = None

-- the group of the exclusive that a packet ends, if it ends one
abbrev pub ended_in : Table → Packet → Option ℕ
ended_in table (packets.Exclusive group form bytes) =
    ended_by_answer group (answer_to table (record { group = group; form = form; bytes = bytes; offset = 0 }))
ended_in table _ = None

-- the states once an exclusive of this group is counted
abbrev pub with_ended : Option ℕ → Message → States → States
with_ended None message states = states
with_ended (Some group) message states = at_group group (with_common message) states

-- the states after a packet that ends an exclusive of this group, if it ends one
abbrev pub after_ending : Option ℕ → Packet → Message → States → States
after_ending ended packet message states = with_ended ended message (after_packet packet None states)

-- a packet is kept, whatever bytes its exclusive has
abbrev pub KeepsPacket : Option ℕ → Packet → Kept → Kept → Type 0
KeepsPacket ended packet old new = (message : Message) → Changes raised (after_ending ended packet message) old new

-- ---- one more byte

-- the states of a stream after a message, if a byte completes one
abbrev pub after_completed : Option Message → States → States
after_completed None states = states
after_completed (Some message) states = after_message 0 message states

-- what a byte does is kept
abbrev pub KeepsStep : Step → Kept → Kept → Type 0
KeepsStep step old new = Changes as_they_come (after_completed (completed_by step)) old new
