-- The piece of a packet has at most as many bytes as an exclusive of the limit with its F0 and F7, or as four
-- messages.
use Rattle.std.proofs.Common.{ℕ, ◌≤◌, ◌+◌, ◌*◌, arith, List, [], ◌∷◌, ◌++◌, length, Option, Some, None, Bool, length-append}
use Rattle.std.proofs.Math.Nat.{le-max_left, le-max_right}
use Rattle.std.proofs.lemmas.Bool.{cond_both, leb-true}
use Rattle.std.specs.Prelude.{nat_le, drop}
use Rattle.std.specs.List.{flat_map}
use Rattle.std.specs.Option.{option_map}
use Rattle.voice_messages.specs.declared.voice1.Voice1.{Voice1}
use Rattle.voice_messages.specs.declared.voice1.Voice1.TheVariants as voice1
use Rattle.voice_messages.specs.declared.voice1.System.{System}
use Rattle.voice_messages.specs.declared.voice1.System.TheVariants as system
use Rattle.voice_messages.specs.declared.voice2.Bank.{Bank}
use Rattle.voice_messages.specs.declared.voice2.Form.{Form}
use Rattle.voice_messages.specs.declared.voice2.Form.TheVariants as form
use Rattle.voice_messages.specs.declared.voice2.Param.{Param}
use Rattle.voice_messages.specs.declared.voice2.Voice2.{Voice2}
use Rattle.voice_messages.specs.declared.voice2.Voice2.TheVariants as voice2
use Rattle.bit_scaling.specs.Scaling.{down7, down14}
use Rattle.midi1_bytes.specs.Messages.{Message, voice, common, exclusive, real_time, system_message, spelled, spelled_voice}
use Rattle.midi1_bytes.specs.RunningStatus.{is_running, running_after, without_status, written_under}
use Rattle.sysex_groups.specs.Exclusives.{ended_by}
use Rattle.sysex_groups.specs.Table.{begun_in}
use Rattle.ump_grammar.specs.Ranges.{IsPacket}
use Rattle.ump_grammar.specs.declared.packet.Packet.{Packet}
use Rattle.ump_grammar.specs.declared.packet.Packet.TheVariants as packet
use Rattle.midi_meaning.specs.Compact.{has_bank, is_selected, needed_program, needed_set, needed_voice}
use Rattle.midi_meaning.specs.Controllers.{Role, coarse, pairing, role_of}
use Rattle.midi_meaning.specs.LaneState.{LaneState, registers_at}
use Rattle.midi_meaning.specs.Listing.{is_carried_role}
use Rattle.midi_meaning.specs.Parts.{group_of}
use Rattle.midi_meaning.specs.Plain.{control_messages, program_messages, set_messages, voice_messages}
use Rattle.midi_meaning.specs.Registers.{Registers, is_null}
use Rattle.midi_meaning.specs.Styles.{Style, plain_style, compact_style}
use Rattle.down_translator.specs.Held.{DownState, limit_of, paired_of, style_of, whole_in}
use Rattle.down_translator.specs.KeptLanes.{piece_by}
use Rattle.down_translator.specs.Step.{lane_before, piece_of}
use Rattle.c_translators.specs.Down.{most_bytes}

-- ---- one message

voice_short : (message : Voice1) → length (spelled_voice message) ≤ 3
voice_short (voice1.NoteOff channel note velocity) = omega arith
voice_short (voice1.NoteOn channel note velocity) = omega arith
voice_short (voice1.PolyPressure channel note value) = omega arith
voice_short (voice1.Control channel index value) = omega arith
voice_short (voice1.Program channel program) = omega arith
voice_short (voice1.Pressure channel value) = omega arith
voice_short (voice1.Bend channel value) = omega arith

system_short : (message : System) → length (spelled (system_message message) ++ []) ≤ 3
system_short (system.Quarter value) = omega arith
system_short (system.Position value) = omega arith
system_short (system.Song value) = omega arith
system_short system.Tune = omega arith
system_short system.Clock = omega arith
system_short system.Start = omega arith
system_short system.Continue = omega arith
system_short system.Stop = omega arith
system_short system.Sensing = omega arith
system_short system.Reset = omega arith

less_status : (in_force : Option ℕ) (bytes : List ℕ) → length (without_status in_force bytes) ≤ length bytes
less_status in_force [] = omega arith
less_status in_force (status ∷ bytes) =
    cond_both (is_running in_force status) bytes (status ∷ bytes) (λ left. length left ≤ length (status ∷ bytes)) (λ e. omega arith)
    (λ e. omega arith)

-- ---- several voice messages

abbrev IsVoice : Message → Type 0
IsVoice (voice message) = Unit {0}
IsVoice _ = ⊥

abbrev AreVoice : List Message → Type 0
AreVoice [] = Unit {0}
AreVoice (message ∷ messages) = IsVoice message × AreVoice messages

-- at most four of them
record Few (messages : List Message) : Type 0 where
  voices : AreVoice messages
  four : length messages ≤ 4

all_short : (messages : List Message) → AreVoice messages → length (flat_map spelled messages) ≤ 3 * length messages
all_short [] h = omega arith
all_short (voice message ∷ messages) h =
    omega (arith, voice_short message, all_short messages h.1, length-append (spelled_voice message) (flat_map spelled messages))
all_short (common message ∷ messages) h = absurd h.0
all_short (exclusive bytes ∷ messages) h = absurd h.0
all_short (real_time message ∷ messages) h = absurd h.0

written_short : (in_force : Option ℕ) (messages : List Message) → AreVoice messages
    → length (written_under in_force messages) ≤ 3 * length messages
written_short in_force [] h = omega arith
written_short in_force (voice message ∷ messages) h =
    let after = running_after (voice message) in_force in
    omega (
      arith,
      voice_short message,
      less_status in_force (spelled_voice message),
      written_short after messages h.1,
      length-append (without_status in_force (spelled_voice message)) (written_under after messages),
    )
written_short in_force (common message ∷ messages) h = absurd h.0
written_short in_force (exclusive bytes ∷ messages) h = absurd h.0
written_short in_force (real_time message ∷ messages) h = absurd h.0

few_plain : (messages : List Message) → Few messages → length (flat_map spelled messages) ≤ 12
few_plain messages few = omega (arith, few.four, all_short messages few.voices)

few_written : (in_force : Option ℕ) (messages : List Message) → Few messages → length (written_under in_force messages) ≤ 12
few_written in_force messages few = omega (arith, few.four, written_short in_force messages few.voices)

none : Few []
none = record { voices = tt; four = omega arith }

one : (message : Voice1) → Few (voice message ∷ [])
one message = record { voices = (tt, tt); four = omega arith }

control_few : (role : Role) (channel index value : ℕ) → Few (control_messages role channel index value)
control_few coarse channel index value = record { voices = (tt, (tt, tt)); four = omega arith }
control_few role channel index value =
    let single : Voice1 = voice1.Control channel index (down7 value) in
    cond_both (is_carried_role role) (voice single ∷ []) [] Few (λ e. one single) (λ e. none)

set_few : (channel : ℕ) (param : Param) (value : ℕ) → Few (set_messages channel param value)
set_few channel param value = record { voices = (tt, (tt, (tt, (tt, tt)))); four = omega arith }

program_few : (channel program : ℕ) (bank : Option Bank) → Few (program_messages channel program bank)
program_few channel program None = one _
program_few channel program (Some bank) = record { voices = (tt, (tt, (tt, tt))); four = omega arith }

module _ (paired : Bool) where
  voice_few : (message : Voice2) → Few (voice_messages paired message)
  voice_few (voice2.NoteOff channel note velocity attribute_type attribute) = one _
  voice_few (voice2.NoteOn channel note velocity attribute_type attribute) = one _
  voice_few (voice2.PolyPressure channel note value) = one _
  voice_few (voice2.Control channel index value) = control_few (pairing paired (role_of index)) channel index value
  voice_few (voice2.Set channel param value) =
      cond_both (is_null param) [] (set_messages channel param (down14 value)) Few (λ e. none) (λ e. set_few channel param (down14 value))
  voice_few (voice2.Program channel program bank) = program_few channel program bank
  voice_few (voice2.Pressure channel value) = one _
  voice_few (voice2.Bend channel value) = one _
  voice_few _ = none

  needed_set_few : (registers : Registers) (channel : ℕ) (param : Param) (value : ℕ) → Few (needed_set registers channel param value)
  needed_set_few registers channel param value =
      cond_both (is_selected registers param) (drop 2 (set_messages channel param value)) (set_messages channel param value) Few
      (λ e. record { voices = (tt, (tt, tt)); four = omega arith }) (λ e. set_few channel param value)

  needed_program_few : (registers : Registers) (channel program : ℕ) (bank : Option Bank)
      → Few (needed_program registers channel program bank)
  needed_program_few registers channel program None = one _
  needed_program_few registers channel program (Some bank) =
      cond_both (has_bank registers bank) (drop 2 (program_messages channel program (Some bank)))
      (program_messages channel program (Some bank)) Few
      (λ e. one _) (λ e. program_few channel program (Some bank))

  needed_few : (registers : ℕ → Registers) (message : Voice2) → Few (needed_voice paired registers message)
  needed_few registers (voice2.Set channel param value) =
      cond_both (is_null param) [] (needed_set (registers channel) channel param (down14 value)) Few (λ e. none)
      (λ e. needed_set_few (registers channel) channel param (down14 value))
  needed_few registers (voice2.Program channel program bank) = needed_program_few (registers channel) channel program bank
  needed_few registers message = voice_few message

  -- ---- a packet

  -- an exclusive that a packet ends leaves room for its F0 and F7
  abbrev pub EndsWithin : ℕ → Option (List ℕ) → Type 0
  EndsWithin size None = Unit {0}
  EndsWithin size (Some bytes) = length bytes + 2 ≤ size

  piece_short : (style : Style) (lane : LaneState) (whole : Option (List ℕ)) (p : Packet) (size : ℕ) → 12 ≤ size → EndsWithin size whole →
      length (piece_by paired style lane whole p) ≤ size
  piece_short plain_style lane whole (packet.Voice1 group message) size least h = omega (arith, few_plain _ (one message))
  piece_short compact_style lane whole (packet.Voice1 group message) size least h = omega (arith, few_written lane.running _ (one message))
  piece_short plain_style lane whole (packet.Voice2 group message) size least h = omega (arith, few_plain _ (voice_few message))
  piece_short compact_style lane whole (packet.Voice2 group message) size least h =
      omega (arith, few_written lane.running _ (needed_few (registers_at lane.channels) message))
  piece_short style lane whole (packet.System group message) size least h = omega (arith, system_short message)
  piece_short style lane None (packet.Exclusive group form bytes) size least h = omega arith
  piece_short style lane (Some all) (packet.Exclusive group form bytes) size least h =
      omega (arith, h, length-append (0xf0 ∷ all ++ 0xf7 ∷ []) [], length-append all (0xf7 ∷ []))
  piece_short style lane whole _ size least h = omega arith

-- ---- an exclusive

ends_within : (room size : ℕ) (form : Form) (before : Option (List ℕ)) (bytes : List ℕ) (paired : Bool) → 12 ≤ size → room + 2 ≤ size
    → length bytes ≤ 6 →
    EndsWithin paired size (ended_by (Some room) form before bytes)
ends_within room size form.Complete before bytes paired least most few = omega (arith, least, few)
ends_within room size form.End None bytes paired least most few = tt
ends_within room size form.End (Some before) bytes paired least most few =
    cond_both (nat_le (length (before ++ bytes)) room) (Some (before ++ bytes)) None (EndsWithin paired size)
    (λ fits. omega (arith, most, leb-true (length (before ++ bytes)) room fits)) (λ e. tt)
ends_within room size form.Start before bytes paired least most few = tt
ends_within room size form.Continue before bytes paired least most few = tt

whole_within : (state : DownState) (p : Packet) (size : ℕ) (paired : Bool) → IsPacket p → 12 ≤ size → limit_of state + 2 ≤ size
    → EndsWithin paired size (whole_in state p)
whole_within state (packet.Exclusive group form bytes) size paired fits least most =
    ends_within (limit_of state) size form (option_map (λ begun. begun.bytes) (begun_in state.exclusives group)) bytes paired least most
    fits.1
whole_within state _ size paired fits least most = tt

-- ---- the bound

pub piece_fits : (state : DownState) (p : Packet) (size : ℕ) → IsPacket p → most_bytes state ≤ size → length (piece_of state p) ≤ size
piece_fits state p size fits most =
    let least : 12 ≤ size = omega (arith, most, le-max_right (limit_of state + 2) 12) in
    let limit : limit_of state + 2 ≤ size = omega (arith, most, le-max_left (limit_of state + 2) 12) in
    piece_short (paired_of state) (style_of state) (lane_before state (group_of p)) (whole_in state p) p size least
    (whole_within state p size (paired_of state) fits least limit)
