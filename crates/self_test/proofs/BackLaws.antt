-- One more byte of channel voice messages comes back.
use Rattle.std.proofs.Common.{◌≡◌, ◌<◌, ◌≤◌, ℕ, ◌+◌, ◌==◌, get_or, take, drop, append_assoc, List, [], ◌∷◌, ◌++◌, length}
use Rattle.std.proofs.Common.{map, Option, None, Some, refl, ap, sym, ◌∙◌, subst, arith, length-append, zero-add, false}
use Rattle.std.specs.Prelude.{Ok, Err, IfSome, reverse}
use Rattle.std.specs.List.{AllByRecursion}
use Rattle.std.specs.Option.{option_to_list}
use Rattle.std.proofs.lemmas.Bool.{cond_both}
use Rattle.std.proofs.lemmas.List.{append-nil, length-reverse, length-take-le, reverse-append, take-append-drop, take_all, take_more}
use Rattle.voice_messages.specs.declared.voice1.Voice1.{Voice1}
use Rattle.voice_messages.specs.declared.voice1.Voice1.TheVariants as voice1
use Rattle.voice_messages.specs.declared.voice2.Param.{Param}
use Rattle.voice_messages.specs.declared.voice2.Voice2.{Voice2}
use Rattle.ump_grammar.specs.declared.packet.Packet.{Packet}
use Rattle.ump_grammar.specs.declared.packet.Packet.TheVariants as packet
use Rattle.ump_grammar.specs.Ranges.{IsPacket}
use Rattle.midi1_bytes.specs.Laws.{ParsedBytesAreTheDefinition}
use Rattle.midi1_bytes.specs.Messages.{voice}
use Rattle.midi1_bytes.specs.Parsing.{Parsing, held_over, parse}
use Rattle.midi1_bytes.specs.Steps.{Step, held, completes, too_long, completed_by, step_of}
use Rattle.midi_meaning.specs.declared.listed.BadStep.{BadStep}
use Rattle.midi_meaning.specs.Back.{back, pieces_of}
use Rattle.midi_meaning.specs.Controllers.{Role, data_msb, data_lsb, reset_all, channel_mode, coarse, fine, plain, pairing, role_of}
use Rattle.midi_meaning.specs.Messages.{channel_of, meaning1}
use Rattle.midi_meaning.specs.Parts.{whole_of}
use Rattle.midi_meaning.specs.Plain.{plain_piece}
use Rattle.midi_meaning.specs.Raising.{packets_at, packets_up, raised_control, raised_entry, raised_step, raised_voice}
use Rattle.midi_meaning.specs.Refusal.{bad_control, bad_voice1, bad_voice2}
use Rattle.midi_meaning.specs.Registers.{selected}
use Rattle.midi_meaning.specs.State.{Channel, GroupState}
use Rattle.midi_meaning.specs.UpRefusal.{AreStepsWithinRoom, refusal_of_step}
use Rattle.up_translator.specs.declared.raised.Raised.{Raised}
use Rattle.up_translator.specs.Held.{UpState, step_in, up_after}
use Rattle.up_translator.specs.Laws.{RaisedBytesAreTheDefinition}
use Rattle.up_translator.specs.Raised.{group_in, packet_in, packets_by, payload_in}
use Rattle.up_translator.specs.Recording.{HoldsUp}
use Rattle.up_translator.specs.Step.{Raises, payload_by}
use Rattle.midi_meaning.specs.Styles.{plain_style}
use Rattle.down_translator.specs.Held.{DownState, down_after, new_down, refusal_in, unless_refused, whole_in}
use Rattle.down_translator.specs.KeptLanes.{lanes_after, new_lanes}
use Rattle.down_translator.specs.Step.{piece_of}
use Rattle.self_test.specs.ForProofs.Held.{ComesBack, HasReturned}
use Rattle.self_test.specs.Played.{ArePlayed, IsPlayedStep}
use Rattle.self_test.proofs.PlayedLaws.{piece_short}

-- ---- what such a byte is raised to

abbrev IsAccepted : Voice2 → Type 0
IsAccepted message = bad_voice2 message ≡ None

-- a MIDI 2.0 channel voice message that the way down accepts
abbrev pub IsReturned : Packet → Type 0
IsReturned (packet.Voice2 group message) = bad_voice2 message ≡ None
IsReturned _ = ⊥

entry_accepted : (channel value : ℕ) (param : Option Param) → AllByRecursion IsAccepted (raised_entry channel param value)
entry_accepted channel value None = tt
entry_accepted channel value (Some param) = (refl, tt)

-- controllers aren't paired
control_accepted : (role : Role) (state : Channel) (channel index value : ℕ) → bad_control index ≡ None
    → AllByRecursion IsAccepted (raised_control state (pairing false role) channel index value)
control_accepted data_msb state channel index value good = entry_accepted channel _ (selected state.registers)
control_accepted data_lsb state channel index value good = entry_accepted channel _ (selected state.registers)
control_accepted reset_all state channel index value good = (good, tt)
control_accepted channel_mode state channel index value good = (good, tt)
control_accepted coarse state channel index value good = (good, tt)
control_accepted fine state channel index value good = (good, tt)
control_accepted plain state channel index value good = (good, tt)
control_accepted _ state channel index value good = tt

voice_accepted : (state : Channel) (m : Voice1) → bad_voice1 m ≡ None → AllByRecursion IsAccepted (raised_voice false state m)
voice_accepted state (voice1.NoteOff ch n v) good = (refl, tt)
voice_accepted state (voice1.NoteOn ch n v) good = (cond_both (v == 0) _ _ IsAccepted (λ e. refl) (λ e. refl), tt)
voice_accepted state (voice1.PolyPressure ch n v) good = (refl, tt)
voice_accepted state (voice1.Control ch i v) good = control_accepted (role_of i) state ch i v good
voice_accepted state (voice1.Program ch p) good = (refl, tt)
voice_accepted state (voice1.Pressure ch v) good = (refl, tt)
voice_accepted state (voice1.Bend ch v) good = (refl, tt)

all_returned : (group : ℕ) (ms : List Voice2) → AllByRecursion IsAccepted ms → AllByRecursion IsReturned (map (packet.Voice2 group) ms)
all_returned group [] a = tt
all_returned group (m ∷ ms) a = (a.0, all_returned group ms a.1)

-- what is said of such a step
record IsQuiet (step : Step) : Type 0 where
  accepted : refusal_of_step step ≡ None
  within : step ≡ too_long → ⊥
  payload : payload_by (completed_by step) ≡ None
  returned : (state : GroupState) → AllByRecursion IsReturned (raised_step false state 0 step)

is_quiet : (step : Step) → IsPlayedStep step → IsQuiet step
is_quiet held h = record { accepted = refl; within = λ e. cc; payload = refl; returned = λ state. tt }
is_quiet (completes (voice m)) h = record {
  accepted = h;
  within = λ e. cc;
  payload = refl;
  returned =
      λ state. all_returned 0 (raised_voice false (state.channels (channel_of m)) m) (voice_accepted (state.channels (channel_of m)) m h);
}
is_quiet _ h = absurd h

pub steps_within : (past : List ℕ) → ArePlayed past → AreStepsWithinRoom 6 past
steps_within [] played = tt
steps_within (byte ∷ past) played = ((is_quiet _ played.0).within, steps_within past played.1)

-- ---- what the translator up answers to it

pub record IsAnswered (past : List ℕ) (byte : ℕ) (raised : Raised) : Type 0 where
  pub packets : packets_at false (Some 6) 0 past byte ≡ option_to_list (packet_in raised)
  pub returned : IfSome (packet_in raised) IsReturned
  pub spelled : IfSome (packet_in raised) IsPacket

without_payload : (group : ℕ) (one : Option Packet) (payload : Option (List ℕ)) → payload ≡ None
    → packets_by group one payload ≡ option_to_list one
without_payload group None None e = refl
without_payload group (Some p) None e = refl
without_payload group one (Some bytes) e = cc

only_returned : (one : Option Packet) → AllByRecursion IsReturned (option_to_list one) → IfSome one IsReturned
only_returned None a = tt
only_returned (Some p) a = a.0

module _ (law : RaisedBytesAreTheDefinition false) (parsed : ParsedBytesAreTheDefinition) (past : List ℕ) (byte : ℕ) (up : UpState)
    (holds : HoldsUp false 6 0 past up) (played : IsPlayedStep (step_of (Some 6) past byte)) (offset : ℕ) (place : offset ≡ length past)
  where
    step_is : step_in up offset byte ≡ step_of (Some 6) past byte
    step_is =
        ap (λ (parsing : Parsing). (parse parsing offset byte).step) holds.parsing_is
        ∙ ap (λ n. (parse (held_over 6 past) n byte).step) place
        ∙ parsed.step 6 past byte

    quiet : IsQuiet (step_in up offset byte)
    quiet = subst IsQuiet (sym step_is) (is_quiet _ played)

    pub never_refused : (bad : BadStep) → Raises up offset byte (Err bad) → ⊥
    never_refused bad raises =
        let refused : refusal_of_step (step_in up offset byte) ≡ Some bad = raises in
        let accepted : refusal_of_step (step_in up offset byte) ≡ None = quiet.accepted in
        cc

    pub answered : (raised : Raised) → Raises up offset byte (Ok raised) → IsAnswered past byte raised
    answered raised raises =
        let R : ℕ → Type 0 = λ n. Raises up n byte (Ok raised) in
        let A : List Packet → Type 0 = λ ps. AllByRecursion IsReturned ps in
        let answer = law.answer 6 0 past byte up (Ok raised) holds (subst R place raises) in
        let silent : payload_in raised ≡ None = raises.payload ∙ quiet.payload in
        let packets : packets_at false (Some 6) 0 past byte ≡ option_to_list (packet_in raised) =
        sym answer.packets ∙ without_payload (group_in raised) (packet_in raised) (payload_in raised) silent in
        record {
          packets = packets;
          returned = only_returned (packet_in raised) (subst A packets ((is_quiet _ played).returned (meaning1 false past)));
          spelled = raises.spelled;
        }

    pub up_is_taken : (new : UpState) → ArePlayed past → new ≡ up_after up offset byte
        → HoldsUp false 6 0 (byte ∷ past) new
    up_is_taken new before is =
        let H : ℕ → Type 0 = λ n. HoldsUp false 6 0 (byte ∷ past) (up_after up n byte) in
        let U : UpState → Type 0 = λ u. HoldsUp false 6 0 (byte ∷ past) u in
        subst U (sym is)
        (subst H (sym place) (law.after 6 0 past byte up (steps_within (byte ∷ past) (played, before)) holds))

-- ---- what the translator down does with its packet

pub returned_accepted : (p : Packet) → IsReturned p → refusal_in (new_down false plain_style 6) p ≡ None
returned_accepted (packet.Voice2 group message) h = h
returned_accepted _ h = absurd h

pub returned_short : (p : Packet) → IsReturned p → length (plain_piece false (whole_in (new_down false plain_style 6) p) p) ≤ 12
returned_short (packet.Voice2 group message) h = piece_short message
returned_short _ h = absurd h

returned_whole : (past : List Packet) (p : Packet) → IsReturned p → whole_in (new_down false plain_style 6) p ≡ whole_of past p
returned_whole past (packet.Voice2 group message) h = refl
returned_whole past _ h = absurd h

pub returned_piece : (p : Packet) → IsReturned p
    → piece_of (new_down false plain_style 6) p ≡ plain_piece false (whole_in (new_down false plain_style 6) p) p
returned_piece (packet.Voice2 group message) h = refl
returned_piece _ h = absurd h

pub returned_after : (offset : ℕ) (p : Packet) → IsReturned p
    → down_after offset p (new_down false plain_style 6) ≡ new_down false plain_style 6
returned_after offset (packet.Voice2 group message) h = λ i. record {
  exclusives = (new_down false plain_style 6).exclusives;
  lanes = lanes_after (unless_refused (h i) (Some group)) None (packet.Voice2 group message) (new_lanes false plain_style);
}
returned_after offset _ h = absurd h

-- ---- what comes back

counted_none : (past : List ℕ) (byte : ℕ) → packets_at false (Some 6) 0 past byte ≡ []
    → length (back false (Some 6) 0 past) ≡ length (back false (Some 6) 0 (byte ∷ past))
counted_none past byte e =
    let before : List Packet = reverse (packets_up false (Some 6) 0 past) in
    ap length (sym (append-nil (back false (Some 6) 0 past)) ∙ ap (λ ps. back false (Some 6) 0 past ++ pieces_of false before ps) (sym e))

counted_some : (past : List ℕ) (byte : ℕ) (p : Packet) → packets_at false (Some 6) 0 past byte ≡ p ∷ [] → IsReturned p
    → length (plain_piece false (whole_in (new_down false plain_style 6) p) p) + length (back false (Some 6) 0 past)
    ≡ length (back false (Some 6) 0 (byte ∷ past))
counted_some past byte p e h =
    let before : List Packet = reverse (packets_up false (Some 6) 0 past) in
    let piece : List ℕ = plain_piece false (whole_of before p) p in
    let same : length (plain_piece false (whole_in (new_down false plain_style 6) p) p) ≡ length piece =
    ap (λ whole. length (plain_piece false whole p)) (returned_whole before p h) in
    let all : length (back false (Some 6) 0 (byte ∷ past)) ≡ length (back false (Some 6) 0 past) + length piece =
    ap (λ ps. length (back false (Some 6) 0 past ++ pieces_of false before ps)) e
    ∙ ap (λ bytes. length (back false (Some 6) 0 past ++ bytes)) (append-nil piece)
    ∙ length-append (back false (Some 6) 0 past) piece in
    omega arith

module _ (past : List ℕ) (byte : ℕ) (raised : Raised) (answer : IsAnswered past byte raised) (up : UpState)
    (holds : HoldsUp false 6 0 (byte ∷ past) up) (played : ArePlayed (byte ∷ past)) where
  pub comes_back_none : (down : DownState) → down ≡ new_down false plain_style 6 → packet_in raised ≡ None
      → ComesBack past (byte ∷ past) 0 up down
  comes_back_none down is e = record {
    returned = record { played = played; up_holds = holds; down_is = is };
    count = zero-add (length (back false (Some 6) 0 past)) ∙ counted_none past byte (answer.packets ∙ ap option_to_list e);
  }

  pub comes_back_some : (down from : DownState) (offset again : ℕ) (p : Packet) → packet_in raised ≡ Some p
      → from ≡ new_down false plain_style 6 → down ≡ down_after offset p from → again ≡ length (piece_of from p)
      → ComesBack past (byte ∷ past) again up down
  comes_back_some down from offset again p e is after count =
      let I : Option Packet → Type 0 = λ one. IfSome one IsReturned in
      let h : IsReturned p = subst I e answer.returned in
      record {
        returned = record { played = played; up_holds = holds; down_is = after ∙ ap (down_after offset p) is ∙ returned_after offset p h };
        count =
            ap (λ n. n + length (back false (Some 6) 0 past))
            (count ∙ ap (λ (d : DownState). length (piece_of d p)) is ∙ ap length (returned_piece p h))
            ∙ counted_some past byte p (answer.packets ∙ ap option_to_list e) h;
      }

-- ---- the bytes of a piece

played_before : (newer past : List ℕ) → ArePlayed (newer ++ past) → ArePlayed past
played_before [] past played = played
played_before (byte ∷ newer) past played = played_before newer past played.1

-- one more byte of the piece is read
pub turned : (past piece : List ℕ) (i : ℕ) → i < length piece
    → reverse (take (i + 1) piece) ++ past ≡ get_or piece i 0 ∷ (reverse (take i piece) ++ past)
turned past piece i lt =
    ap (λ xs. reverse xs ++ past) (take_more piece i 0 lt) ∙ ap (λ xs. xs ++ past) (reverse-append (take i piece) (get_or piece i 0 ∷ []))

pub played_at : (past piece : List ℕ) (i : ℕ) → i < length piece → ArePlayed (reverse piece ++ past)
    → ArePlayed (get_or piece i 0 ∷ (reverse (take i piece) ++ past))
played_at past piece i lt played =
    let parted : reverse piece ++ past ≡ reverse (drop (i + 1) piece) ++ (reverse (take (i + 1) piece) ++ past) =
    ap (λ xs. reverse xs ++ past) (sym (take-append-drop (i + 1) piece))
    ∙ ap (λ xs. xs ++ past) (reverse-append (take (i + 1) piece) (drop (i + 1) piece))
    ∙ append_assoc (reverse (drop (i + 1) piece)) (reverse (take (i + 1) piece)) past in
    subst ArePlayed (turned past piece i lt)
    (played_before (reverse (drop (i + 1) piece)) (reverse (take (i + 1) piece) ++ past) (subst ArePlayed parted played))

pub place_at : (past piece : List ℕ) (i offset at : ℕ) → i < length piece → offset ≡ length past → at ≡ offset + i
    → at ≡ length (reverse (take i piece) ++ past)
place_at past piece i offset at lt place is =
    let all : length (reverse (take i piece) ++ past) ≡ length (reverse (take i piece)) + length past =
    length-append (reverse (take i piece)) past in
    let front : length (reverse (take i piece)) ≡ length (take i piece) = length-reverse (take i piece) in
    let some : length (take i piece) ≡ i = length-take-le i piece (omega arith) in
    omega (arith, all, front, some)

pub comes_back_more : (past piece : List ℕ) (i again one : ℕ) (before after : UpState) (from to : DownState) → i < length piece
    → ComesBack past (reverse (take i piece) ++ past) again before from
    → ComesBack (reverse (take i piece) ++ past) (get_or piece i 0 ∷ (reverse (take i piece) ++ past)) one after to
    → ComesBack past (reverse (take (i + 1) piece) ++ past) (again + one) after to
comes_back_more past piece i again one before after from to lt first second =
    let C : List ℕ → Type 0 = λ xs. ComesBack past xs (again + one) after to in
    let m : ℕ = length (back false (Some 6) 0 (reverse (take i piece) ++ past)) in
    let n : ℕ = length (back false (Some 6) 0 (get_or piece i 0 ∷ (reverse (take i piece) ++ past))) in
    let a : again + length (back false (Some 6) 0 past) ≡ m = first.count in
    let b : one + m ≡ n = second.count in
    let e : (again + one) + length (back false (Some 6) 0 past) ≡ n = omega (arith, a, b) in
    subst C (sym (turned past piece i lt)) (record { returned = second.returned; count = e })

pub comes_back_all : (past piece : List ℕ) (i again : ℕ) (up : UpState) (down : DownState) → length piece ≤ i
    → ComesBack past (reverse (take i piece) ++ past) again up down → ComesBack past (reverse piece ++ past) again up down
comes_back_all past piece i again up down most comes =
    let C : List ℕ → Type 0 = λ xs. ComesBack past (reverse xs ++ past) again up down in
    subst C (take_all i piece most) comes

pub nothing_comes_back : (past piece : List ℕ) (up : UpState) (down : DownState) → HasReturned past up down
    → ComesBack past (reverse (take 0 piece) ++ past) 0 up down
nothing_comes_back past piece up down returned = record { returned = returned; count = zero-add (length (back false (Some 6) 0 past)) }
