-- The state after a packet.
use Rattle.std.proofs.Common.{ℕ, ◌≡◌, ◌≢◌, ◌≤◌, ◌∙◌, refl, ap, sym, subst, List, ◌++◌, length, Option, Some, None, Bool, true, false, cond}
use Rattle.std.proofs.lemmas.Bool.{le-ltb}
use Rattle.std.proofs.lemmas.Option.{same_Some}
use Rattle.std.specs.Prelude.{nat_le, slice_set, Result, Ok, Err}
use Rattle.voice_messages.specs.declared.voice1.Voice1.{Voice1}
use Rattle.voice_messages.specs.declared.voice1.Voice1.TheVariants as voice1
use Rattle.voice_messages.specs.declared.voice2.Voice2.{Voice2}
use Rattle.voice_messages.specs.declared.voice2.Voice2.TheVariants as voice2
use Rattle.voice_messages.specs.declared.voice2.Form.{Form}
use Rattle.voice_messages.specs.declared.voice2.Form.TheVariants as form
use Rattle.sysex_groups.specs.Exclusives.{Answer, held, whole, too_long, framed}
use Rattle.sysex_groups.specs.Table.{Begun, answer_of, begun_after, begun_in, with_part}
use Rattle.ump_grammar.specs.Reason.{reason}
use Rattle.ump_grammar.specs.declared.packet.Bad.{Bad}
use Rattle.ump_grammar.specs.declared.packet.Packet.{Packet}
use Rattle.ump_grammar.specs.declared.packet.Packet.TheVariants as packet
use Rattle.midi_meaning.specs.declared.listed.BadStep.{BadStep}
use Rattle.midi_meaning.specs.declared.listed.BadStep.TheVariants as bad
use Rattle.midi_meaning.specs.Controllers.{Role, data_increment, data_decrement, role_of}
use Rattle.midi_meaning.specs.Parts.{group_of}
use Rattle.midi_meaning.specs.Refusal.{bad_role, bad_voice1, bad_voice2}
use Rattle.down_translator.specs.Held.{DownState, bad_answer, down_after, refusal_in, unless_refused, whole_in}
use Rattle.down_translator.specs.KeptLanes.{lane_written, lanes_after}
use Rattle.c_answers.specs.Fronts.{with_front}
use Rattle.c_answers.specs.Whole.{is_whole}
use Rattle.c_answers.proofs.FrontLaws.{nothing_in_front}
use Rattle.c_answers.specs.declared.status.Status.{Status}
use Rattle.c_answers.specs.declared.status.Status.TheVariants as statuses
use Rattle.c_answers.specs.Numbers.{number_of}
use Rattle.c_answers.specs.Refusals.{status_of_step}
use Rattle.c_translators.specs.Down.{IsAnswered, IsTakenOrRefused, Reads, Refuses, Unread, after_refused, answers, most_bytes}
use Rattle.c_translators.specs.declared.piece.Piece.{Piece}

-- the limit stays
pub most_stays : (offset : ℕ) (p : Packet) (state : DownState) → most_bytes (down_after offset p state) ≡ most_bytes state
most_stays offset (packet.Exclusive group form bytes) state = refl
most_stays offset _ state = refl

-- ---- a packet that is refused

-- a part is refused only if it goes on with an exclusive that then is too long; nothing is open after it
goes_on : (fits : Bool) (going : Answer) (kept : Option Begun) (why : BadStep) → bad_answer going ≡ None
    → bad_answer (cond fits going too_long) ≡ Some why →
    (why ≡ bad.ExclusiveTooLong) × (cond fits kept None ≡ None)
goes_on true going kept why fine h = absurd (let e : None ≡ Some why = sym fine ∙ h in cc)
goes_on false going kept why fine h = (sym (same_Some bad.ExclusiveTooLong why h), refl)

part_refused : (room : ℕ) (begun : Option Begun) (form : Form) (bytes : List ℕ) (offset : ℕ) (why : BadStep) →
    bad_answer (answer_of (Some room) begun form bytes) ≡ Some why
    → (why ≡ bad.ExclusiveTooLong) × (begun_after (Some room) begun form bytes offset ≡ None)
part_refused room None form.Complete bytes offset why h = absurd (let e = h in cc)
part_refused room None form.Start bytes offset why h = absurd (let e = h in cc)
part_refused room None form.Continue bytes offset why h = absurd (let e = h in cc)
part_refused room None form.End bytes offset why h = absurd (let e = h in cc)
part_refused room (Some begun) form.Complete bytes offset why h = absurd (let e = h in cc)
part_refused room (Some begun) form.Start bytes offset why h = absurd (let e = h in cc)
part_refused room (Some begun) form.Continue bytes offset why h =
    goes_on (nat_le (length (begun.bytes ++ bytes)) room) held (Some (record { start = begun.start; bytes = begun.bytes ++ bytes })) why
    refl h
part_refused room (Some begun) form.End bytes offset why h =
    ((goes_on (nat_le (length (begun.bytes ++ bytes)) room) (whole (framed (begun.bytes ++ bytes))) None why refl h).0, refl)

-- a control change is refused for another reason
role_not_long : (role : Role) → bad_role role ≢ Some bad.ExclusiveTooLong
role_not_long data_increment e = let f = e in cc
role_not_long data_decrement e = let f = e in cc
role_not_long _ e = let f = e in cc

voice1_not_long : (message : Voice1) → bad_voice1 message ≢ Some bad.ExclusiveTooLong
voice1_not_long (voice1.Control channel index value) e = role_not_long (role_of index) e
voice1_not_long _ e = let f = e in cc

voice2_not_long : (message : Voice2) → bad_voice2 message ≢ Some bad.ExclusiveTooLong
voice2_not_long (voice2.Control channel index value) e = role_not_long (role_of index) e
voice2_not_long _ e = let f = e in cc

nothing_dropped : (why : BadStep) (group : Option ℕ) (state : DownState) → why ≢ bad.ExclusiveTooLong
    → after_refused why group state ≡ state
nothing_dropped bad.DataIncrement group state other = refl
nothing_dropped bad.DataDecrement group state other = refl
nothing_dropped bad.ExclusiveTooLong group state other = absurd (other refl)

pub refused_after : (offset : ℕ) (p : Packet) (state : DownState) (why : BadStep) → refusal_in state p ≡ Some why →
    down_after offset p state ≡ after_refused why (group_of p) state
refused_after offset (packet.Voice1 g m) state why is =
    ap (λ r. record { exclusives = state.exclusives; lanes = lanes_after (unless_refused r (Some g)) None (packet.Voice1 g m) state.lanes })
    is
    ∙ sym (nothing_dropped why (Some g) state (λ e. voice1_not_long m (is ∙ ap Some e)))
refused_after offset (packet.Voice2 g m) state why is =
    ap (λ r. record { exclusives = state.exclusives; lanes = lanes_after (unless_refused r (Some g)) None (packet.Voice2 g m) state.lanes })
    is
    ∙ sym (nothing_dropped why (Some g) state (λ e. voice2_not_long m (is ∙ ap Some e)))
refused_after offset (packet.Exclusive g f bytes) state why is =
    let p : Packet = packet.Exclusive g f bytes in
    let all : Option (List ℕ) = whole_in state p in
    let found = part_refused state.exclusives.room (begun_in state.exclusives g) f bytes offset why is in
    ap (λ r. record {
      exclusives = with_part (record { group = g; form = f; bytes = bytes; offset = offset }) state.exclusives;
      lanes = lanes_after (unless_refused r (lane_written all p)) all p state.lanes;
    }) is
    ∙ ap (λ b.
    record { exclusives = record { room = state.exclusives.room; groups = slice_set state.exclusives.groups g b }; lanes = state.lanes })
    found.1
    ∙ ap (λ w. after_refused w (Some g) state) (sym found.0)
refused_after offset (packet.Utility s v) state why is = absurd (let e = is in cc)
refused_after offset (packet.System g m) state why is = absurd (let e = is in cc)
refused_after offset (packet.Data8 g w) state why is = absurd (let e = is in cc)
refused_after offset (packet.Flex g w) state why is = absurd (let e = is in cc)
refused_after offset (packet.Stream f s l w x y) state why is = absurd (let e = is in cc)
refused_after offset (packet.Reserved w) state why is = absurd (let e = is in cc)

pub refuses_packet : (state : DownState) (offset : ℕ) (words : List ℕ) (p : Packet) (step : BadStep) (why : Status) (after : DownState)
    → Reads words p →
    refusal_in state p ≡ Some step → why ≡ status_of_step step → after ≡ down_after offset p state →
    Refuses (is_whole words) (reason words) state words why after
refuses_packet state offset words p step why after read refused why_is left =
    subst (λ whole. Refuses whole (reason words) state words why after) (sym read.whole)
    (subst (λ r. Refuses true r state words why after) (sym read.fine)
    (record {
      packet = p;
      step = step;
      read = read;
      refused = refused;
      why_is = why_is;
      held = left ∙ refused_after offset p state step refused;
    }))

pub refuses_words : (whole : Bool) (reason : Option Bad) (state : DownState) (words : List ℕ) (why : Status) → Unread whole reason why →
    Refuses whole reason state words why state
refuses_words true None state words why unread = absurd unread
refuses_words true (Some bad) state words why unread = (unread, refl)
refuses_words false reason state words why unread = (unread, refl)

-- if the buffer is large enough, the call answers as the packet is taken
pub answered : (state : DownState) (offset : ℕ) (words old : List ℕ) (piece : Piece) (new : List ℕ) (after : DownState)
    → most_bytes state ≤ length old →
    IsTakenOrRefused state offset words old (Ok piece) new after
    → IsAnswered state offset words old (number_of statuses.Done) piece new after
answered state offset words old piece new after fits taken =
    subst (λ small. answers small state offset words old (number_of statuses.Done) piece new after)
    (sym (le-ltb (length old) (most_bytes state) fits))
    (Ok piece, taken, (refl, refl))

-- ---- the size of a buffer that takes any piece

refused_keeps : (why : BadStep) (group : Option ℕ) (state : DownState) → most_bytes (after_refused why group state) ≡ most_bytes state
refused_keeps bad.DataIncrement group state = refl
refused_keeps bad.DataDecrement group state = refl
refused_keeps bad.ExclusiveTooLong None state = refl
refused_keeps bad.ExclusiveTooLong (Some group) state = refl

pub refuses_keeps : (whole : Bool) (reason : Option Bad) (state : DownState) (words : List ℕ) (why : Status) (after : DownState) →
    Refuses whole reason state words why after → most_bytes after ≡ most_bytes state
refuses_keeps true None state words why after r = ap most_bytes r.held ∙ refused_keeps r.step (group_of r.packet) state
refuses_keeps true (Some bad) state words why after r = ap most_bytes r.1
refuses_keeps false reason state words why after r = ap most_bytes r.1

pub taken_keeps : (state : DownState) (offset : ℕ) (words old : List ℕ) (result : Result Piece Status) (new : List ℕ) (after : DownState) →
    IsTakenOrRefused state offset words old result new after → most_bytes after ≡ most_bytes state
taken_keeps state offset words old (Ok piece) new after t = ap most_bytes t.1.held ∙ most_stays offset t.0 state
taken_keeps state offset words old (Err why) new after t = refuses_keeps (is_whole words) (reason words) state words why after t.0

-- ---- nothing is put

-- nothing at the front leaves a buffer
pub nothing_put : (front old : List ℕ) → length front ≡ 0 → old ≡ with_front front old
nothing_put front old none = nothing_in_front front old none
