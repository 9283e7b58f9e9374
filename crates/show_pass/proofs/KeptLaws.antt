-- A state that is kept while packets or bytes are shown stands for what they mean, and what is put of it are
-- its facts.
use Rattle.std.proofs.Common.{◌≡◌, ◌≤◌, ◌<◌, ◌+◌, ℕ, Bool, true, false, cond, List, [], ◌∷◌, ◌++◌, length}
use Rattle.std.proofs.Common.{take, drop, Option, None, Some, refl, ap, sym, ◌∙◌, subst, inl, inr, arith}
use Rattle.std.specs.Prelude.{◌≢◌, IfOk, get_or, Result, Ok, Err}
use Rattle.std.specs.Option.{option_map, option_and_then}
use Rattle.std.proofs.lemmas.List.{drop_more, map-append, take-append-drop}
use Rattle.voice_messages.specs.declared.voice2.Form.{Form}
use Rattle.voice_messages.specs.declared.voice2.Form.TheVariants as form
use Rattle.ump_grammar.specs.declared.packet.Packet.{Packet}
use Rattle.ump_grammar.specs.declared.packet.Packet.TheVariants as packets
use Rattle.sysex_groups.specs.Exclusives.{Part, Room, ended_by, fits, held, passes_room, too_long, whole, framed}
use Rattle.sysex_groups.specs.Table.{Begun, Table, answer_of, begun_in}
use Rattle.midi1_bytes.specs.Messages.{Message, exclusive}
use Rattle.midi1_bytes.specs.Steps.{Step, completed_by, step_of}
use Rattle.midi1_bytes.specs.Steps as steps
use Rattle.midi_meaning.specs.declared.listed.BadStep.TheVariants as bad
use Rattle.midi_meaning.specs.Laws.{JoinedBytesKnowNoOffsets, RoomsThatAreNotPassedDoNotMatter}
use Rattle.midi_meaning.specs.Messages.{Scale, as_they_come, meaning1, raised}
use Rattle.midi_meaning.specs.Packets.{IsInRange, meaning2}
use Rattle.midi_meaning.specs.Parts.{Placed, part_of, parts_of, whole_by, whole_of}
use Rattle.midi_meaning.specs.Refusal.{bad_part}
use Rattle.midi_meaning.specs.Rooms.{AreWithinRoom}
use Rattle.voice_state.specs.declared.fact.Fact.{Fact}
use Rattle.voice_state.specs.Kept.{Keeps, KeptGroup}
use Rattle.voice_state.specs.StateLaws.{BytesAreKept, PacketsAreKept}
use Rattle.voice_state.specs.States.{States, after_packet, states_of_stream}
use Rattle.down_translator.specs.Held.{whole_with}
use Rattle.down_translator.specs.Recording.{packets_of}
use Rattle.midi_lines.specs.FactLines.{fact_text}
use Rattle.pass_loop.specs.Pass.{Steps, Takes, TakesIn, Work}
use Rattle.pass_loop.specs.Places.{Places}
use Rattle.pass_loop.specs.Put.{Put, in_output}
use Rattle.pass_loop.specs.ForProofs.StepLaws.{takes_steps}
use Rattle.pass_loop.specs.declared.ends.RunEnd.{RunEnd}
use Rattle.listing_lines.specs.Refusal.{refusal_by, refusal_of}
use Rattle.show_pass.specs.KeptState.{Kept, KeepsPacket, KeepsStep, StandsFor, after_completed}
use Rattle.show_pass.specs.KeptState.{ended_by_answer, ended_in, fact_puts, with_ended}

-- ---- steps that take memory

-- a step of a work that may take memory, which says the state only if all was put
pub steps_when_kept : {I : Type 0} (work : Work I) (past : List I) (item : I) (old new : Places) (Then : Type 0)
    (result : Result (Unit {0}) RunEnd) (puts : List Put)
    → TakesIn work.grows (work.refusal past item) puts old new result → (work.refusal past item ≡ None → work.IsPut past item puts)
    → (work.refusal past item ≡ None → result ≡ Ok tt → Then)
    → Steps work past old new item result × IfOk result (λ done. Then)
steps_when_kept work past item old new Then result puts takes fine behind = by_memory work.grows refl takes
  where
    by_result : (r : Result (Unit {0}) RunEnd) → Takes (work.refusal past item) puts old new r
        → (work.refusal past item ≡ None → r ≡ Ok tt → Then) → Steps work past old new item r × IfOk r (λ done. Then)
    by_result (Ok done) takes behind = takes_steps work past item old new Then (Ok done) puts takes (λ e. (fine e, behind e refl))
    by_result (Err end) takes behind = takes_steps work past item old new (Unit {0}) (Err end) puts takes (λ e. (fine e, tt))

    by_memory : (grows : Bool) → work.grows ≡ grows → TakesIn grows (work.refusal past item) puts old new result
        → Steps work past old new item result × IfOk result (λ done. Then)
    by_memory false e takes = by_result result takes behind
    by_memory true e (inl takes) = by_result result takes behind
    by_memory true e (inr none) =
        let S : Result (Unit {0}) RunEnd → Type 0 = λ r. Steps work past old new item r × IfOk r (λ done. Then) in
        subst S (sym none.0) ((e, none.1), tt)

-- ---- what is kept

-- what is kept stands for other states, if each state that stands for the first ones does
pub stands_too : (scale : Scale) (kept : Kept) (states others : States)
    → ((groups : List KeptGroup) → Keeps scale groups states → Keeps scale groups others) → StandsFor scale kept states
    → StandsFor scale kept others
stands_too scale None states others keeps stands = tt
stands_too scale (Some groups) states others keeps stands = keeps groups stands

-- those of the first facts, of one more, and of the others
pub all_facts : (all : List Fact) (n : ℕ) (fact : Fact) → n < length all → fact ≡ get_or all n fact
    → fact_puts all ≡ fact_puts (take n all) ++ (in_output (fact_text fact) ∷ fact_puts (drop (n + 1) all))
all_facts all n fact within is =
    ap fact_puts (sym (take-append-drop n all))
    ∙ map-append (λ f. in_output (fact_text f)) (take n all) (drop n all)
    ∙ ap (λ xs. fact_puts (take n all) ++ fact_puts xs) (drop_more all n fact within ∙ ap (λ f. f ∷ drop (n + 1) all) (sym is))

-- ---- one more packet

-- a part ends an exclusive exactly if the answer to it lends one
same_end : (room : Room) (begun : Option Begun) (f : Form) (bytes : List ℕ) (group : ℕ)
    → ended_by_answer group (answer_of room begun f bytes)
    ≡ option_map (λ joined. group) (ended_by room f (option_map (λ b. b.bytes) begun) bytes)
same_end room None form.Complete bytes group = refl
same_end room None form.Start bytes group = refl
same_end room None form.Continue bytes group = refl
same_end room None form.End bytes group = refl
same_end room (Some begun) form.Complete bytes group = refl
same_end room (Some begun) form.Start bytes group = refl
same_end room (Some begun) form.Continue bytes group = by_fit (fits room (length (begun.bytes ++ bytes)))
  where
    by_fit : (fit : Bool) → ended_by_answer group (cond fit held too_long) ≡ None
    by_fit true = refl
    by_fit false = refl
same_end room (Some begun) form.End bytes group = by_fit (fits room (length (begun.bytes ++ bytes)))
  where
    by_fit : (fit : Bool)
        → ended_by_answer group (cond fit (whole (framed (begun.bytes ++ bytes))) too_long)
        ≡ option_map (λ joined. group) (cond fit (Some (begun.bytes ++ bytes)) None)
    by_fit true = refl
    by_fit false = refl

module _ (law : PacketsAreKept) (past : List Packet) (old new : Kept) (stands : StandsFor raised old (meaning2 false past)) where
  -- a packet that ends no exclusive
  silent : (packet : Packet) → whole_of past packet ≡ None → KeepsPacket None packet old new
      → StandsFor raised new (meaning2 false (packet ∷ past))
  silent packet none keeps =
      stands_too raised new (after_packet packet None (meaning2 false past)) (meaning2 false (packet ∷ past))
      (λ groups kept. law.next groups past packet none kept) ((keeps (exclusive [])).1 (meaning2 false past) stands)

  -- a packet that ends one, or none
  by_whole : (group : ℕ) (f : Form) (bytes : List ℕ) (joined : Option (List ℕ)) → whole_of past (packets.Exclusive group f bytes) ≡ joined
      → KeepsPacket (option_map (λ bytes. group) joined) (packets.Exclusive group f bytes) old new
      → StandsFor raised new (meaning2 false (packets.Exclusive group f bytes ∷ past))
  by_whole group f bytes None e keeps = silent (packets.Exclusive group f bytes) e keeps
  by_whole group f bytes (Some joined) e keeps =
      let packet : Packet = packets.Exclusive group f bytes in
      stands_too raised new (with_ended (Some group) (exclusive joined) (after_packet packet None (meaning2 false past)))
      (meaning2 false (packet ∷ past)) (λ groups kept. law.whole groups past group f bytes joined e kept)
      ((keeps (exclusive joined)).1 (meaning2 false past) stands)

  -- what is kept after a packet stands for what all packets mean
  pub packet_kept : (table : Table) (packet : Packet) → option_and_then (whole_with table) (part_of 0 packet) ≡ whole_of past packet
      → KeepsPacket (ended_in table packet) packet old new
      → StandsFor raised new (meaning2 false (packet ∷ past))
  packet_kept table (packets.Exclusive group f bytes) ends keeps =
      let packet : Packet = packets.Exclusive group f bytes in
      let K : Option ℕ → Type 0 = λ ended. KeepsPacket ended packet old new in
      by_whole group f bytes (whole_of past packet) refl
      (subst K (same_end (Some table.room) (begun_in table group) f bytes group ∙ ap (option_map (λ joined. group)) ends) keeps)
  packet_kept table (packets.Utility s v) ends keeps = silent (packets.Utility s v) refl keeps
  packet_kept table (packets.System g m) ends keeps = silent (packets.System g m) refl keeps
  packet_kept table (packets.Voice1 g m) ends keeps = silent (packets.Voice1 g m) refl keeps
  packet_kept table (packets.Voice2 g m) ends keeps = silent (packets.Voice2 g m) refl keeps
  packet_kept table (packets.Data8 g w) ends keeps = silent (packets.Data8 g w) refl keeps
  packet_kept table (packets.Flex g w) ends keeps = silent (packets.Flex g w) refl keeps
  packet_kept table (packets.Stream f s l w x y) ends keeps = silent (packets.Stream f s l w x y) refl keeps
  packet_kept table (packets.Reserved w) ends keeps = silent (packets.Reserved w) refl keeps

-- ---- no packet passes the room

not_passed : (passes : Bool) (offset : ℕ) → refusal_by (cond passes (Some bad.ExclusiveTooLong) None) offset ≡ None → passes ≡ false
not_passed true offset e = cc
not_passed false offset e = refl

pub within_more : (room offset : ℕ) (packet : Packet) (past : List Placed) → 6 ≤ room → IsInRange packet
    → refusal_by (bad_part (Some room) (parts_of past) (part_of 0 packet)) offset ≡ None → AreWithinRoom room (parts_of past)
    → AreWithinRoom room (parts_of (record { offset = offset; packet = packet } ∷ past))
within_more room offset (packets.Exclusive g f bytes) past least range fine within = (
  not_passed (passes_room (Some room) (parts_of past) (record { group = g; form = f; bytes = bytes; offset = 0 })) offset fine,
  omega (arith, least, range.1),
  within,
)
within_more room offset (packets.Utility s v) past least range fine within = within
within_more room offset (packets.System g m) past least range fine within = within
within_more room offset (packets.Voice1 g m) past least range fine within = within
within_more room offset (packets.Voice2 g m) past least range fine within = within
within_more room offset (packets.Data8 g w) past least range fine within = within
within_more room offset (packets.Flex g w) past least range fine within = within
within_more room offset (packets.Stream f s l w x y) past least range fine within = within
within_more room offset (packets.Reserved w) past least range fine within = within

-- so the exclusive that it ends is that without a room
pub whole_is : RoomsThatAreNotPassedDoNotMatter → JoinedBytesKnowNoOffsets → (room offset : ℕ) (past : List Placed) (packet : Packet)
    → refusal_by (bad_part (Some room) (parts_of past) (part_of 0 packet)) offset ≡ None
    → AreWithinRoom room (parts_of past) → whole_by (Some room) (parts_of past) packet ≡ whole_of (packets_of past) packet
whole_is rooms offsets room offset past (packets.Exclusive g f bytes) fine within =
    let part : Part = record { group = g; form = f; bytes = bytes; offset = 0 } in
    rooms.ended room (parts_of past) part within (not_passed (passes_room (Some room) (parts_of past) part) offset fine)
    ∙ ap (λ joined. ended_by None f joined bytes) (offsets g past)
whole_is rooms offsets room offset past (packets.Utility s v) fine within = refl
whole_is rooms offsets room offset past (packets.System g m) fine within = refl
whole_is rooms offsets room offset past (packets.Voice1 g m) fine within = refl
whole_is rooms offsets room offset past (packets.Voice2 g m) fine within = refl
whole_is rooms offsets room offset past (packets.Data8 g w) fine within = refl
whole_is rooms offsets room offset past (packets.Flex g w) fine within = refl
whole_is rooms offsets room offset past (packets.Stream f s l w x y) fine within = refl
whole_is rooms offsets room offset past (packets.Reserved w) fine within = refl

-- ---- one more byte

-- what is kept after a byte stands for what all bytes mean
pub byte_kept : BytesAreKept → (past : List ℕ) (byte : ℕ) (old new : Kept)
    → StandsFor as_they_come old (states_of_stream (meaning1 false past)) → KeepsStep (step_of None past byte) old new
    → StandsFor as_they_come new (states_of_stream (meaning1 false (byte ∷ past)))
byte_kept law past byte old new stands keeps =
    by_completed (completed_by (step_of None past byte)) refl (keeps.1 (states_of_stream (meaning1 false past)) stands)
  where
    by_completed : (completed : Option Message) → completed_by (step_of None past byte) ≡ completed
        → StandsFor as_they_come new (after_completed completed (states_of_stream (meaning1 false past)))
        → StandsFor as_they_come new (states_of_stream (meaning1 false (byte ∷ past)))
    by_completed None e kept =
        stands_too as_they_come new (states_of_stream (meaning1 false past)) (states_of_stream (meaning1 false (byte ∷ past)))
        (λ groups keeps. law.silent groups past byte e keeps) kept
    by_completed (Some message) e kept =
        stands_too as_they_come new (after_completed (Some message) (states_of_stream (meaning1 false past)))
        (states_of_stream (meaning1 false (byte ∷ past))) (λ groups keeps. law.completing groups past byte message e keeps) kept

-- a byte that isn't refused doesn't pass the room
pub step_within : (step : Step) (offset : ℕ) → refusal_of step offset ≡ None → step ≢ steps.too_long
step_within step offset fine = λ e. let r : refusal_of steps.too_long offset ≡ None = subst (λ s. refusal_of s offset ≡ None) e fine in cc
