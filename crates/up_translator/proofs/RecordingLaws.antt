-- What the translator holds is the definition that looks back over the bytes.
use Rattle.std.proofs.Common.{ℕ, Bool, false, ◌≡◌, ◌∙◌, ap, sym, subst, refl, List, [], ◌∷◌, length, map, Option, Some, None}
use Rattle.std.proofs.lemmas.Grind.{fold-append}
use Rattle.std.specs.Prelude.{Result, Ok, Err, IfSome}
use Rattle.std.specs.List.{fold}
use Rattle.std.specs.Option.{option_map, option_to_list}
use Rattle.midi1_bytes.specs.Messages.{Message, voice, common, exclusive, real_time, IsMessage, AreData}
use Rattle.midi1_bytes.specs.Steps.{Step, completed, completed_by, step_of}
use Rattle.midi1_bytes.specs.Parsing.{Parsing, parse, open_of}
use Rattle.midi1_bytes.specs.Laws.{CompletedMessagesAreInRange, ParsedBytesAreTheDefinition}
use Rattle.voice_messages.specs.declared.voice1.Voice1.TheVariants as voice1
use Rattle.voice_messages.specs.Ranges.{IsParam}
use Rattle.midi_meaning.specs.Controllers.{Role, pairing, role_of}
use Rattle.midi_meaning.specs.Registers.{selected}
use Rattle.ump_grammar.specs.declared.packet.Packet.{Packet}
use Rattle.listing_terms.specs.declared.listed.BadStep.{BadStep}
use Rattle.midi_meaning.specs.Messages.{as_they_come, start, step1, meaning1}
use Rattle.midi_meaning.specs.Raising.{raised_step}
use Rattle.midi_meaning.specs.State.{GroupState}
use Rattle.midi_meaning.specs.StepListing.{kinds_at_end, line_up, open_pair}
use Rattle.midi_meaning.specs.UpLaws.{RoomsThatAreNotReachedDoNotMatterInBytes}
use Rattle.midi_meaning.specs.UpRefusal.{AreAcceptedUp, AreStepsWithinRoom}
use Rattle.param_collector.specs.Control.{AreInRange, answer_of, holding_after}
use Rattle.param_collector.specs.Holding.{Holding, IsHolding, fresh, pair_count, registers_at}
use Rattle.param_collector.specs.Keeps.{IsMeant, Keeps, is_control_change}
use Rattle.param_collector.specs.Msbs.{zeros}
use Rattle.param_collector.proofs.Meaning.{sizes_again, start_kept}
use Rattle.up_translator.specs.declared.raised.Raised.{Raised}
use Rattle.up_translator.specs.Answers.{IsAnswerAt, IsRaisedAloneAt}
use Rattle.up_translator.specs.Fronts.{RaisesAlone, RaisesStepAlone}
use Rattle.up_translator.specs.Held.{UpState, KeepsAfter, holding_after_message, holding_after_step, new_up, state_after, step_in, up_after}
use Rattle.up_translator.specs.Recording.{HoldsUp, up_over}
use Rattle.up_translator.specs.Step.{Accepts, IsRaised, RaisesStep, Raises, payload_by}

abbrev pub PairsStay : Type 0
PairsStay =
    (holding : Holding) (role : Role) (channel index value : ℕ) → (holding_after role holding channel index value).paired ≡ holding.paired

abbrev pub SizesStay : Type 0
SizesStay =
    (holding : Holding) (role : Role) (channel index value : ℕ) → IsHolding holding →
    IsHolding (holding_after role holding channel index value)

abbrev pub ChangesAreMeant : Type 0
ChangesAreMeant =
    (holding : Holding) (channel index value : ℕ) → IsHolding holding →
    AreInRange channel (selected (registers_at holding channel)) value →
    IsMeant holding (holding_after (pairing holding.paired (role_of index)) holding channel index value) channel index value
    (answer_of (pairing holding.paired (role_of index)) holding channel index value)

abbrev pub OthersAreKept : Type 0
OthersAreKept =
    (holding : Holding) (group : GroupState) (message : Message) → is_control_change message ≡ false → Keeps holding group →
    Keeps holding (step1 holding.paired group message)

abbrev pub SelectedInRange : Bool → Type 0
SelectedInRange paired = (past : List ℕ) (channel : ℕ) → IfSome (selected ((meaning1 paired past).channels channel).registers) IsParam

-- what is known of control changes
pub record Kept (paired : Bool) : Type 0 where
  pub meant : ChangesAreMeant
  pub others : OthersAreKept
  pub sizes : SizesStay
  pub pairs : PairsStay
  pub in_range : SelectedInRange paired

-- ---- a new translator

pub held-new : (paired : Bool) → ParsedBytesAreTheDefinition → (room group : ℕ) → HoldsUp paired room group [] (new_up paired room group)
held-new paired parsed room group =
    let sizes =
    sizes_again paired (fresh paired).registers (zeros 524288) (zeros (pair_count paired)) refl refl refl in
    record {
      group_is = refl;
      parsing_is = sym (parsed.new room);
      paired_is = refl;
      sizes = (sizes.0, sizes.1, sizes.2);
      keeps = start_kept (fresh paired).registers (zeros 524288) paired (zeros (pair_count paired)) refl refl refl;
    }

-- ---- one more byte

step-held : (paired : Bool) → ParsedBytesAreTheDefinition → (room group : ℕ) (past : List ℕ) (byte : ℕ) (up : UpState)
    → HoldsUp paired room group past up → step_in up (length past) byte ≡ step_of (Some room) past byte
step-held paired parsed room group past byte up holds =
    ap (λ (p : Parsing). (parse p (length past) byte).step) holds.parsing_is ∙ parsed.step room past byte

payload-data : (message : Option Message) → IfSome message IsMessage → IfSome (payload_by message) AreData
payload-data None h = h
payload-data (Some (voice m)) h = tt
payload-data (Some (common m)) h = tt
payload-data (Some (real_time m)) h = tt
payload-data (Some (exclusive bytes)) h = h

answered : (paired : Bool) → CompletedMessagesAreInRange
    → (room group : ℕ) (past : List ℕ) (byte : ℕ) (up : UpState) (result : Result Raised BadStep) → HoldsUp paired room group past up →
    RaisesStep up.holding group (length past) (step_of (Some room) past byte) result → IsAnswerAt paired room group past byte result
answered paired in_range room group past byte up (Ok raised) holds answer = record {
  accepted = answer.accepted;
  packets = (raised_at answer).packets;
  lines = (raised_at answer).lines;
  data_bytes =
      subst (λ (o : Option (List ℕ)). IfSome o AreData) (sym answer.payload)
      (payload-data (completed_by (step_of (Some room) past byte)) (in_range (Some room) past byte));
}
  where
    raised_at : Accepts up.holding group (length past) (step_of (Some room) past byte) raised
        → IsRaised paired (meaning1 paired past) group (length past) (step_of (Some room) past byte) raised
    raised_at accepts =
        subst (λ q. IsRaised q (meaning1 paired past) group (length past) (step_of (Some room) past byte) raised) holds.paired_is
        (accepts.raised_of (meaning1 paired past) holds.keeps)
answered paired in_range room group past byte up (Err bad) holds answer = answer

pub held-answer : (paired : Bool) → ParsedBytesAreTheDefinition → CompletedMessagesAreInRange
    → (room group : ℕ) (past : List ℕ) (byte : ℕ) (up : UpState) (result : Result Raised BadStep) → HoldsUp paired room group past up
    → Raises up (length past) byte result → IsAnswerAt paired room group past byte result
held-answer paired parsed in_range room group past byte up result holds answer =
    answered paired in_range room group past byte up result holds
    (subst (λ (g : ℕ). RaisesStep up.holding g (length past) (step_of (Some room) past byte) result) holds.group_is
    (subst (λ (step : Step). RaisesStep up.holding up.group (length past) step result)
    (step-held paired parsed room group past byte up holds) answer))

-- ---- after it

folded : (paired : Bool) (state : GroupState) (message : Option Message)
    → fold (step1 paired) state (option_to_list message) ≡ state_after paired state message
folded paired state None = refl
folded paired state (Some message) = refl

meaning-behind : (paired : Bool) (past : List ℕ) (byte : ℕ)
    → state_after paired (meaning1 paired past) (completed_by (step_of None past byte)) ≡ meaning1 paired (byte ∷ past)
meaning-behind paired past byte =
    sym (folded paired (meaning1 paired past) (completed_by (step_of None past byte)))
    ∙ sym (fold-append (step1 paired) (start as_they_come) (completed past) (option_to_list (completed_by (step_of None past byte))))

-- what control changes have set stays paired or not
holding-paired : PairsStay → (holding : Holding) (step : Step) → (holding_after_step holding step).paired ≡ holding.paired
holding-paired stays holding step = of_message (completed_by step)
  where
    of_message : (message : Option Message) → (holding_after_message holding message).paired ≡ holding.paired
    of_message (Some (voice (voice1.Control channel index value))) =
        stays holding (pairing holding.paired (role_of index)) channel index value
    of_message (Some (voice (voice1.NoteOff channel note velocity))) = refl
    of_message (Some (voice (voice1.NoteOn channel note velocity))) = refl
    of_message (Some (voice (voice1.PolyPressure channel note value))) = refl
    of_message (Some (voice (voice1.Program channel program))) = refl
    of_message (Some (voice (voice1.Pressure channel value))) = refl
    of_message (Some (voice (voice1.Bend channel value))) = refl
    of_message (Some (common m)) = refl
    of_message (Some (exclusive bytes)) = refl
    of_message (Some (real_time m)) = refl
    of_message None = refl

-- each state that is kept is kept after a message, if what is kept is what bytes leave
message-kept : (paired : Bool) → Kept paired → (past : List ℕ) (holding : Holding) → IsHolding holding → Keeps holding (meaning1 paired past)
    → (message : Option Message) → IfSome message IsMessage → (state : GroupState) → Keeps holding state →
    Keeps (holding_after_message holding message) (state_after holding.paired state message)
message-kept paired kept past holding sizes keeps (Some (voice (voice1.Control channel index value))) range state held =
    let number : IfSome (selected (registers_at holding channel)) IsParam =
    subst (λ registers. IfSome (selected registers) IsParam) (sym (keeps.registers channel range.0)) (kept.in_range past channel) in
    (kept.meant holding channel index value sizes (range.0, range.2, number) state held).0
message-kept paired kept past holding sizes keeps None range state held = held
message-kept paired kept past holding sizes keeps (Some (voice (voice1.NoteOff channel note velocity))) range state held =
    kept.others holding state (voice (voice1.NoteOff channel note velocity)) refl held
message-kept paired kept past holding sizes keeps (Some (voice (voice1.NoteOn channel note velocity))) range state held =
    kept.others holding state (voice (voice1.NoteOn channel note velocity)) refl held
message-kept paired kept past holding sizes keeps (Some (voice (voice1.PolyPressure channel note value))) range state held =
    kept.others holding state (voice (voice1.PolyPressure channel note value)) refl held
message-kept paired kept past holding sizes keeps (Some (voice (voice1.Program channel program))) range state held =
    kept.others holding state (voice (voice1.Program channel program)) refl held
message-kept paired kept past holding sizes keeps (Some (voice (voice1.Pressure channel value))) range state held =
    kept.others holding state (voice (voice1.Pressure channel value)) refl held
message-kept paired kept past holding sizes keeps (Some (voice (voice1.Bend channel value))) range state held =
    kept.others holding state (voice (voice1.Bend channel value)) refl held
message-kept paired kept past holding sizes keeps (Some (common m)) range state held = kept.others holding state (common m) refl held
message-kept paired kept past holding sizes keeps (Some (exclusive bytes)) range state held =
    kept.others holding state (exclusive bytes) refl held
message-kept paired kept past holding sizes keeps (Some (real_time m)) range state held = kept.others holding state (real_time m) refl held

holding-sizes : SizesStay → (holding : Holding) (message : Option Message) → IsHolding holding
    → IsHolding (holding_after_message holding message)
holding-sizes stay holding (Some (voice (voice1.Control channel index value))) sizes =
    stay holding (pairing holding.paired (role_of index)) channel index value sizes
holding-sizes stay holding (Some (voice (voice1.NoteOff channel note velocity))) sizes = sizes
holding-sizes stay holding (Some (voice (voice1.NoteOn channel note velocity))) sizes = sizes
holding-sizes stay holding (Some (voice (voice1.PolyPressure channel note value))) sizes = sizes
holding-sizes stay holding (Some (voice (voice1.Program channel program))) sizes = sizes
holding-sizes stay holding (Some (voice (voice1.Pressure channel value))) sizes = sizes
holding-sizes stay holding (Some (voice (voice1.Bend channel value))) sizes = sizes
holding-sizes stay holding (Some (common m)) sizes = sizes
holding-sizes stay holding (Some (exclusive bytes)) sizes = sizes
holding-sizes stay holding (Some (real_time m)) sizes = sizes
holding-sizes stay holding None sizes = sizes

-- so it is after each byte
keeps-after : (paired : Bool) → Kept paired → ParsedBytesAreTheDefinition → CompletedMessagesAreInRange
    → (room group : ℕ) (past : List ℕ) (byte : ℕ) (up : UpState) → HoldsUp paired room group past up
    → KeepsAfter up.holding (step_in up (length past) byte)
keeps-after paired kept parsed in_range room group past byte up holds state held =
    let range : IfSome (completed_by (step_in up (length past) byte)) IsMessage =
    subst (λ step. IfSome (completed_by step) IsMessage) (sym (step-held paired parsed room group past byte up holds))
    (in_range (Some room) past byte) in
    message-kept paired kept past up.holding holds.sizes holds.keeps (completed_by (step_in up (length past) byte)) range state held

pub held-after : (paired : Bool) → Kept paired → ParsedBytesAreTheDefinition → CompletedMessagesAreInRange
    → RoomsThatAreNotReachedDoNotMatterInBytes paired → (room group : ℕ) (past : List ℕ) (byte : ℕ) (up : UpState)
    → AreStepsWithinRoom room (byte ∷ past) → HoldsUp paired room group past up
    → HoldsUp paired room group (byte ∷ past) (up_after up (length past) byte)
held-after paired kept parsed in_range rooms room group past byte up within holds = record {
  paired_is = holding-paired kept.pairs up.holding (step_in up (length past) byte) ∙ holds.paired_is;
  group_is = holds.group_is;
  parsing_is = ap (λ (p : Parsing). (parse p (length past) byte).after) holds.parsing_is ∙ parsed.after room past byte;
  sizes = holding-sizes kept.sizes up.holding (completed_by (step_in up (length past) byte)) holds.sizes;
  keeps =
      subst (Keeps (holding_after_step up.holding (step_in up (length past) byte)))
      (ap (λ q. state_after q (meaning1 paired past) (completed_by (step_in up (length past) byte))) holds.paired_is
      ∙ ap (λ (step : Step). state_after paired (meaning1 paired past) (completed_by step))
      (step-held paired parsed room group past byte up holds ∙ rooms.step room past byte within)
      ∙ meaning-behind paired past byte)
      (keeps-after paired kept parsed in_range room group past byte up holds (meaning1 paired past) holds.keeps);
}

pub held-over : (paired : Bool) → Kept paired → ParsedBytesAreTheDefinition → CompletedMessagesAreInRange
    → RoomsThatAreNotReachedDoNotMatterInBytes paired → (room group : ℕ) (past : List ℕ) → AreStepsWithinRoom room past
    → HoldsUp paired room group past (up_over paired room group past)
held-over paired kept parsed in_range rooms room group [] within = held-new paired parsed room group
held-over paired kept parsed in_range rooms room group (byte ∷ past) within =
    held-after paired kept parsed in_range rooms room group past byte (up_over paired room group past) within
    (held-over paired kept parsed in_range rooms room group past within.1)

-- ---- of several bytes that are taken at once

abbrev AloneAt : Bool → ℕ → ℕ → List ℕ → ℕ → UpState → List Packet → Type 0
AloneAt paired room group past byte up packets =
    IsRaisedAloneAt paired room group past byte packets × HoldsUp paired room group (byte ∷ past) (up_after up (length past) byte)

pub held-alone : (paired : Bool) → Kept paired → ParsedBytesAreTheDefinition → CompletedMessagesAreInRange
    → RoomsThatAreNotReachedDoNotMatterInBytes paired → (room group : ℕ) (past : List ℕ) (byte : ℕ) (up : UpState) (packets : List Packet) → AreAcceptedUp (Some room) past
    → HoldsUp paired room group past up → RaisesAlone up (length past) byte packets → AloneAt paired room group past byte up packets
held-alone paired kept parsed in_range rooms room group past byte up packets accepted holds raises =
    let alone : IsRaisedAloneAt paired room group past byte packets = at_definition in (
      alone,
      held-after paired kept parsed in_range rooms room group past byte up (rooms.accepted room (byte ∷ past) (alone.accepted, accepted))
          holds,
    )
  where
    same : step_in up (length past) byte ≡ step_of (Some room) past byte
    same = step-held paired parsed room group past byte up holds

    in_stream : RaisesStepAlone up.holding group (length past) (step_of (Some room) past byte) packets
    in_stream =
        subst (λ (g : ℕ). RaisesStepAlone up.holding g (length past) (step_of (Some room) past byte) packets) holds.group_is
        (subst (λ (step : Step). RaisesStepAlone up.holding up.group (length past) step packets) same raises)

    at_definition : IsRaisedAloneAt paired room group past byte packets
    at_definition = record {
      accepted = in_stream.accepted;
      packets_are =
          subst (λ q. raised_step q (meaning1 paired past) group (step_of (Some room) past byte) ≡ packets) holds.paired_is
          (in_stream.packets_of (meaning1 paired past) holds.keeps);
      unlisted = ap (map (line_up group)) (in_stream.unlisted (meaning1 paired past) holds.keeps);
    }

-- ---- at the end

pub held-end : (paired : Bool) → ParsedBytesAreTheDefinition → (room group : ℕ) (past : List ℕ) (up : UpState)
    → HoldsUp paired room group past up →
    map (line_up up.group) (kinds_at_end (option_map (λ begun. (begun.start, begun.kind)) (open_of up.parsing)))
    ≡ map (line_up group) (kinds_at_end (open_pair (Some room) past))
held-end paired parsed room group past up holds =
    ap (λ (g : ℕ). map (line_up g) (kinds_at_end (option_map (λ begun. (begun.start, begun.kind)) (open_of up.parsing)))) holds.group_is
    ∙ ap (λ o. map (line_up group) (kinds_at_end (option_map (λ begun. (begun.start, begun.kind)) o)))
    (ap open_of holds.parsing_is ∙ parsed.end room past)
