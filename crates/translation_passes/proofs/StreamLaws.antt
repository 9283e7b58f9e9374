-- One more byte of a stream that is raised, by the laws of the crates below.
use Rattle.std.proofs.Common.{◌≡◌, ℕ, Bool, List, [], ◌∷◌, ◌++◌, length, take, drop, ap, sym, ◌∙◌, subst}
use Rattle.std.specs.Prelude.{None, Some, Ok, reverse}
use Rattle.ump_grammar.specs.declared.packet.Packet.{Packet}
use Rattle.std.proofs.lemmas.List.{length-map, reverse-append, reverse-reverse, take-append-drop}
use Rattle.midi1_bytes.specs.Laws.{ParsedBytesAreTheDefinition}
use Rattle.midi1_bytes.specs.Parsing.{held_over, parse}
use Rattle.midi_meaning.specs.UpLaws.{RoomsThatAreNotReachedDoNotMatterInBytes}
use Rattle.midi_meaning.specs.UpRefusal.{AreAcceptedUp, refusal_of_step}
use Rattle.up_translator.specs.declared.raised.Raised.{Raised}
use Rattle.up_translator.specs.Answers.{IsRaisedAt}
use Rattle.up_translator.specs.Fronts.{RaisesAlone}
use Rattle.up_translator.specs.Held.{UpState, step_in, up_after}
use Rattle.up_translator.specs.Laws.{RaisedBytesAreTheDefinition}
use Rattle.up_translator.specs.Recording.{HoldsUp}
use Rattle.up_translator.specs.Step.{Raises}
use Rattle.pass_loop.specs.Bytes.{bytes_read}
use Rattle.pass_loop.specs.Runs.{next_item}
use Rattle.listing_lines.specs.Lines.{line_puts}
use Rattle.listing_lines.specs.Refusal.{refusal_by}
use Rattle.translation_passes.specs.Raised.{byte_lines, byte_packets, byte_refusal, refusal_at}

-- ---- accepted bytes

accepted_before : (room : ℕ) (newer past : List ℕ) → AreAcceptedUp (Some room) (newer ++ past) → AreAcceptedUp (Some room) past
accepted_before room [] past accepted = accepted
accepted_before room (byte ∷ newer) past accepted = accepted_before room newer past accepted.1

-- the first of accepted bytes are accepted
pub front_accepted : (room count : ℕ) (past : List ℕ) → AreAcceptedUp (Some room) past
    → AreAcceptedUp (Some room) (reverse (take count (reverse past)))
front_accepted room count past accepted =
    let bytes : List ℕ = reverse past in
    let turned : past ≡ reverse (drop count bytes) ++ reverse (take count bytes) =
    sym (reverse-reverse past) ∙ ap reverse (sym (take-append-drop count bytes)) ∙ reverse-append (take count bytes) (drop count bytes) in
    let A : List ℕ → Type 0 = λ xs. AreAcceptedUp (Some room) xs in
    accepted_before room (reverse (drop count bytes)) (reverse (take count bytes)) (subst A turned accepted)

-- ---- one more byte

module _ (paired : Bool) (law : RaisedBytesAreTheDefinition paired) (room group : ℕ) (past : List (ℕ × ℕ)) (up : UpState)
    (holds : HoldsUp paired room group (bytes_read past) up) (offset byte : ℕ) (place : offset ≡ length past) where
  at : offset ≡ length (bytes_read past)
  at = place ∙ sym (length-map past (λ (item : ℕ × ℕ). item.1))

  -- what the translator answers is what the definition tells
  pub answered : (raised : Raised) → Raises up offset byte (Ok raised) → IsRaisedAt paired room group (bytes_read past) byte raised
  answered raised raises =
      let R : ℕ → Type 0 = λ n. Raises up n byte (Ok raised) in
      law.answer room group (bytes_read past) byte up (Ok raised) holds (subst R at raises)

  pub refused_as : ParsedBytesAreTheDefinition → byte_refusal up offset byte ≡ refusal_at room past (offset, byte)
  refused_as parsed =
      ap (λ step. refusal_by (refusal_of_step step) offset)
      (ap (λ parsing. (parse parsing offset byte).step) holds.parsing_is
      ∙ ap (λ n. (parse (held_over room (bytes_read past)) n byte).step) at
      ∙ parsed.step room (bytes_read past) byte)

  -- it then holds what all bytes leave
  pub holds_more : RoomsThatAreNotReachedDoNotMatterInBytes paired → (new : UpState) → AreAcceptedUp (Some room) (byte ∷ bytes_read past)
      → new ≡ up_after up offset byte
      → HoldsUp paired room group (byte ∷ bytes_read past) new
  holds_more rooms new accepted is =
      let H : ℕ → Type 0 = λ n. HoldsUp paired room group (byte ∷ bytes_read past) (up_after up n byte) in
      let U : UpState → Type 0 = λ u. HoldsUp paired room group (byte ∷ bytes_read past) u in
      subst U (sym is) (subst H (sym at)
      (law.after room group (bytes_read past) byte up (rooms.accepted room (byte ∷ bytes_read past) accepted) holds))

-- ---- one more byte of several that are taken at once

-- it is accepted with these packets and no line, and this is held then
pub record IsAloneAt (paired : Bool) (room group : ℕ) (past : List (ℕ × ℕ)) (byte : ℕ) (packets : List Packet) (new : UpState) : Type 0
  where
    pub unrefused : refusal_at room past (next_item past byte) ≡ None
    pub packets_are : byte_packets paired room group past (next_item past byte) ≡ packets
    pub unlisted : byte_lines paired room group past (next_item past byte) ≡ []
    pub accepted : AreAcceptedUp (Some room) (byte ∷ bytes_read past)
    pub holds : HoldsUp paired room group (byte ∷ bytes_read past) new

pub alone_at : (paired : Bool) → RaisedBytesAreTheDefinition paired → (room group : ℕ) (past : List (ℕ × ℕ)) (up : UpState)
    → AreAcceptedUp (Some room) (bytes_read past) → HoldsUp paired room group (bytes_read past) up
    → (byte : ℕ) (packets : List Packet) → RaisesAlone up (length past) byte packets
    → IsAloneAt paired room group past byte packets (up_after up (length past) byte)
alone_at paired law room group past up accepted holds byte packets raises =
    let at : length (bytes_read past) ≡ length past = length-map past (λ (item : ℕ × ℕ). item.1) in
    let R : ℕ → Type 0 = λ n. RaisesAlone up n byte packets in
    let one = law.alone room group (bytes_read past) byte up packets accepted holds (subst R (sym at) raises) in
    let H : ℕ → Type 0 = λ n. HoldsUp paired room group (byte ∷ bytes_read past) (up_after up n byte) in
    record {
      unrefused = ap (λ refusal. refusal_by refusal (length past)) one.0.accepted;
      packets_are = one.0.packets_are;
      unlisted = ap line_puts one.0.unlisted;
      accepted = (one.0.accepted, accepted);
      holds = subst H at one.1;
    }
