-- The packets of a byte, which come down again.
use Rattle.std.proofs.Common.{◌≡◌, ◌<◌, ◌≤◌, ℕ, Bool, List, [], ◌∷◌, ◌++◌, length, take, refl, ap, sym, ◌∙◌, subst}
use Rattle.std.specs.Prelude.{Some, reverse, Result, Ok, Err}
use Rattle.std.specs.List.{AllByRecursion}
use Rattle.std.proofs.lemmas.List.{append_assoc, append-nil, reverse-append}
use Rattle.ump_grammar.specs.declared.packet.Packet.{Packet}
use Rattle.ump_grammar.specs.Ranges.{IsPacket}
use Rattle.midi_meaning.specs.Back.{SameState}
use Rattle.midi_meaning.specs.Messages.{mean1}
use Rattle.midi_meaning.specs.Packets.{IsInRange}
use Rattle.midi_meaning.specs.Parts.{Placed, whole_of}
use Rattle.midi_meaning.specs.Plain.{plain_piece}
use Rattle.midi_meaning.specs.Raising.{packets_up}
use Rattle.midi_meaning.specs.Styles.{plain_style}
use Rattle.midi_meaning.specs.UpLaws.{BytesThatComeBackMeanTheSame, RaisedPacketsAreInRange}
use Rattle.midi_meaning.specs.UpLaws.{RaisedPacketsComeBackInSilence, RoomsThatAreNotReachedDoNotMatterInBytes}
use Rattle.down_translator.specs.Held.{DownState, down_after, whole_in}
use Rattle.down_translator.specs.Laws.{WhatIsHeldIsTheDefinition}
use Rattle.down_translator.specs.Recording.{AreInRange, packets_of, state_of}
use Rattle.down_translator.specs.Step.{piece_of}
use Rattle.up_translator.specs.Fronts.{RaisesAlone}
use Rattle.up_translator.specs.Held.{UpState, up_after}
use Rattle.up_translator.specs.Laws.{RaisedBytesAreTheDefinition}
use Rattle.pass_loop.specs.Bytes.{bytes_read}
use Rattle.pass_loop.specs.Places.{Places, Puts}
use Rattle.pass_loop.specs.Put.{Put, in_output}
use Rattle.pass_loop.specs.declared.ends.RunEnd.{RunEnd}
use Rattle.pass_loop.specs.Runs.{next_item}
use Rattle.translation_passes.specs.Options.{BackOptions}
use Rattle.down_translator.specs.Lowered.{IsDirectStep, lowered_bytes}
use Rattle.down_translator.specs.declared.lowered.LoweredMessage.{LoweredMessage}
use Rattle.translation_passes.specs.Back.{HoldsBack, HoldsReturned, returning, ReturnedBytesMean, byte_pieces, ComesDown, piece_puts, plain_puts, PutsDown}
use Rattle.translation_passes.specs.Raised.{AreDone, AreTaken, CanBeDone, CarriesOut, byte_packets}
use Rattle.translation_passes.proofs.LoweredLaws.{carried_as, is_carried_as}
use Rattle.translation_passes.proofs.FrontLaws.{ByteIsPut}
use Rattle.translation_passes.proofs.StreamLaws.{IsAloneAt, alone_at, front_accepted}

pub piece_is_put : (offset : ℕ) → CanBeDone ComesDown (PutsDown offset)
piece_is_put offset from group form bytes accepted = (_, _, (refl, refl))

-- a message that alone carries a packet is its piece
pub lowered_comes_down : (offset : ℕ) (from : DownState) (packet : Packet) (m : LoweredMessage) → IsDirectStep from packet m
    → PutsDown offset from packet from (in_output (lowered_bytes m) ∷ [])
lowered_comes_down offset from packet m whole =
    let bytes : List ℕ = lowered_bytes m in
    let carried = carried_as offset m.lane bytes m.has_attribute whole.lane in
    let step = whole.step offset carried (is_carried_as offset m.lane bytes m.has_attribute whole.lane) in
    (sym (whole.after offset), ap piece_puts step.piece)

-- so is what is put when its bytes are
pub lowered_is_put : (offset : ℕ) (from : DownState) (packet : Packet) (m : LoweredMessage) → IsDirectStep from packet m
    → (old new : Places) (result : Result (Unit {0}) RunEnd) → Puts (in_output (lowered_bytes m) ∷ []) old new result
    → CarriesOut (PutsDown offset from packet) from old new result
lowered_is_put offset from packet m whole old new (Ok done) puts =
    (in_output (lowered_bytes m) ∷ [], lowered_comes_down offset from packet m whole, puts)
lowered_is_put offset from packet m whole old new (Err end) fails =
    (from, in_output (lowered_bytes m) ∷ [], lowered_comes_down offset from packet m whole, fails)

-- the outcome of packets that come after others
record ComesDownAfter (paired : Bool) (room offset : ℕ) (earlier ps : List Packet) (placed : List Placed) : Type 0 where
  taken : AreTaken ComesDown (PutsDown offset) (state_of paired plain_style room placed) ps
  now : List Placed
  are : packets_of now ≡ reverse (earlier ++ ps)
  range : AreInRange now
  done : (to : DownState) (puts : List Put) → AreDone (PutsDown offset) (state_of paired plain_style room placed) ps to puts
      → (puts ≡ plain_puts paired (reverse earlier) ps) × (to ≡ state_of paired plain_style room now)

module _ (paired : Bool) (silence : RaisedPacketsComeBackInSilence paired) (held : WhatIsHeldIsTheDefinition paired) (room group : ℕ)
    (least : 6 ≤ room) (past : List ℕ) (offset : ℕ) where
  come_down : (ps earlier : List Packet) (placed : List Placed) → earlier ++ ps ≡ packets_up paired (Some room) group past
      → AllByRecursion IsPacket ps → AllByRecursion IsInRange ps
      → packets_of placed ≡ reverse earlier → AreInRange placed → ComesDownAfter paired room offset earlier ps placed
  come_down [] earlier placed e spelled fit are range =
      record {
        taken = tt;
        now = placed;
        are = are ∙ ap reverse (sym (append-nil earlier));
        range = range;
        done = λ to puts done. (done.1, done.0);
      }
  come_down (p ∷ ps) earlier placed e spelled fit are range =
      let here : Placed = record { offset = offset; packet = p } in
      let upto : List Packet = earlier ++ p ∷ [] in
      let state : DownState = state_of paired plain_style room placed in
      let moved : upto ++ ps ≡ earlier ++ p ∷ ps = append_assoc earlier (p ∷ []) ps in
      let turned : reverse upto ≡ p ∷ reverse earlier = reverse-append earlier (p ∷ []) in
      let are' : packets_of (here ∷ placed) ≡ reverse upto = ap (λ xs. p ∷ xs) are ∙ sym turned in
      let back = (silence.each room group past upto ps (here ∷ placed) (moved ∙ e) are').0 in
      let after : down_after offset p state ≡ state_of paired plain_style room (here ∷ placed) = held.behind plain_style room placed here in
      let rest = come_down ps upto (here ∷ placed) (moved ∙ e) spelled.1 fit.1 are' (fit.0, range) in
      let whole : whole_in state p ≡ whole_of (reverse earlier) p =
      held.whole plain_style room placed least range p ∙ back.whole ∙ ap (λ q. whole_of q p) are in
      let piece : List Put = piece_puts (plain_piece paired (whole_of (reverse earlier) p) p) in
      let plain : piece_of state p ≡ plain_piece paired (whole_in state p) p = held.plain room placed p in
      let A : DownState → Type 0 = λ s. AreTaken ComesDown (PutsDown offset) s ps in
      record {
        taken = (
          (spelled.0, held.refusal plain_style room placed least range p ∙ back.accepted),
          λ between puts one. subst A (sym (one.0 ∙ after)) rest.taken,
        );
        now = rest.now;
        are = rest.are ∙ ap reverse moved;
        range = rest.range;
        done = λ to puts done.
            let D : DownState → Type 0 = λ s. AreDone (PutsDown offset) s ps to done.2 in
            let others = rest.done to done.2 (subst D (done.3.0 ∙ after) done.4) in (
              done.5
                  ∙ ap (λ xs. xs ++ done.2) (done.3.1 ∙ ap piece_puts plain ∙ ap (λ w. piece_puts (plain_piece paired w p)) whole)
                  ∙ ap (λ xs. piece ++ xs) (others.0 ∙ ap (λ q. plain_puts paired q ps) turned),
              others.1,
            );
      }

-- the outcome of the packets of one more byte
pub record ByteComesDown (paired : Bool) (room group : ℕ) (past : List (ℕ × ℕ)) (item : ℕ × ℕ) (from : DownState) : Type 0 where
  pub taken : AreTaken ComesDown (PutsDown item.0) from (byte_packets paired room group past item)
  pub done : (to : DownState) (puts : List Put) → AreDone (PutsDown item.0) from (byte_packets paired room group past item) to puts
      → (puts ≡ byte_pieces paired room group past item) × HoldsReturned paired room group (item.1 ∷ bytes_read past) to

pub byte_comes_down : (paired : Bool) → RaisedPacketsComeBackInSilence paired → WhatIsHeldIsTheDefinition paired
    → RaisedPacketsAreInRange paired → (room group : ℕ) → 6 ≤ room → group < 16 → (past : List (ℕ × ℕ)) (item : ℕ × ℕ) (from : DownState)
    → HoldsReturned paired room group (bytes_read past) from → ByteComesDown paired room group past item from
byte_comes_down paired silence held in_range room group least few past item from holds =
    let bytes : List ℕ = bytes_read past in
    let F : DownState → Type 0 = λ s. ByteComesDown paired room group past item s in
    let down =
    come_down paired silence held room group least (item.1 ∷ bytes) item.0 (byte_packets paired room group past item)
    (packets_up paired (Some room) group bytes) holds.placed refl
    (in_range.packets (Some room) group bytes item.1 few) (in_range.in_range (Some room) group bytes item.1 few) holds.are holds.range in
    subst F (sym holds.down_is) (record {
      taken = down.taken;
      done = λ to puts done.
          let both = down.done to puts done in
          (both.0, record { placed = down.now; are = down.are; range = down.range; down_is = both.1 });
    })

-- accepted bytes mean what the pieces for them mean
pub returned_bytes_mean : (paired : Bool) (room group : ℕ) → group < 16 → BytesThatComeBackMeanTheSame paired
    → RoomsThatAreNotReachedDoNotMatterInBytes paired → ReturnedBytesMean paired room group
returned_bytes_mean paired room group few same rooms = λ past accepted count.
    let front : List ℕ = take count (reverse past) in
    let S : List ℕ → Type 0 = λ xs. SameState (mean1 paired xs) (mean1 paired front) in
    subst S (sym (rooms.pieces room group (reverse front) (rooms.accepted room (reverse front) (front_accepted room count past accepted))))
    (same.after_each group count (reverse past) few)

-- ---- a byte of several that are taken at once

module _ (options : BackOptions) (law : RaisedBytesAreTheDefinition options.paired) (silence : RaisedPacketsComeBackInSilence options.paired)
    (laws : WhatIsHeldIsTheDefinition options.paired) (in_range : RaisedPacketsAreInRange options.paired)
    (up : UpState) (down : DownState) (past : List (ℕ × ℕ)) (byte : ℕ) (held : HoldsBack options up down past) where
  back_alone : (packets : List Packet) → RaisesAlone up (length past) byte packets
      → IsAloneAt options.paired options.room options.group past byte packets (up_after up (length past) byte)
  back_alone packets raises =
      alone_at options.paired law options.room options.group past up held.accepted held.holds_up byte packets raises

  -- the outcome of the packets rests on no offset
  comes_at : (offset : ℕ) → ByteComesDown options.paired options.room options.group past (offset, byte) down
  comes_at offset =
      byte_comes_down options.paired silence laws in_range options.room options.group held.least held.few past (offset, byte) down
      held.holds_down

  -- it is accepted, and these packets come down
  pub alone_is_returned : (packets : List Packet) (to : DownState) (puts : List Put) → RaisesAlone up (length past) byte packets
      → AreDone (PutsDown 0) down packets to puts
      → ByteIsPut (returning options) (λ now. HoldsBack options (up_after up (length past) byte) to now) past byte puts
  alone_is_returned packets to puts raises done =
      let alone = back_alone packets raises in
      let D : List Packet → Type 0 = λ ps. AreDone (PutsDown 0) down ps to puts in
      let both = (comes_at 0).done to puts (subst D (sym alone.packets_are) done) in
      let pieces : List Put = byte_pieces options.paired options.room options.group past (next_item past byte) in
      record {
        accepted = alone.unrefused;
        put = both.0 ∙ sym (append-nil pieces) ∙ ap (λ lines. pieces ++ lines) (sym alone.unlisted);
        holds = record {
          few = held.few;
          least = held.least;
          law = held.law;
          accepted = alone.accepted;
          holds_up = alone.holds;
          holds_down = both.1;
        };
      }

  -- the packet that is raised of it comes down
  pub alone_comes_down : (packet : Packet) → RaisesAlone up (length past) byte (packet ∷ []) → ComesDown down packet
  alone_comes_down packet raises =
      let alone = back_alone (packet ∷ []) raises in
      let A : List Packet → Type 0 = λ ps. AreTaken ComesDown (PutsDown 0) down ps in
      (subst A alone.packets_are (comes_at 0).taken).0
