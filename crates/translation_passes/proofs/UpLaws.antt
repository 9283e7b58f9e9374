-- The packets of a byte, whose words are put one after the other.
use Rattle.std.proofs.Common.{◌≡◌, ℕ, Bool, List, [], ◌∷◌, ◌++◌, length, take, refl, ap, sym, ◌∙◌, subst}
use Rattle.std.specs.Prelude.{Some, reverse}
use Rattle.std.proofs.lemmas.List.{append-nil}
use Rattle.std.specs.List.{AllByRecursion}
use Rattle.packet_words.specs.declared.words.Order.{Order}
use Rattle.ump_grammar.specs.declared.packet.Packet.{Packet}
use Rattle.ump_grammar.specs.Ranges.{IsPacket}
use Rattle.ump_grammar.specs.Reading.{ExclusivesHaveWords}
use Rattle.midi_meaning.specs.Agreement.{Agrees}
use Rattle.midi_meaning.specs.Messages.{mean1}
use Rattle.midi_meaning.specs.Packets.{mean2}
use Rattle.midi_meaning.specs.UpLaws.{RaisedPacketsAreInRange, RaisedPacketsMeanTheBytes, RoomsThatAreNotReachedDoNotMatterInBytes}
use Rattle.up_translator.specs.Fronts.{RaisesAlone}
use Rattle.up_translator.specs.Held.{UpState, up_after}
use Rattle.up_translator.specs.Laws.{RaisedBytesAreTheDefinition}
use Rattle.pass_loop.specs.Bytes.{bytes_read}
use Rattle.pass_loop.specs.Put.{Put}
use Rattle.translation_passes.specs.Options.{UpOptions}
use Rattle.translation_passes.specs.declared.up.WordOutput.{WordOutput}
use Rattle.translation_passes.specs.Raised.{AreDone, AreTaken, CanBeDone, Doing}
use Rattle.translation_passes.specs.Up.{HoldsRaised, RaisedBytesMean, raising}
use Rattle.packet_input.specs.Written.{AreWritten, IsWritten}
use Rattle.translation_passes.proofs.FrontLaws.{ByteIsPut}
use Rattle.translation_passes.proofs.StreamLaws.{IsAloneAt, alone_at, front_accepted}

abbrev pub AcceptsWords : WordOutput → Packet → Type 0
AcceptsWords from packet = IsPacket packet

abbrev pub WritesWords : Doing WordOutput
WritesWords from packet to puts = (to ≡ from) × IsWritten from.order packet puts

pub all_taken : (ps : List Packet) → AllByRecursion IsPacket ps → (from : WordOutput) → AreTaken AcceptsWords WritesWords from ps
all_taken [] all from = tt
all_taken (p ∷ ps) all from = (all.0, λ between puts done. all_taken ps all.1 between)

pub same_words : (ps : List Packet) (from to : WordOutput) (puts : List Put) → AreDone WritesWords from ps to puts → to ≡ from
same_words [] from to puts done = done.0
same_words (p ∷ ps) from to puts done = same_words ps done.0 to done.2 done.4 ∙ done.3.0

pub are_written : (ps : List Packet) (from to : WordOutput) (puts : List Put) → AreDone WritesWords from ps to puts
    → AreWritten from.order ps puts
are_written [] from to puts done = done.1
are_written (p ∷ ps) from to puts done =
    let W : Order → Type 0 = λ order. AreWritten order ps done.2 in
    (done.1, done.2, done.3.1, subst W (ap (λ w. w.order) done.3.0) (are_written ps done.0 to done.2 done.4), done.5)

-- ---- each packet of an exclusive has words

pub exclusive_is_written : ExclusivesHaveWords → CanBeDone AcceptsWords WritesWords
exclusive_is_written law from group form bytes fits =
    let words = law group form bytes fits in
    (from, _, (refl, (words.0, words.1, refl)))

-- ---- accepted bytes mean what their packets mean

pub raised_bytes_mean : (paired : Bool) (room group : ℕ) → RaisedPacketsMeanTheBytes paired
    → RoomsThatAreNotReachedDoNotMatterInBytes paired → RaisedBytesMean paired room group
raised_bytes_mean paired room group means rooms = λ past accepted count.
    let front : List ℕ = take count (reverse past) in
    let P : List Packet → Type 0 = λ ps. Agrees paired (mean1 paired front) (mean2 paired ps group) in
    subst P (sym (rooms.packets room group (reverse front) (rooms.accepted room (reverse front) (front_accepted room count past accepted))))
    (means.after_each group count (reverse past))

-- ---- a byte of several that are taken at once

module _ (options : UpOptions) (law : RaisedBytesAreTheDefinition options.paired) (up : UpState) (past : List (ℕ × ℕ)) (byte : ℕ)
    (held : HoldsRaised options up past) where
  raised_alone : (packets : List Packet) → RaisesAlone up (length past) byte packets
      → IsAloneAt options.paired options.room options.group past byte packets (up_after up (length past) byte)
  raised_alone packets raises =
      alone_at options.paired law options.room options.group past up held.accepted held.holds byte packets raises

  -- it is accepted, and these packets are written
  pub alone_is_put : (packets : List Packet) (puts : List Put) → RaisesAlone up (length past) byte packets
      → AreWritten options.order packets puts
      → ByteIsPut (raising options) (λ now. HoldsRaised options (up_after up (length past) byte) now) past byte puts
  alone_is_put packets puts raises written =
      let alone = raised_alone packets raises in
      let W : List Packet → Type 0 = λ ps. AreWritten options.order ps puts in
      record {
        accepted = alone.unrefused;
        put = (
          puts,
          subst W (sym alone.packets_are) written,
          sym (append-nil puts) ∙ ap (λ lines. puts ++ lines) (sym alone.unlisted),
        );
        holds = record { few = held.few; law = held.law; accepted = alone.accepted; holds = alone.holds };
      }

  -- the packet that is raised of it is one that some words spell
  pub alone_is_packet : RaisedPacketsAreInRange options.paired → (packet : Packet) → RaisesAlone up (length past) byte (packet ∷ [])
      → IsPacket packet
  alone_is_packet in_range packet raises =
      let alone = raised_alone (packet ∷ []) raises in
      let A : List Packet → Type 0 = λ ps. AllByRecursion IsPacket ps in
      (subst A alone.packets_are (in_range.packets (Some options.room) options.group (bytes_read past) byte held.few)).0
