use Rattle.std.proofs.Common.{ℕ, List, subst, sym, take}
use Rattle.voice_messages.specs.declared.voice1.Voice1.{Voice1}
use Rattle.encoded_packets.specs.declared.direct_message.DirectMessage.{DirectMessage}
use Rattle.midi1_bytes.specs.Fronts.{IsFront}
use Rattle.midi1_bytes.specs.Messages.{voice}
use Rattle.midi1_bytes.specs.Parsing.{Parsing, AreMessage}
use Rattle.midi1_bytes.specs.Spoken.{voice_in}
use Rattle.up_translator.specs.DirectWords.{packet_of}
use Rattle.up_translator.specs.ForProofs.DirectOf.{IsDirectOf}
use Rattle.up_translator.specs.Fronts.{RaiseOne}
use Rattle.up_translator.specs.Held.{UpState}
use Rattle.up_translator.proofs.FrontLaws.{message_raises_one}
use Rattle.up_translator.proofs.up.Up.front.Goals as goal

pub returns : goal.returns
returns c =
    let raiser = c.self.inside.raiser in
    let parser : Parsing = c.self.inside.parser in
    let after : Parsing = c.take_front.new.self in
    let message : Voice1 = voice_in c.in_ok-spoken.spoken in
    let to : DirectMessage = c.in_ok-message.message in
    let bytes : List ℕ = take c.in_ok-spoken.count c.args.bytes.now in
    let front : IsFront parser c.args.bytes.now c.in_ok-spoken.spoken c.in_ok-spoken.count = c.in_ok-spoken.ensures.front in
    let direct_of : IsDirectOf raiser message to = c.in_ok-message.ensures in
    let new : UpState = record { group = raiser.group; parsing = after; holding = raiser.holding } in
    record {
      some = front.some;
      within = front.within;
      raised_direct = direct_of.raised_direct;
      raised = λ offset.
          subst (λ (up : UpState). RaiseOne bytes up offset (packet_of to) new) c.self.view_is
          (message_raises_one raiser.group raiser.holding c.other_messages_change_nothing_kept.ensures message to direct_of bytes parser
          offset after
          (subst (λ (p : Parsing). AreMessage bytes parser offset (voice message) p) (sym c.take_front.ensures) (front.message offset)));
    }
