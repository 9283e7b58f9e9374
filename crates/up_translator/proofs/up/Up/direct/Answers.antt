use Rattle.std.proofs.Common.{◌≡◌, ◌∙◌, [], ◌∷◌, ap, subst, sym}
use Rattle.voice_messages.specs.declared.voice1.Voice1.{Voice1}
use Rattle.encoded_packets.specs.declared.direct_message.DirectMessage.{DirectMessage}
use Rattle.midi1_bytes.specs.Parsing.{Parsing, parse, quiet}
use Rattle.midi1_bytes.specs.Spoken.{voice_in}
use Rattle.up_translator.specs.DirectWords.{packet_of}
use Rattle.up_translator.specs.ForProofs.DirectOf.{IsDirectOf}
use Rattle.up_translator.specs.Fronts.{TakesAlone}
use Rattle.up_translator.specs.Held.{UpState}
use Rattle.up_translator.proofs.FrontLaws.{takes_direct}
use Rattle.up_translator.proofs.up.Up.direct.Goals as goal

pub returns-in-Voice : goal.returns-in-Voice
returns-in-Voice c =
    let raiser = c.self.inside.raiser in
    let parser : Parsing = c.self.inside.parser in
    let new : Parsing = c.take_voice.new.self in
    let message : Voice1 = voice_in c.in-Voice.spoken in
    let to : DirectMessage = c.in-Some.voice in
    let direct_of : IsDirectOf raiser message to = c.in-Some.ensures in
    let after : new ≡ (parse parser c.args.offset c.args.byte).after =
    c.take_voice.ensures ∙ ap (λ (p : Parsing). quiet p.room p.running) c.in-Voice.ensures.2 ∙ sym c.in-Voice.ensures.1 in
    let left : UpState = record { group = raiser.group; parsing = new; holding = raiser.holding } in (
      direct_of.raised_direct,
      subst (λ (up : UpState). TakesAlone up c.args.offset c.args.byte (packet_of to ∷ []) left) c.self.view_is
          (takes_direct raiser.group raiser.holding c.other_messages_change_nothing_kept.ensures message to direct_of parser c.args.offset
          c.args.byte new c.in-Voice.ensures.0 after),
    )
