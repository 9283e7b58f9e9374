use Rattle.std.proofs.Common.{◌≡◌, ◌∙◌, ap, sym, subst, refl, [], ◌∷◌, map, true, Option, Some}
use Rattle.std.specs.Prelude.{IfSome, List, ℕ}
use Rattle.voice_messages.specs.declared.voice1.Voice1.{Voice1}
use Rattle.ump_grammar.specs.Ranges.{IsPacket}
use Rattle.ump_grammar.specs.declared.packet.Packet.{Packet}
use Rattle.ump_grammar.specs.declared.packet.Packet.TheVariants as packet
use Rattle.midi1_bytes.specs.Messages.{voice, AreData}
use Rattle.midi1_bytes.specs.Spoken.{voice_in}
use Rattle.encoded_packets.specs.declared.direct_message.DirectMessage.{DirectMessage}
use Rattle.encoded_packets.specs.DirectMessages.{direct_voice}
use Rattle.midi_meaning.specs.Messages.{channel_of, step1}
use Rattle.param_collector.specs.Holding.{Holding}
use Rattle.param_collector.specs.Keeps.{Keeps}
use Rattle.up_translator.specs.Direct.{goes_direct}
use Rattle.up_translator.specs.Held.{RaiserState}
use Rattle.up_translator.proofs.DirectLaws.{accepted, fits, held, kept, no_program, not_ignored}
use Rattle.up_translator.proofs.raiser.Raiser.voice.Goals as goal

pub raise_direct-message-requires : goal.raise_direct-message-requires
raise_direct-message-requires c =
    let bytes = c.args.bytes.now in
    no_program c.self.inside.direct bytes.status bytes.first bytes.second (sym c.goes_direct.ensures ∙ c.if-goes_direct.true)

pub returns-then-goes_direct : goal.returns-then-goes_direct
returns-then-goes_direct c =
    let v : Voice1 = voice_in c.args.bytes.now in
    let state : RaiserState = c.args.self.now in
    let holding : Holding = state.holding in
    let m : DirectMessage = c.raise_direct-message.result in
    let same : c.self.inside.collector ≡ holding = ap (λ (r : RaiserState). r.holding) c.self.view_is in
    let alone : goes_direct (Some holding.paired) v ≡ true =
    ap (λ (h : Holding). goes_direct (Some h.paired) v) (sym same)
    ∙ ap (λ paired. goes_direct paired v) (sym c.self.invariant) ∙ sym c.goes_direct.ensures ∙ c.if-goes_direct.true in
    let group : m.group ≡ state.group = c.raise_direct-message.ensures.group ∙ ap (λ (r : RaiserState). r.group) c.self.view_is in
    let others = c.other_messages_change_nothing_kept.ensures in (
      (refl, λ _. tt, c.give.follows.holds-at-none ∙ (λ i. record { group = state.group; holding = sym (held holding v alone) i })),
      record {
        answer = record {
          accepted = accepted holding.paired v alone;
          grouped = c.give.ensures.group;
          apart = c.give.ensures.apart;
          in_order = c.give.ensures.order;
          payload = c.give.ensures.payload;
          data_bytes = subst (λ (o : Option (List ℕ)). IfSome o AreData) (sym c.give.ensures.payload) tt;
          spelled =
              subst (λ (o : Option Packet). IfSome o IsPacket) (sym c.give.ensures.packet)
              (subst IsPacket (sym c.of_value.ensures) (fits m c.raise_direct-message.ensures.raised_direct));
          raised_of = λ kept_state keeps. record {
            packets =
                c.give.ensures.packets
                ∙ ap (λ (p : Packet). p ∷ []) (c.of_value.ensures ∙ ap (λ n. packet.Voice2 n (direct_voice m)) group)
                ∙ ap (map (packet.Voice2 state.group))
                (sym (c.raise_direct-message.ensures.raised holding.paired (kept_state.channels (channel_of v)) alone));
            lines = rw (not_ignored holding.paired (kept_state.channels (channel_of v)) v alone) c.give.ensures.lines;
          };
        };
        kept = λ kept_state keeps.
            subst (λ (h : Holding). Keeps h (step1 holding.paired kept_state (voice v))) (sym (held holding v alone))
            (kept others holding kept_state v alone keeps);
        after = tt;
      },
    )
