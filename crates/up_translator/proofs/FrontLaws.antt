-- What is raised of bytes that are taken at once is what is raised of them one after the other.
use Rattle.std.proofs.Common.{ℕ, ◌≡◌, ◌+◌, ◌∙◌, ap, sym, subst, refl, Bool, false, List, [], ◌∷◌, map}
use Rattle.ump_grammar.specs.declared.packet.Packet.TheVariants as packet
use Rattle.voice_messages.specs.declared.voice1.Voice1.{Voice1}
use Rattle.encoded_packets.specs.declared.direct_message.DirectMessage.{DirectMessage}
use Rattle.encoded_packets.specs.DirectMessages.{direct_voice}
use Rattle.midi1_bytes.specs.Messages.{voice, common, exclusive, real_time}
use Rattle.midi1_bytes.specs.Parsing.{Parsing, AreHeld, AreMessage, parse}
use Rattle.midi1_bytes.specs.Plain.{is_plain}
use Rattle.midi1_bytes.specs.Steps.{Step, completes, cut, held, stray, too_long, undefined}
use Rattle.midi_meaning.specs.Messages.{channel_of, step1}
use Rattle.param_collector.specs.Holding.{Holding}
use Rattle.param_collector.specs.Keeps.{Keeps}
use Rattle.up_translator.specs.DirectWords.{packet_of}
use Rattle.up_translator.specs.ForProofs.DirectOf.{IsDirectOf}
use Rattle.up_translator.specs.Fronts.{RaiseNothing, RaiseOne, RaisesStepAlone, TakesAlone, is_direct}
use Rattle.up_translator.specs.Held.{UpState, holding_after_step}
use Rattle.up_translator.proofs.DirectLaws as direct
use Rattle.up_translator.proofs.DirectLaws.{OthersKeep}

-- nothing comes of a byte that is held
nothing_of_held : (holding : Holding) (group offset : ℕ) → RaisesStepAlone holding group offset held []
nothing_of_held holding group offset = record {
  accepted = refl;
  packets_of = λ state keeps. refl;
  unlisted = λ state keeps. refl;
  kept = λ state keeps. keeps;
}

-- what is neither held nor completes a voice message is taken by no direct step
pub other_not_direct : (paired : Bool) (step : Step) → is_plain step ≡ false → is_direct paired step ≡ false
other_not_direct paired held is = cc
other_not_direct paired (completes (voice message)) is = cc
other_not_direct paired (completes (common message)) is = refl
other_not_direct paired (completes (exclusive bytes)) is = refl
other_not_direct paired (completes (real_time message)) is = refl
other_not_direct paired stray is = refl
other_not_direct paired undefined is = refl
other_not_direct paired (cut start what after) is = refl
other_not_direct paired too_long is = refl

-- the packet of the direct message comes of the byte that completes it
one_of_direct : OthersKeep → (holding : Holding) (group offset : ℕ) (message : Voice1) (to : DirectMessage)
    → IsDirectOf (record { group = group; holding = holding }) message to
    → RaisesStepAlone holding group offset (completes (voice message)) (packet_of to ∷ [])
one_of_direct others holding group offset message to is = record {
  accepted = direct.accepted holding.paired message is.alone;
  packets_of = λ state keeps.
      ap (map (packet.Voice2 group)) (is.raises holding.paired (state.channels (channel_of message)) is.alone)
      ∙ ap (λ (n : ℕ). packet.Voice2 n (direct_voice to) ∷ []) (sym is.group_is);
  unlisted = λ state keeps. rw (direct.not_ignored holding.paired (state.channels (channel_of message)) message is.alone) refl;
  kept = λ state keeps.
      subst (λ (h : Holding). Keeps h (step1 holding.paired state (voice message))) (sym (direct.held holding message is.alone))
      (direct.kept others holding state message is.alone keeps);
}

module _ (group : ℕ) (holding : Holding) where
  abbrev with_parsing : Parsing → UpState
  with_parsing parsing = record { group = group; parsing = parsing; holding = holding }

  -- what control changes have set stays
  abbrev after_step : Parsing → Step → UpState
  after_step parsing step = record { group = group; parsing = parsing; holding = holding_after_step holding step }

  -- a byte that is held, and one that completes a message which is raised alone
  pub takes_held : (parsing : Parsing) (offset byte : ℕ) (new : Parsing) → (parse parsing offset byte).step ≡ held
      → new ≡ (parse parsing offset byte).after → TakesAlone (with_parsing parsing) offset byte [] (with_parsing new)
  takes_held parsing offset byte new is after = record {
    direct = ap (is_direct holding.paired) is;
    alone = subst (λ (s : Step). RaisesStepAlone holding group offset s []) (sym is) (nothing_of_held holding group offset);
    after = ap with_parsing after ∙ ap (λ (s : Step). after_step (parse parsing offset byte).after s) (sym is);
  }

  pub takes_direct : OthersKeep → (message : Voice1) (to : DirectMessage) → IsDirectOf (record { group = group; holding = holding }) message to
      → (parsing : Parsing) (offset byte : ℕ) (new : Parsing) → (parse parsing offset byte).step ≡ completes (voice message)
      → new ≡ (parse parsing offset byte).after → TakesAlone (with_parsing parsing) offset byte (packet_of to ∷ []) (with_parsing new)
  takes_direct others message to direct_of parsing offset byte new is after = record {
    direct = ap (is_direct holding.paired) is ∙ direct_of.alone;
    alone = subst (λ (s : Step). RaisesStepAlone holding group offset s (packet_of to ∷ [])) (sym is)
        (one_of_direct others holding group offset message to direct_of);
    after = ap with_parsing after
        ∙ ap (λ (h : Holding). record { group = group; parsing = (parse parsing offset byte).after; holding = h })
        (sym (direct.held holding message direct_of.alone) ∙ ap (holding_after_step holding) (sym is));
  }

  pub held_raise_nothing : (bytes : List ℕ) (parsing : Parsing) (offset : ℕ) (new : Parsing) → AreHeld bytes parsing offset new
      → RaiseNothing bytes (with_parsing parsing) offset (with_parsing new)
  held_raise_nothing [] parsing offset new is = ap with_parsing is
  held_raise_nothing (byte ∷ more) parsing offset new is =
      let after : Parsing = (parse parsing offset byte).after in (
        subst (λ (s : Step). RaisesStepAlone holding group offset s []) (sym is.0) (nothing_of_held holding group offset),
        subst (λ (s : Step). RaiseNothing more (after_step after s) (offset + 1) (with_parsing new)) (sym is.0)
            (held_raise_nothing more after (offset + 1) new is.1),
      )

  pub message_raises_one : OthersKeep → (message : Voice1) (to : DirectMessage)
      → IsDirectOf (record { group = group; holding = holding }) message to
      → (bytes : List ℕ) (parsing : Parsing) (offset : ℕ) (new : Parsing) → AreMessage bytes parsing offset (voice message) new
      → RaiseOne bytes (with_parsing parsing) offset (packet_of to) (with_parsing new)
  message_raises_one others message to direct_of [] parsing offset new is = is
  message_raises_one others message to direct_of (byte ∷ []) parsing offset new is =
      let after : Parsing = (parse parsing offset byte).after in (
        subst (λ (s : Step). RaisesStepAlone holding group offset s (packet_of to ∷ [])) (sym is.0)
            (one_of_direct others holding group offset message to direct_of),
        ap with_parsing is.1
            ∙ ap (λ (h : Holding). record { group = group; parsing = after; holding = h })
            (sym (direct.held holding message direct_of.alone) ∙ ap (holding_after_step holding) (sym is.0)),
      )
  message_raises_one others message to direct_of (byte ∷ next ∷ more) parsing offset new is =
      let after : Parsing = (parse parsing offset byte).after in (
        subst (λ (s : Step). RaisesStepAlone holding group offset s []) (sym is.0) (nothing_of_held holding group offset),
        subst (λ (s : Step). RaiseOne (next ∷ more) (after_step after s) (offset + 1) (packet_of to) (with_parsing new)) (sym is.0)
            (message_raises_one others message to direct_of (next ∷ more) after (offset + 1) new is.1),
      )
