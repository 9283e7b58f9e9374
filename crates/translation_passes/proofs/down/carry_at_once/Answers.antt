use Rattle.std.proofs.Common.{ap, refl, sym, subst, ◌∙◌}
use Rattle.std.specs.Prelude.{Ok}
use Rattle.down_translator.specs.Held.{DownState, down_after}
use Rattle.down_translator.specs.HeldStep.{goes_held}
use Rattle.down_translator.specs.Lowered.{goes_direct, goes_shortened, lowered_bytes, shortened_bytes}
use Rattle.translation_passes.specs.Down.{Carries}
use Rattle.translation_passes.proofs.LoweredLaws.{carries_message, carries_nothing, none_takes, some_lowered, some_shortened}
use Rattle.translation_passes.proofs.down.carry_at_once.Goals as goal

pub returns-in-Some : goal.returns-in-Some
returns-in-Some g c =
    let m = c.in-Some.message in (
      sym (c.in-Some.ensures.after c.args.offset),
      carries_message c.args.down.now c.args.offset m.lane (lowered_bytes m) m.has_attribute c.in-Some.ensures.lane c.args.packet.now
          (some_lowered m) (c.in-Some.ensures.step c.args.offset) _ _ _ c.put_lowered.ensures,
    )

pub returns-in-Some-shortened : goal.returns-in-Some-shortened
returns-in-Some-shortened g c =
    let m = c.in-Some-shortened.message in (
      sym (c.in-Some-shortened.ensures.after c.args.offset),
      carries_message c.args.down.now c.args.offset m.lane (shortened_bytes m) m.has_attribute c.in-Some-shortened.ensures.lane
          c.args.packet.now (some_shortened m) (c.in-Some-shortened.ensures.step c.args.offset) _ _ _ c.put_shortened.ensures,
    )

pub returns-then-holds : goal.returns-then-holds
returns-then-holds g c =
    let places = g.O.Outputs.places c.args.outputs.now in
    let same = c.in_default-shortened.ensures.1 in
    let held = c.if-holds.ensures.held refl in
    let From : DownState → Type 0 = λ from. Carries from c.args.offset c.args.packet.now places places (Ok tt) in (
      sym (held.after c.args.offset) ∙ ap (down_after c.args.offset c.args.packet.now) same,
      subst From same (carries_nothing _ c.args.offset c.args.packet.now (held.step c.args.offset) places),
    )

pub returns : goal.returns
returns g c =
    let packet = c.args.packet.now in
    let old : DownState = c.args.down.now in
    let same = c.in_default-shortened.ensures.1 in
    let unchanged = c.if-holds.ensures.unchanged refl in (
      none_takes (goes_direct old packet) (goes_shortened old packet) (goes_held old packet) c.in_default.ensures
          c.in_default-shortened.ensures.0 (sym (ap (λ state. goes_held state packet) same) ∙ unchanged.0),
      unchanged.1 ∙ same,
      refl,
    )
