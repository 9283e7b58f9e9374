use Rattle.std.proofs.Common.{◌≡◌, ◌∙◌, ap, sym, subst}
use Rattle.down_translator.specs.Held.{DownState, down_after}
use Rattle.c_translators.specs.Down.{IsAccepted}
use Rattle.c_translators.proofs.DirectLaws.{direct_carried, shortened_carried}
use Rattle.c_translators.proofs.down.take_simple.Goals as goal

pub returns-in-Some-clause-taken : goal.returns-in-Some-clause-taken
returns-in-Some-clause-taken c =
    λ is. (
      direct_carried c.args.down.now c.args.offset c.args.packet.now c.in-Some.message c.args.buffer.now c.write_direct.new.buffer
          c.write_direct.new.piece c.in-Some.ensures c.write_direct.ensures.written c.write_direct.ensures.piece,
      sym (c.in-Some.ensures.after c.args.offset),
    )

pub returns-in-Some-shortened-clause-taken : goal.returns-in-Some-shortened-clause-taken
returns-in-Some-shortened-clause-taken c =
    let same : c.holds.new.self ≡ c.args.down.now = (c.holds.ensures.unchanged c.if-holds.false).1 in
    let From : DownState → Type 0 =
    λ from. IsAccepted from c.args.offset c.args.packet.now c.args.buffer.now c.write_shortened.new.piece c.write_shortened.new.buffer in
    λ is. (
      subst From same
          (shortened_carried c.holds.new.self c.shortened.new.self c.args.offset c.args.packet.now c.in-Some-shortened.message
          c.args.buffer.now c.write_shortened.new.buffer c.write_shortened.new.piece c.in-Some-shortened.ensures
          c.write_shortened.ensures.written c.write_shortened.ensures.piece),
      sym (c.in-Some-shortened.ensures.after c.args.offset) ∙ ap (down_after c.args.offset c.args.packet.now) same,
    )
