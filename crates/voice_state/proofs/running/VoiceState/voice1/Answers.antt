use Rattle.std.proofs.Common.{◌<◌, arith}
use Rattle.voice_state.specs.Rooms.{IsGroupFull1}
use Rattle.voice_state.specs.States.{after_voice1}
use Rattle.voice_state.specs.ForProofs.Widths.{scale_of}
use Rattle.voice_state.proofs.OneChanged.{group_full, group_rooms, group_step}
use Rattle.voice_state.proofs.running.VoiceState.voice1.Goals as goal

pub returns-clause-step : goal.returns-clause-step
returns-clause-step c =
    let below : c.get.result < 16 = omega (arith, c.get.ensures.value, c.get.ensures.below) in
    group_step c.self.inside.groups.items c.get.result c.args.group c.index_mut-group.result.now c.voice1.new.self c.self.invariant below
    c.get.ensures.value c.index_mut-group.ensures.value (scale_of c.args.width) (after_voice1 (scale_of c.args.width) c.args.message.now) c.voice1.result c.args.self.now
    c.self.view_is c.voice1.ensures.step

pub returns-clause-full : goal.returns-clause-full
returns-clause-full c =
    let below : c.get.result < 16 = omega (arith, c.get.ensures.value, c.get.ensures.below) in
    group_full c.self.inside.groups.items c.get.result c.args.group c.index_mut-group.result.now c.voice1.new.self c.self.invariant below
    c.get.ensures.value c.index_mut-group.ensures.value (IsGroupFull1 c.args.message.now) c.voice1.result c.args.self.now c.self.view_is
    c.voice1.ensures.full

pub returns-clause-rooms : goal.returns-clause-rooms
returns-clause-rooms c =
    let below : c.get.result < 16 = omega (arith, c.get.ensures.value, c.get.ensures.below) in
    group_rooms c.self.inside.groups.items c.get.result c.args.group c.index_mut-group.result.now c.voice1.new.self c.self.invariant below
    c.get.ensures.value c.index_mut-group.ensures.value c.args.self.now c.self.view_is c.voice1.ensures.rooms
