use Rattle.std.proofs.Common.{◌<◌, arith}
use Rattle.midi_meaning.specs.State.{with_common}
use Rattle.voice_state.proofs.OneChanged.{group_changed, group_rooms}
use Rattle.voice_state.proofs.running.VoiceState.count_common.Goals as goal

pub returns-clause-step : goal.returns-clause-step
returns-clause-step c = λ scale states message.
    let below : c.get.result < 16 = omega (arith, c.get.ensures.value, c.get.ensures.below) in
    group_changed c.self.inside.groups.items c.get.result c.args.group c.index_mut-group.result.now c.count_common.new.self c.self.invariant below
    c.get.ensures.value c.index_mut-group.ensures.value scale (with_common message) c.args.self.now c.self.view_is
    (λ state. c.count_common.ensures.step scale state message) states

pub returns-clause-rooms : goal.returns-clause-rooms
returns-clause-rooms c =
    let below : c.get.result < 16 = omega (arith, c.get.ensures.value, c.get.ensures.below) in
    group_rooms c.self.inside.groups.items c.get.result c.args.group c.index_mut-group.result.now c.count_common.new.self c.self.invariant below
    c.get.ensures.value c.index_mut-group.ensures.value c.args.self.now c.self.view_is c.count_common.ensures.rooms
