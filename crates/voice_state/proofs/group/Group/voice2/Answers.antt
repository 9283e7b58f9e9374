use Rattle.std.proofs.Common.{◌∙◌, ◌<◌, false, arith}
use Rattle.midi_meaning.specs.Messages.{raised}
use Rattle.midi_meaning.specs.Packets.{channel2, voice2_at}
use Rattle.voice_state.specs.Kept.{KeptGroup}
use Rattle.voice_state.specs.Rooms.{IsFull2}
use Rattle.voice_state.proofs.OneChanged.{channel_full, channel_rooms, channel_step}
use Rattle.voice_state.proofs.group.Group.voice2.Goals as goal

pub returns-clause-step : goal.returns-clause-step
returns-clause-step c =
    let old : KeptGroup =
    record { channels = c.self.inside.channels.items; commons = c.self.inside.commons; real_times = c.self.inside.real_times } in
    let below : c.get.result < 16 = omega (arith, c.get.ensures.value, c.get.ensures.below) in
    channel_step old c.get.result (channel2 c.args.message.now) c.index_mut-channel.result.now c.voice2.new.self c.self.invariant below
    (c.get.ensures.value ∙ c.channel.ensures) c.index_mut-channel.ensures.value raised (voice2_at false c.args.message.now)
    c.voice2.result c.args.self.now c.self.view_is c.voice2.ensures.step

pub returns-clause-full : goal.returns-clause-full
returns-clause-full c =
    let old : KeptGroup =
    record { channels = c.self.inside.channels.items; commons = c.self.inside.commons; real_times = c.self.inside.real_times } in
    let below : c.get.result < 16 = omega (arith, c.get.ensures.value, c.get.ensures.below) in
    channel_full old c.get.result (channel2 c.args.message.now) c.index_mut-channel.result.now c.voice2.new.self c.self.invariant below
    (c.get.ensures.value ∙ c.channel.ensures) c.index_mut-channel.ensures.value (IsFull2 c.args.message.now)
    c.voice2.result c.args.self.now c.self.view_is c.voice2.ensures.full

pub returns-clause-rooms : goal.returns-clause-rooms
returns-clause-rooms c =
    let old : KeptGroup =
    record { channels = c.self.inside.channels.items; commons = c.self.inside.commons; real_times = c.self.inside.real_times } in
    let below : c.get.result < 16 = omega (arith, c.get.ensures.value, c.get.ensures.below) in
    channel_rooms old c.get.result (channel2 c.args.message.now) c.index_mut-channel.result.now c.voice2.new.self c.self.invariant below
    (c.get.ensures.value ∙ c.channel.ensures) c.index_mut-channel.ensures.value c.args.self.now c.self.view_is c.voice2.ensures.room
