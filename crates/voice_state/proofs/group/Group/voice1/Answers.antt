use Rattle.std.proofs.Common.{◌∙◌, ◌<◌, arith}
use Rattle.midi_meaning.specs.Messages.{channel_of, voice_at}
use Rattle.voice_state.specs.Kept.{KeptGroup}
use Rattle.voice_state.specs.Rooms.{IsFull1}
use Rattle.voice_state.specs.ForProofs.Widths.{scale_of}
use Rattle.voice_state.proofs.OneChanged.{channel_full, channel_rooms, channel_step}
use Rattle.voice_state.proofs.group.Group.voice1.Goals as goal

pub returns-clause-step : goal.returns-clause-step
returns-clause-step c =
    let old : KeptGroup =
    record { channels = c.self.inside.channels.items; commons = c.self.inside.commons; real_times = c.self.inside.real_times } in
    let below : c.get.result < 16 = omega (arith, c.get.ensures.value, c.get.ensures.below) in
    channel_step old c.get.result (channel_of c.args.message.now) c.index_mut-channel.result.now c.voice1.new.self c.self.invariant below
    (c.get.ensures.value ∙ c.channel.ensures) c.index_mut-channel.ensures.value (scale_of c.args.width) (voice_at (scale_of c.args.width) c.args.message.now)
    c.voice1.result c.args.self.now c.self.view_is c.voice1.ensures.step

pub returns-clause-full : goal.returns-clause-full
returns-clause-full c =
    let old : KeptGroup =
    record { channels = c.self.inside.channels.items; commons = c.self.inside.commons; real_times = c.self.inside.real_times } in
    let below : c.get.result < 16 = omega (arith, c.get.ensures.value, c.get.ensures.below) in
    channel_full old c.get.result (channel_of c.args.message.now) c.index_mut-channel.result.now c.voice1.new.self c.self.invariant below
    (c.get.ensures.value ∙ c.channel.ensures) c.index_mut-channel.ensures.value (IsFull1 c.args.message.now)
    c.voice1.result c.args.self.now c.self.view_is c.voice1.ensures.full

pub returns-clause-rooms : goal.returns-clause-rooms
returns-clause-rooms c =
    let old : KeptGroup =
    record { channels = c.self.inside.channels.items; commons = c.self.inside.commons; real_times = c.self.inside.real_times } in
    let below : c.get.result < 16 = omega (arith, c.get.ensures.value, c.get.ensures.below) in
    channel_rooms old c.get.result (channel_of c.args.message.now) c.index_mut-channel.result.now c.voice1.new.self c.self.invariant below
    (c.get.ensures.value ∙ c.channel.ensures) c.index_mut-channel.ensures.value c.args.self.now c.self.view_is c.voice1.ensures.room
