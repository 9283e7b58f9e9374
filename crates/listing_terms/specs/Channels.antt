-- The channel that a message is for.
pub use Rattle.voice_messages.specs.Channels.{channel2, channel_of}
