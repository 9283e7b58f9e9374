-- When a message would add to a list of a channel that is full.
use Rattle.std.specs.Prelude.{ℕ, ◌≡◌, ◌≤◌, ◌<◌, ◌-◌, ◌^◌, false, List, length, slice_index_or, Option, MatchOption, Result, Err}
use Rattle.voice_messages.specs.declared.voice1.Voice1.{Voice1}
use Rattle.voice_messages.specs.declared.voice1.Voice1.TheVariants as voice1
use Rattle.voice_messages.specs.declared.voice2.Voice2.{Voice2}
use Rattle.voice_messages.specs.declared.voice2.Voice2.TheVariants as voice2
use Rattle.voice_messages.specs.declared.voice2.Param.{Param}
use Rattle.ump_grammar.specs.declared.packet.Packet.{Packet}
use Rattle.ump_grammar.specs.declared.packet.Packet.TheVariants as packets
use Rattle.midi_meaning.specs.Controllers.{Role, channel_mode, data_lsb, data_msb, pairing, reset_all, role_of}
use Rattle.midi_meaning.specs.Messages.{channel_of}
use Rattle.midi_meaning.specs.Packets.{channel2}
use Rattle.midi_meaning.specs.Registers.{is_null, selected}
use Rattle.voice_state.specs.declared.channel.Channel as kept_channel
use Rattle.voice_state.specs.declared.not_kept.NotKept.{NotKept}
use Rattle.voice_state.specs.declared.not_kept.NotKept.TheVariants as not_kept
use Rattle.voice_state.specs.declared.not_kept.Room.{Room}
use Rattle.voice_state.specs.Kept.{KeptGroup}
use Rattle.voice_state.specs.KeptParams.{AreFull}

-- the answer is that a list is full exactly if this is so
abbrev pub IsFullWhere : {A : Type 0} → Result A NotKept → Type 0 → Type 0
IsFullWhere (Err not_kept.Full) IsSo = IsSo
IsFullWhere _ IsSo = IsSo → ⊥

-- one more note or mode message
abbrev pub AreActsFull : kept_channel.Channel → Type 0
AreActsFull kept = kept.room.notes ≤ length kept.acts

-- a parameter that isn't kept yet
abbrev pub AreParamsFull : kept_channel.Channel → Param → Type 0
AreParamsFull kept param = AreFull kept.room.params kept.params param

-- data entry, for the selected parameter
abbrev pub IsEntryFull : kept_channel.Channel → Option Param → Type 0
IsEntryFull kept selected = MatchOption selected ⊥ (AreParamsFull kept)

abbrev pub IsControlFull : Role → kept_channel.Channel → Type 0
IsControlFull data_msb kept = IsEntryFull kept (selected kept.registers)
IsControlFull data_lsb kept = IsEntryFull kept (selected kept.registers)
IsControlFull reset_all kept = AreActsFull kept
IsControlFull channel_mode kept = AreActsFull kept
IsControlFull _ kept = ⊥

-- in the MIDI 2.0 protocol the indexes of data entry do nothing
abbrev pub IsControl2Full : Role → kept_channel.Channel → Type 0
IsControl2Full reset_all kept = AreActsFull kept
IsControl2Full channel_mode kept = AreActsFull kept
IsControl2Full _ kept = ⊥

abbrev pub IsFull1 : Voice1 → kept_channel.Channel → Type 0
IsFull1 (voice1.NoteOff channel note velocity) kept = AreActsFull kept
IsFull1 (voice1.NoteOn channel note velocity) kept = AreActsFull kept
IsFull1 (voice1.Control channel index value) kept = IsControlFull (pairing false (role_of index)) kept
IsFull1 _ kept = ⊥

-- the null parameter takes nothing
abbrev pub IsParamFull : kept_channel.Channel → Param → Type 0
IsParamFull kept param = (is_null param ≡ false) × AreParamsFull kept param

abbrev pub IsFull2 : Voice2 → kept_channel.Channel → Type 0
IsFull2 (voice2.NoteOff channel note velocity attribute_type attribute) kept = AreActsFull kept
IsFull2 (voice2.NoteOn channel note velocity attribute_type attribute) kept = AreActsFull kept
IsFull2 (voice2.Control channel index value) kept = IsControl2Full (pairing false (role_of index)) kept
IsFull2 (voice2.Set channel param value) kept = IsParamFull kept param
IsFull2 (voice2.Shift channel param value) kept = IsParamFull kept param
IsFull2 _ kept = ⊥

-- ---- of a group, and of all

-- this is so of the channel of a group
abbrev pub ChannelIs : KeptGroup → ℕ → (kept_channel.Channel → Type 0) → Type 0
ChannelIs kept channel IsSo = (other : kept_channel.Channel) → IsSo (slice_index_or kept.channels channel other)

abbrev pub IsGroupFull1 : Voice1 → KeptGroup → Type 0
IsGroupFull1 message kept = ChannelIs kept (channel_of message) (IsFull1 message)

abbrev pub IsGroupFull2 : Voice2 → KeptGroup → Type 0
IsGroupFull2 message kept = ChannelIs kept (channel2 message) (IsFull2 message)

-- this is so of a group
abbrev pub GroupIs : List KeptGroup → ℕ → (KeptGroup → Type 0) → Type 0
GroupIs kept group IsSo = (other : KeptGroup) → IsSo (slice_index_or kept group other)

abbrev pub IsPacketFull : Packet → List KeptGroup → Type 0
IsPacketFull (packets.Voice1 group message) kept = GroupIs kept group (IsGroupFull1 message)
IsPacketFull (packets.Voice2 group message) kept = GroupIs kept group (IsGroupFull2 message)
IsPacketFull _ kept = ⊥

-- ---- the room itself

-- the room if there is no limit: no list of values in memory is as long
abbrev pub no_limit : ℕ
no_limit = 2 ^ 64 - 1

abbrev pub ChannelsHaveRoom : Room → KeptGroup → Type 0
ChannelsHaveRoom room kept = (channel : ℕ) → channel < 16 → ChannelIs kept channel (λ kept_at. kept_at.room ≡ room)

-- each channel has room for so many notes and mode messages, and so many parameters of each kind
abbrev pub HasRoom : ℕ → ℕ → List KeptGroup → Type 0
HasRoom notes params kept =
    (group : ℕ) → group < 16 → GroupIs kept group (ChannelsHaveRoom (record { notes = notes; params = params }))

-- each channel has the room that it had
abbrev pub KeepsRooms : KeptGroup → KeptGroup → Type 0
KeepsRooms old new =
    (channel : ℕ) (other : kept_channel.Channel) →
    (slice_index_or new.channels channel other).room ≡ (slice_index_or old.channels channel other).room

abbrev pub KeepsAllRooms : List KeptGroup → List KeptGroup → Type 0
KeepsAllRooms old new = (group : ℕ) (other : KeptGroup) → KeepsRooms (slice_index_or old group other) (slice_index_or new group other)
