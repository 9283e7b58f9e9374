-- A text cut into packets, each of which has as many bytes as its kind says; zeros fill the last one.
use Rattle.std.specs.Prelude.{ℕ, ◌-◌, nat_lt, if◌then◌else◌, List, ◌∷◌, ◌++◌, length, replicate, Option, Some, None}
use Rattle.std.proofs.Common.{zero, suc}
use Rattle.std.specs.Int.{div_ceil}
use Rattle.std.specs.Fork.{slice_chunk}
use Rattle.ump_grammar.specs.declared.packet.Packet.{Packet}
use Rattle.system_stream.specs.declared.message.StreamMessage.{StreamMessage}
use Rattle.system_stream.specs.declared.texts.TextKind.{TextKind}
use Rattle.system_stream.specs.Layout.{packet_of}
use Rattle.system_stream.specs.Parts.{Part}
use Rattle.system_stream.specs.Texts.{part_size, part_message}
pub use Rattle.voice_messages.specs.Forms.{form_at}

-- how many packets
abbrev pub part_count : TextKind → List ℕ → ℕ
part_count kind text = div_ceil (length text) (part_size kind)

-- these bytes, and zeros after them
abbrev pub filled : ℕ → List ℕ → List ℕ
filled size bytes = bytes ++ replicate (size - length bytes) 0

-- the bytes of packet k, counted from 0
abbrev pub part_bytes : ℕ → List ℕ → ℕ → List ℕ
part_bytes size text k = filled size (slice_chunk text size k)

-- the message of packet k; the block is that of a function block's name
abbrev pub message_at : TextKind → ℕ → List ℕ → ℕ → StreamMessage
message_at kind block text k = part_message kind (form_at (part_count kind text) k) block (part_bytes (part_size kind) text k)

-- packet k, and none past the last
abbrev pub packet_at : TextKind → ℕ → List ℕ → ℕ → Option Packet
packet_at kind block text k = if nat_lt k (part_count kind text) then Some (packet_of (message_at kind block text k)) else None

-- packet k of a text as a part
abbrev pub sent_part : TextKind → ℕ → List ℕ → ℕ → Part
sent_part kind block text k = record { form = form_at (part_count kind text) k; block = block; bytes = part_bytes (part_size kind) text k }

-- the parts of a kind once the first k packets of a text have come after others, newest first
abbrev pub sent : TextKind → ℕ → List ℕ → List Part → ℕ → List Part
sent kind block text past zero = past
sent kind block text past (suc k) = sent_part kind block text k ∷ sent kind block text past k
