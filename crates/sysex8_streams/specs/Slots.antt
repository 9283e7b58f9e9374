-- What one slot holds.
use Rattle.std.specs.Prelude.{◌≡◌, ℕ, true, List, Option, Some, None}
use Rattle.std.specs.Option.{option_map, ForSome}
use Rattle.std.specs.Borrow.{MutBor, Fml}
use Rattle.std.specs.Io.BufRead.{Rests}
use Rattle.voice_messages.specs.declared.voice2.Form.{Form}
use Rattle.sysex_groups.specs.Table.{Begun, begun_after}
use Rattle.sysex8_streams.specs.declared.slot.Slot.{Slot}
use Rattle.sysex8_streams.specs.declared.slot.Holder.{Holder}
use Rattle.sysex8_streams.specs.contracts.slot.Slot.{the_row}
use Rattle.sysex8_streams.specs.History.{key_of, Answer8}
use Rattle.sysex8_streams.specs.Table.{Slot8, slot_with, answer8_of}

-- the key of the stream that has a slot
abbrev pub holder_key : Holder → ℕ
holder_key holder = key_of holder.group holder.stream

-- what a slot has begun
abbrev pub slot8_of : Slot → Slot8
slot8_of slot =
    option_map (λ holder. record { key = holder_key holder; begun = record { start = holder.start; bytes = slot.bytes.items } }) slot.holder

-- and with it how many bytes an exclusive may have
pub record SlotState : Type 0 where
  pub room : ℕ
  pub slot : Slot8

abbrev pub state8_of : Slot → SlotState
state8_of slot = record { room = slot.room; slot = slot8_of slot }

abbrev pub idle8 : ℕ → SlotState
idle8 room = record { room = room; slot = None }

-- what its stream has begun
abbrev pub begun_of : Slot8 → Option Begun
begun_of slot = option_map (λ stream. stream.begun) slot

-- the answer to one more part of its stream
abbrev pub slot_answer : SlotState → Form → List ℕ → Answer8
slot_answer state form bytes = answer8_of state.room (begun_of state.slot) true form bytes

-- a slot that no other stream has, after one more part of this one
abbrev pub slot_after : SlotState → ℕ → Form → List ℕ → ℕ → SlotState
slot_after state key form bytes offset =
    record { room = state.room; slot = slot_with key (begun_after (Some state.room) (begun_of state.slot) form bytes offset) }

-- a slot that no other stream has
abbrev pub IsFor : ℕ → Slot8 → Type 0
IsFor key slot = ForSome slot (λ stream. stream.key ≡ key)

abbrev pub KeepsSlot : MutBor Slot → SlotState → Fml
KeepsSlot slot state = Rests the_row slot (λ new. state8_of new ≡ state)
