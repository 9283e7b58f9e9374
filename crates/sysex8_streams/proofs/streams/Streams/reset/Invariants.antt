use Rattle.std.proofs.Common.{◌≡◌, All}
use Rattle.std.specs.List.{AllWithin}
use Rattle.sysex8_streams.specs.Slots.{state8_of, idle8}
use Rattle.sysex8_streams.proofs.streams.Streams.reset.Given as goal

abbrev pub invariant-loop-slot : goal.invariant-loop-slot
invariant-loop-slot l =
    All (λ slot. slot.room ≡ l.fn.self.room) l.slot-items ×
    AllWithin (λ slot. state8_of slot ≡ idle8 l.fn.self.room) l.slot-items 0 l.slot-index
