use Rattle.std.proofs.Common.{◌≡◌, length, map, replicate, All, None}
use Rattle.sysex8_streams.specs.Slots.{slot8_of}
use Rattle.sysex8_streams.proofs.streams.Streams.new.Given as goal

abbrev pub invariant-loop : goal.invariant-loop
invariant-loop l =
    (length l.buffers.items ≡ l.counter) ×
    All (λ slot. slot.room ≡ l.room) l.buffers.items ×
    (map slot8_of l.buffers.items ≡ replicate l.counter None)
