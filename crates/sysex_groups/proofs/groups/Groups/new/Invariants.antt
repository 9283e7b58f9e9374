use Rattle.std.proofs.Common.{◌≡◌, length, map, replicate, All, None}
use Rattle.sysex_groups.specs.Buffers.{state_of}
use Rattle.sysex_groups.proofs.groups.Groups.new.Given as goal

abbrev pub invariant-loop : goal.invariant-loop
invariant-loop l =
    (length l.buffers.items ≡ l.counter) ×
    All (λ buffer. buffer.room ≡ l.room) l.buffers.items ×
    (map (λ buffer. (state_of buffer).begun) l.buffers.items ≡ replicate l.counter None)
