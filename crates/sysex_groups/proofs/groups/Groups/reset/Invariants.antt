use Rattle.std.proofs.Common.{◌≡◌, All, length}
use Rattle.std.specs.List.{AllWithin}
use Rattle.sysex_groups.specs.Buffers.{state_of, idle}
use Rattle.sysex_groups.proofs.groups.Groups.reset.Given as goal

abbrev pub invariant-loop-buffer : goal.invariant-loop-buffer
invariant-loop-buffer l =
    (length l.buffer-items ≡ 16) ×
    All (λ buffer. buffer.room ≡ l.fn.self.room) l.buffer-items ×
    AllWithin (λ buffer. state_of buffer ≡ idle l.fn.self.room) l.buffer-items 0 l.buffer-index
