-- A handle may go to another thread, since what it owns may.
use Prim.Native.Nat.{ℕ, zero, suc}
use mir.Raw.{raw}
use base.Fraction.{full_share}
use base.Shift.{Keyless}
use denote.Memory.{lone}
use denote.RawPtr.{Ptr, block_ptr, null_ptr}
use denote.Param.Send.{IsSend, owning_send, part_keyless, sendable}
use Rattle.std.specs.declared.option.Option.{Option}
use Rattle.std.specs.declared.option.Option.TheVariants.{Some, None}
use Rattle.std.proofs.Crossing.{frees}
use Rattle.c_handles.specs.Held.{held, heap}
use Rattle.c_handles.specs.contracts.engine.Engine.{the_row as Inner}
use Rattle.c_handles.proofs.engine.Engine.TheSendSync as inner
use Rattle.c_handles.specs.contracts.handle.Handle.{the_row, the_type}

held_keyless : (y : ℕ) (p : Ptr) (m : Option Inner.Denot) → Keyless (held Inner y p m)
held_keyless (suc n) (block_ptr b o) (Some x) =
    (part_keyless Inner inner.the_send full_share x b o, frees.frees heap (raw (lone Inner.mir)) (block_ptr b o))
held_keyless (suc n) null_ptr (Some x) = (tt, frees.frees heap (raw (lone Inner.mir)) null_ptr)
held_keyless (suc n) p None = tt
held_keyless zero p (Some x) = tt
held_keyless zero p None = tt

pub send : IsSend the_row
send = owning_send the_type (search sendable, (search sendable, tt)) (λ d. held_keyless d.is_open d.at d.holds) (λ k x w. tt)
