use Rattle.std.proofs.Common.{◌≡◌, take}
use Rattle.small_types.proofs.short_list.ShortList.copied.Given as goal

abbrev pub invariant-loop-index : goal.invariant-loop-index
invariant-loop-index g l = l.list ≡ take l.index l.self
