-- A source in memory that fails as it is told to.
use Rattle.std.specs.Prelude.{ℕ, ◌-◌, ◌^◌, min, max, if◌then◌else◌, List, drop, length, slice_index_or, Option, None, Some}
use Rattle.midi_edge.specs.Script.{one_more, is_listed}

-- what it has left, the most bytes of each answer, which calls fail, and its counts
pub record SourceState : Type 0 where
  pub left : List ℕ
  pub cuts : List ℕ
  pub fails : List ℕ
  pub given : ℕ
  pub calls : ℕ
  pub faults : ℕ

-- how many bytes the next answer may have: a cut of 0 is one of 1, and past the list there is no limit
abbrev pub next_cut : SourceState → ℕ
next_cut s = max (slice_index_or s.cuts s.given (2 ^ 64 - 1)) 1

-- the source after a `take` into so many bytes, and how many it gives
abbrev pub after_take : SourceState → ℕ → SourceState × Option ℕ
after_take s size =
    let count = min (min (length s.left) (next_cut s)) size in
    if is_listed s.fails s.calls then (record s { calls = one_more s.calls; faults = one_more s.faults }, None)
    else (record s { left = drop count s.left; given = one_more s.given; calls = one_more s.calls }, Some count)
