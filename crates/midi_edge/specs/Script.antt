-- Which calls of an object in memory are to fail.
use Rattle.std.specs.Prelude.{ℕ, ◌+◌, ◌-◌, ◌^◌, ◌==◌, min, Bool, List, Option, find}
use Rattle.std.specs.List.{list_any}
use Rattle.std.specs.Option.{option_map}

-- one more, up to the last value of the type
abbrev pub one_more : ℕ → ℕ
one_more n = min (n + 1) (2 ^ 64 - 1)

-- this call is to fail
abbrev pub is_listed : List ℕ → ℕ → Bool
is_listed fails call = list_any (λ fail. fail == call) fails

-- how many bytes this call keeps, if it is to fail
abbrev pub kept_at : List (ℕ × ℕ) → ℕ → Option ℕ
kept_at fails call = option_map (λ fail. fail.1) (find (λ fail. fail.0 == call) fails)
