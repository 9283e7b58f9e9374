-- A shelf in memory that fails as it is told to.
use Rattle.std.specs.Prelude.{ℕ, ◌||◌, Bool, if◌then◌else◌, is_none, List, Option, Some, find, String, Vec, string_bytes}
use Rattle.std.specs.Option.{option_map}
use Rattle.std.specs.Str.{bytes_eq}
use Rattle.std.specs.declared.alloc.Global.{Global}
use Rattle.outside.specs.Outside.{kept_bytes}
use Rattle.midi_edge.specs.Script.{one_more, is_listed}

-- the name that was asked for, the texts, which calls fail, and its counts
pub record ShelfState : Type 0 where
  pub asked : Option (List ℕ)
  pub texts : List (String Global × Vec ℕ Global)
  pub fails : List ℕ
  pub calls : ℕ
  pub faults : ℕ

-- the first text of a name
abbrev pub text_named : List (String Global × Vec ℕ Global) → List ℕ → Option (List ℕ)
text_named texts name = option_map (λ text. text.1.items) (find (λ text. bytes_eq (string_bytes text.0) name) texts)

-- the next call fails for this name
abbrev pub is_failing : ShelfState → List ℕ → Bool
is_failing s name = is_listed s.fails s.calls || is_none (text_named s.texts name)

-- the shelf after a `fetch` of this name
abbrev pub after_fetch : ShelfState → List ℕ → ShelfState
after_fetch s name =
    let asked = record s { asked = Some (kept_bytes name); calls = one_more s.calls } in
    if is_failing s name then record asked { faults = one_more s.faults } else asked
