-- The lines of a clip.
use Rattle.std.specs.Prelude.{ℕ, List, ◌++◌, codes, decimal}

-- the ticks for a quarter note
abbrev pub resolution_text : ℕ → List ℕ
resolution_text ticks = codes "resolution " ++ decimal ticks ++ codes "\n"

-- what comes before the line of an event's packet: the ticks at which it stands
abbrev pub ticks_text : ℕ → List ℕ
ticks_text ticks = decimal ticks ++ codes " "

-- the ticks at which the clip ends
abbrev pub end_text : ℕ → List ℕ
end_text ticks = codes "end " ++ decimal ticks ++ codes "\n"
