-- The lane and the line of a packet's answer.
use Rattle.std.specs.Prelude.{ℕ, Option}
use Rattle.std.specs.Option.{option_map}
use Rattle.midi_meaning.specs.declared.listed.Listed.{Listed}
use Rattle.down_translator.specs.declared.carried.LentLine.{LentLine}
use Rattle.down_translator.specs.declared.carried.Carried.{Carried}

abbrev pub lane_in : Carried → ℕ
lane_in carried = carried.lane.number

abbrev pub listed_by : LentLine → Listed
listed_by line = record { offset = line.offset; group = option_map (λ group. group.number) line.group; kind = line.kind }

abbrev pub line_in : Carried → Option Listed
line_in carried = option_map listed_by carried.line
