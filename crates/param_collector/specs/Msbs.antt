-- The MSBs of parameters, in one table, and those of paired controllers, in another.
use Rattle.std.specs.Prelude.{ℕ, ◌+◌, ◌*◌, List, replicate}
use Rattle.voice_messages.specs.declared.voice2.ParamKind.{ParamKind}
use Rattle.voice_messages.specs.declared.voice2.ParamKind.TheVariants.{Registered, Assignable}
use Rattle.voice_messages.specs.declared.voice2.Param.{Param}

abbrev pub kind_number : ParamKind → ℕ
kind_number Registered = 0
kind_number Assignable = 1

-- the place of the MSB of a channel's parameter, below 524,288 for sixteen channels and numbers of seven
-- bits a half
abbrev pub place_of : ℕ → Param → ℕ
place_of channel param = ((channel * 2 + kind_number param.kind) * 128 + param.bank) * 128 + param.index

-- the place of the MSB of a channel's paired controller, below 512 for sixteen channels and indexes below 32
abbrev pub pair_place : ℕ → ℕ → ℕ
pair_place channel index = channel * 32 + index

-- this many MSBs of 0; the name stands for its list, which is long
unfoldable pub zeros : ℕ → List ℕ
zeros count = replicate count 0
