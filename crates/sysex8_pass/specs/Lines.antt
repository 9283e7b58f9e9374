-- The lines of 8-bit exclusives.
use Rattle.std.specs.Prelude.{ℕ, List, ◌++◌, codes, decimal}
use Rattle.sysex8_pass.specs.declared.lines.Kind8.{Kind8}
use Rattle.sysex8_pass.specs.declared.lines.Kind8.TheVariants as kinds

-- the word of a kind
abbrev pub word8 : Kind8 → List ℕ
word8 kinds.Other = codes "other-data8"
word8 kinds.Stray = codes "stray-sysex8"
word8 kinds.Cut = codes "cut-sysex8"
word8 kinds.Full = codes "full-sysex8"
word8 kinds.Open = codes "open-sysex8"

-- the line of what is listed: an offset, the group and the kind
abbrev pub kind_text : Kind8 → ℕ → ℕ → List ℕ
kind_text kind offset group = decimal offset ++ codes " " ++ decimal group ++ codes " " ++ word8 kind ++ codes "\n"

-- the line of an exclusive that is whole: the offset of its last packet, the group, the stream id, and the number of
-- its bytes
abbrev pub whole_text : ℕ → ℕ → ℕ → ℕ → List ℕ
whole_text offset group stream size =
    decimal offset ++ codes " " ++ decimal group ++ codes " sysex8 " ++ decimal stream ++ codes " " ++ decimal size ++ codes "\n"
