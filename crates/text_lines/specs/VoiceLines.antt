-- Parts that the lines of channel voice messages of both protocols share, from the kind of the message on.
use Rattle.std.specs.Prelude.{ℕ, List, ◌++◌, codes, Option}
use Rattle.text_lines.specs.Fields.{group_and_channel, field}

-- a message with a value of its channel
abbrev pub channel_value : List ℕ → Option ℕ → ℕ → ℕ → List ℕ
channel_value kind group channel value =
    kind ++ group_and_channel group channel ++ field (codes "value") value

-- a message with a value of one note
abbrev pub note_value : List ℕ → Option ℕ → ℕ → ℕ → ℕ → List ℕ
note_value kind group channel note value =
    kind ++ group_and_channel group channel ++ field (codes "note") note ++ field (codes "value") value

-- a message with a value of one controller
abbrev pub controller_value : List ℕ → Option ℕ → ℕ → ℕ → ℕ → List ℕ
controller_value kind group channel index value =
    kind ++ group_and_channel group channel ++ field (codes "index") index ++ field (codes "value") value
