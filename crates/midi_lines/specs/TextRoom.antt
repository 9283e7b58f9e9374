-- How many bytes the parts of a text's line take at most.
use Rattle.std.specs.Prelude.{ℕ, ◌+◌}
use Rattle.system_stream.specs.declared.texts.TextKind.TheVariants as kinds
use Rattle.system_stream.specs.Texts.{limit_of}
use Rattle.text_lines.specs.Room.{longest_word}

-- the bytes of a text: those of an endpoint name
abbrev pub longest_text : ℕ
longest_text = limit_of kinds.EndpointName

-- what stands before the bytes of a text: `text`, a space and its kind
abbrev pub before_text : ℕ
before_text = 5 + longest_word
