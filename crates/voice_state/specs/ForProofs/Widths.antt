-- The scales that the code names. Own rule: controllers aren't paired in a state that is kept.
use Rattle.voice_state.specs.declared.width.Width.{Width}
use Rattle.voice_state.specs.declared.width.Width.TheVariants as width
use Rattle.std.specs.Prelude.{false}
use Rattle.midi_meaning.specs.Messages.{Scale, as_they_come, raised, with_pairs}

abbrev pub values_of : Width → Scale
values_of width.Midi1 = as_they_come
values_of width.Midi2 = raised

abbrev pub scale_of : Width → Scale
scale_of width = with_pairs false (values_of width)
