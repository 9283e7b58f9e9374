-- The acts that the code names are those of the definition.
use Rattle.midi_meaning.specs.State.{Act, on, off, mode}
use Rattle.voice_state.specs.declared.note_act.NoteAct.{NoteAct}
use Rattle.voice_state.specs.declared.note_act.NoteAct.TheVariants as note_act

abbrev pub act_of : NoteAct → Act
act_of (note_act.On note velocity) = on note velocity
act_of (note_act.Off note velocity) = off note velocity
act_of (note_act.Mode index value) = mode index value
