use Rattle.midi_commands.proofs.WholeLaws.{leaves_the_whole}
use Rattle.midi_commands.proofs.laws.a_command_that_is_done_leaves_the_whole.Goals as goal

pub returns : goal.returns
returns c = leaves_the_whole (record {
  carries = c.a_recording_that_is_carried_is_that_of_the_input.ensures;
  raises = c.a_stream_that_is_raised_is_that_of_the_input.ensures;
  returns = c.a_stream_that_comes_back_is_that_of_the_input.ensures;
  shows = c.a_recording_that_is_shown_is_that_of_the_input.ensures;
  shows_bytes = c.a_stream_that_is_shown_is_that_of_the_input.ensures;
  answers = c.a_conversation_that_is_done_is_that_of_the_input.ensures;
  splits = c.a_split_that_is_done_is_that_of_the_input.ensures;
  packs = c.a_packing_that_is_done_is_that_of_the_input.ensures;
  joins = c.a_join_that_is_done_is_that_of_the_input.ensures;
  rehearses = c.a_rehearsal_that_is_done_is_that_of_the_input.ensures;
  clips = c.a_clip_that_is_done_is_that_of_the_input.ensures;
})
