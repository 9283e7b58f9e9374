-- The answer that is lent, as the definition's.
use Rattle.sysex8_streams.specs.declared.fed8.Fed8.{Fed8}
use Rattle.sysex8_streams.specs.declared.fed8.Fed8.TheVariants as fed8
use Rattle.sysex8_streams.specs.History.{Answer8, held8, whole8, stray8, restarted8, restarted_whole8, too_long8, full8}

abbrev pub fed8_view : Fed8 → Answer8
fed8_view fed8.Held = held8
fed8_view (fed8.Whole bytes) = whole8 bytes.now
fed8_view fed8.Stray = stray8
fed8_view (fed8.Restarted at) = restarted8 at
fed8_view (fed8.RestartedWhole at bytes) = restarted_whole8 at bytes.now
fed8_view fed8.TooLong = too_long8
fed8_view fed8.Full = full8
