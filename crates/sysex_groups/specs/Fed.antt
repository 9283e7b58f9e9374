-- The answer that is lent, as the definition's.
use Rattle.sysex_groups.specs.declared.fed.Fed.{Fed}
use Rattle.sysex_groups.specs.declared.fed.Fed.TheVariants as fed
use Rattle.sysex_groups.specs.Exclusives.{Answer, held, whole, stray, restarted, restarted_whole, too_long}

abbrev pub fed_view : Fed → Answer
fed_view fed.Held = held
fed_view (fed.Whole bytes) = whole bytes.now
fed_view fed.Stray = stray
fed_view (fed.Restarted at) = restarted at
fed_view (fed.RestartedWhole at bytes) = restarted_whole at bytes.now
fed_view fed.TooLong = too_long
