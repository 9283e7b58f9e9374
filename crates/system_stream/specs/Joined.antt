-- The answer that is lent, as the definition's.
use Rattle.system_stream.specs.declared.joined.Joined.{Joined}
use Rattle.system_stream.specs.declared.joined.Joined.TheVariants as joined
use Rattle.system_stream.specs.Parts.{Answer, held, whole, bad}

abbrev pub joined_view : Joined → Answer
joined_view joined.Held = held
joined_view (joined.Whole bytes) = whole bytes.now
joined_view joined.Bad = bad
