-- What a packet does, as the join answers it to its own calls.
use Rattle.std.specs.Prelude.{◌≡◌, ℕ, List, Some, None, Result, Ok, Err}
use Rattle.sysex8_streams.specs.Table.{Table8}
use Rattle.c_answers.specs.Fronts.{with_front}
use Rattle.c_answers.specs.declared.status.Status.TheVariants as statuses
use Rattle.c_streams.specs.Sysex8.{IsReply, Reply}
use Rattle.c_streams.specs.declared.sysex8.JoinedPart.{JoinedPart}
use Rattle.c_streams.specs.declared.sysex8.TooLong.{TooLong}

-- a packet is refused exactly with an error
abbrev pub ShowsReply : Reply → Result JoinedPart TooLong → Type 0
ShowsReply reply (Ok joined) = (reply.refusal ≡ None) × (joined ≡ reply.joined)
ShowsReply reply (Err refused) = (reply.refusal ≡ Some statuses.ExclusiveTooLong) × (refused.joined ≡ reply.joined)

-- this reply is shown and written
pub record Shows (reply : Reply) (old : List ℕ) (result : Result JoinedPart TooLong) (new : List ℕ) (after : Table8) : Type 0 where
  pub shown : ShowsReply reply result
  pub front : new ≡ with_front reply.ended old
  pub after_is : after ≡ reply.after

abbrev pub TakesPacket : Table8 → List ℕ → ℕ → List ℕ → Result JoinedPart TooLong → List ℕ → Table8 → Type 0
TakesPacket table words offset old result new after = (reply : Reply) × IsReply table words offset reply × Shows reply old result new after
