-- What a self test holds after some packets.
use Rattle.std.specs.Prelude.{◌≡◌, ℕ, ◌+◌, ◌*◌, ◌≤◌, List, length, Some, None, false}
use Rattle.midi1_bytes.specs.Stream.{open_in}
use Rattle.midi_meaning.specs.Back.{back}
use Rattle.midi_meaning.specs.Parts.{Placed}
use Rattle.up_translator.specs.Held.{UpState}
use Rattle.up_translator.specs.Recording.{HoldsUp}
use Rattle.midi_meaning.specs.Styles.{plain_style}
use Rattle.down_translator.specs.Held.{DownState, new_down}
use Rattle.down_translator.specs.Recording.{packets_of}
use Rattle.self_test.specs.declared.course.Course.{Course}
use Rattle.self_test.specs.Counts.{bytes_over, counts_of}
use Rattle.self_test.specs.Played.{ArePlayed}

-- the translator up and the one that takes its packets down have taken these bytes, the newest first
pub record HasReturned (past : List ℕ) (up : UpState) (down : DownState) : Type 0 where
  pub played : ArePlayed past
  pub up_holds : HoldsUp false 6 0 past up
  pub down_is : down ≡ new_down false plain_style 6

-- they took more bytes, and so many bytes came back of these
pub record ComesBack (past now : List ℕ) (again : ℕ) (up : UpState) (down : DownState) : Type 0 where
  pub returned : HasReturned now up down
  pub count : again + length (back false (Some 6) 0 past) ≡ length (back false (Some 6) 0 now)

-- All three have taken these packets, the newest first, and nothing is open in any. A piece has at most
-- twelve bytes.
pub record HasTaken (past : List Placed) (course : Course) : Type 0 where
  pub down_is : course.down ≡ new_down false plain_style 6
  pub returned : HasReturned (bytes_over (packets_of past)) course.up course.again
  pub closed : open_in (Some 6) (bytes_over (packets_of past)) ≡ None
  pub counts_are : course.counts ≡ counts_of past
  pub few_carried : course.counts.carried ≤ length past
  pub few_listed : course.counts.listed ≤ length past
  pub few_bytes : course.counts.bytes ≤ 12 * length past
  pub few_again : course.counts.again ≤ 12 * course.counts.bytes
