-- The line of a packet, in a buffer of the caller's.
use Rattle.std.specs.Prelude.{◌≡◌, nat_lt, ℕ, Bool, true, false, List, length, Option, Some, None}
use Rattle.ump_grammar.specs.Reason.{reason}
use Rattle.ump_grammar.specs.Spelling.{Spells}
use Rattle.ump_grammar.specs.declared.packet.Bad.{Bad}
use Rattle.ump_grammar.specs.declared.packet.Packet.{Packet}
use Rattle.text_lines.specs.PacketLines.{packet_text}
use Rattle.c_answers.specs.Fronts.{with_front}
use Rattle.c_answers.specs.Numbers.{number_of}
use Rattle.c_answers.specs.Refusals.{status_of_bad}
use Rattle.c_answers.specs.Whole.{is_whole}
use Rattle.c_answers.specs.declared.status.Status.{Status}
use Rattle.c_answers.specs.declared.status.Status.TheVariants as statuses

-- nothing is written
abbrev pub IsUntold : Status → List ℕ → ℕ → List ℕ → ℕ → Type 0
IsUntold why old status new count = (status ≡ number_of why) × (new ≡ old) × (count ≡ 0)

-- the line of the packet that the words spell is at the front of the buffer
pub record HasText (words : List ℕ) (offset : ℕ) (old : List ℕ) (status : ℕ) (new : List ℕ) (count : ℕ) : Type 0 where
  pub packet : Packet
  pub spelled : Spells packet words
  pub answer : status ≡ number_of statuses.Done
  pub front : new ≡ with_front (packet_text packet words offset) old
  pub size : count ≡ length (packet_text packet words offset)

abbrev pub tells : Option Bad → List ℕ → ℕ → List ℕ → ℕ → List ℕ → ℕ → Type 0
tells (Some why) words offset old status new count = IsUntold (status_of_bad why) old status new count
tells None words offset old status new count = HasText words offset old status new count

abbrev pub tells_whole : Bool → List ℕ → ℕ → List ℕ → ℕ → List ℕ → ℕ → Type 0
tells_whole false words offset old status new count = IsUntold statuses.BadWordCount old status new count
tells_whole true words offset old status new count = tells (reason words) words offset old status new count

abbrev pub tells_fitting : Bool → List ℕ → ℕ → List ℕ → ℕ → List ℕ → ℕ → Type 0
tells_fitting true words offset old status new count = IsUntold statuses.SmallBuffer old status new count
tells_fitting false words offset old status new count = tells_whole (is_whole words) words offset old status new count

abbrev pub IsTold : List ℕ → ℕ → List ℕ → ℕ → List ℕ → ℕ → Type 0
IsTold words offset old status new count = tells_fitting (nat_lt (length old) 256) words offset old status new count
