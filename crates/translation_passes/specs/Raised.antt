-- The packets to which a byte is raised, and the work on them, one after the other.
use Rattle.std.specs.Prelude.{◌≡◌, ℕ, Bool, List, [], ◌∷◌, ◌++◌, map, MatchOption, Some, Result, Ok, Err}
use Rattle.std.specs.Option.{option_map}
use Rattle.voice_messages.specs.declared.voice2.Form.{Form}
use Rattle.ump_grammar.specs.declared.packet.Packet.{Packet}
use Rattle.ump_grammar.specs.declared.packet.Packet.TheVariants.{Exclusive}
use Rattle.midi1_bytes.specs.Fronts.{data_taken}
use Rattle.midi1_bytes.specs.Parsing.{open_of}
use Rattle.midi_meaning.specs.Raising.{packets_at}
use Rattle.midi_meaning.specs.StepListing.{kinds_at_end, line_up, lines_at, open_pair}
use Rattle.midi_meaning.specs.UpRefusal.{refusal_of_step, refusal_up}
use Rattle.up_translator.specs.declared.raised.Raised.{Raised}
use Rattle.up_translator.specs.ByteLines.{lines_in}
use Rattle.up_translator.specs.Fronts.{HasNoDirectFront}
use Rattle.up_translator.specs.Held.{UpState, step_in}
use Rattle.up_translator.specs.Raised.{packets_in}
use Rattle.up_translator.specs.Step.{Raises}
use Rattle.pass_loop.specs.Bytes.{bytes_read}
use Rattle.pass_loop.specs.Pass.{Tail}
use Rattle.pass_loop.specs.Places.{FailsAt, Places, over_puts}
use Rattle.pass_loop.specs.Put.{Put, in_lane, in_notes, in_output}
use Rattle.pass_loop.specs.declared.ends.RunEnd.{RunEnd}
use Rattle.pass_loop.specs.declared.ends.RunEnd.TheVariants.{Refused}
use Rattle.listing_lines.specs.Lines.{line_puts}
use Rattle.listing_lines.specs.Refusal.{refusal_by}

-- the puts in the output among these
abbrev pub output_puts : List Put → List Put
output_puts [] = []
output_puts (in_output text ∷ puts) = in_output text ∷ output_puts puts
output_puts (in_lane lane piece ∷ puts) = output_puts puts
output_puts (in_notes text ∷ puts) = output_puts puts

-- ---- by the bytes before, the newest first

-- A byte is refused for a data increment, a data decrement, or an exclusive that has more bytes than it may.
abbrev pub refusal_at : ℕ → List (ℕ × ℕ) → ℕ × ℕ → Tail
refusal_at room past item = refusal_by (refusal_up (Some room) (bytes_read past) item.1) item.0

module _ (paired : Bool) where
  -- the packets of a byte, and the puts of its lines
  abbrev pub byte_packets : ℕ → ℕ → List (ℕ × ℕ) → ℕ × ℕ → List Packet
  byte_packets room group past item = packets_at paired (Some room) group (bytes_read past) item.1

  abbrev pub byte_lines : ℕ → ℕ → List (ℕ × ℕ) → ℕ × ℕ → List Put
  byte_lines room group past item = line_puts (lines_at paired (Some room) group (bytes_read past) item.1)

-- the put of the line of what is open at the end
abbrev pub last_lines : ℕ → ℕ → List (ℕ × ℕ) → List Put
last_lines room group past =
    line_puts (map (line_up group) (kinds_at_end (open_pair (Some room) (bytes_read past))))

-- ---- one packet after the other

-- What is done with a packet is a relation of the state before it, the packet, the state after it, and what is put for it.
abbrev pub Doing : Type 0 → Type 1
Doing Held = Held → Packet → Held → List Put → Type 0

-- each of these packets is done
abbrev pub AreDone : {Held : Type 0} → Doing Held → Held → List Packet → Held → List Put → Type 0
AreDone IsDone from [] to puts = (to ≡ from) × (puts ≡ [])
AreDone {Held = Held} IsDone from (packet ∷ packets) to puts =
    (between : Held) × (first : List Put) × (rest : List Put) × IsDone from packet between first
    × AreDone IsDone between packets to rest × (puts ≡ first ++ rest)

-- each of these packets is accepted in the state after those before it
abbrev pub AreTaken : {Held : Type 0} → (Held → Packet → Type 0) → Doing Held → Held → List Packet → Type 0
AreTaken Accepts IsDone from [] = Unit {0}
AreTaken {Held = Held} Accepts IsDone from (packet ∷ packets) =
    Accepts from packet
    × ((between : Held) (puts : List Put) → IsDone from packet between puts →
    AreTaken Accepts IsDone between packets)

-- there is something to be done with each packet of an exclusive that is accepted
abbrev pub CanBeDone : {Held : Type 0} → (Held → Packet → Type 0) → Doing Held → Type 0
CanBeDone {Held = Held} Accepts IsDone =
    (from : Held) (group : ℕ) (form : Form) (bytes : List ℕ) → Accepts from (Exclusive group form bytes)
    → (to : Held) × (puts : List Put) × IsDone from (Exclusive group form bytes) to puts

-- the packets of a byte are done, and then its lines are put in the notes
abbrev pub ByteIsDone : {Held : Type 0} → Doing Held → Held → Raised → Held → List Put → Type 0
ByteIsDone IsDone from raised to puts =
    (written : List Put) × AreDone IsDone from (packets_in raised) to written
    × (puts ≡ written ++ line_puts (lines_in raised.lines))

-- what is to be done, which ends with a state and with what is put, is done, or one of these puts failed
abbrev pub CarriesOut : {Held : Type 0} → (Held → List Put → Type 0) → Held → Places → Places →
    Result (Unit {0}) RunEnd → Type 0
CarriesOut Does to old new (Ok done) = (puts : List Put) × Does to puts × (new ≡ over_puts puts old)
CarriesOut {Held = Held} Does to old new (Err end) =
    (meant : Held) × (puts : List Put) × Does meant puts × FailsAt puts end old new

-- What a byte or a packet asks for: why it is refused, or else what is done, which ends with a state and with what is put.
pub record Task (Held : Type 0) : Type 1 where
  pub refusal : Tail
  pub Does : Held → List Put → Type 0

-- it is refused, and nothing is put; or it is done, or a put failed
abbrev pub Answers : {Held : Type 0} → Task Held → Held → Places → Places → Result (Unit {0}) RunEnd → Type 0
Answers task to old new result =
    MatchOption task.refusal (CarriesOut task.Does to old new result)
    (λ refusal. (result ≡ Err (Refused refusal.0 refusal.1)) × (new ≡ old))

-- ---- by what the translator up holds

-- why a byte is refused, by what the translator up holds
abbrev pub byte_refusal : UpState → ℕ → ℕ → Tail
byte_refusal up offset byte = refusal_by (refusal_of_step (step_in up offset byte)) offset

-- None of these bytes are taken up at once: they begin neither with a voice message that is raised to a direct one, nor with data of an
-- exclusive that is open.
abbrev pub TakesNothing : UpState → List ℕ → Type 0
TakesNothing up bytes = HasNoDirectFront up bytes × (data_taken up.parsing bytes ≡ 0)

-- a byte after its offset: the translator up refuses it, or else its packets are done, and its lines put
abbrev pub byte_task : {Held : Type 0} → Doing Held → UpState → ℕ × ℕ → Held → Task Held
byte_task IsDone up item from =
    record {
      refusal = byte_refusal up item.0 item.1;
      Does = λ to puts. (raised : Raised) × Raises up item.0 item.1 (Ok raised) × ByteIsDone IsDone from raised to puts;
    }

-- the line of what is open at the end, by what the translator up holds
abbrev pub open_puts : UpState → List Put
open_puts up =
    line_puts (map (line_up up.group)
    (kinds_at_end (option_map (λ begun. (begun.start, begun.kind)) (open_of up.parsing))))
