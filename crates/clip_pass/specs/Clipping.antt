-- A clip file whose events are shown at their ticks.
use Rattle.std.specs.Prelude.{◌≡◌, ℕ, ◌+◌, ◌*◌, Bool, true, false, List, [], ◌∷◌, ◌++◌, length, None, Some, Result, Ok, Err}
use Rattle.ump_words.specs.declared.words.Framed.{Framed}
use Rattle.ump_grammar.specs.declared.packet.Packet.{Packet}
use Rattle.midi_clip.specs.Header.{header_bytes}
use Rattle.midi_clip.specs.History.{is_ended, step_at}
use Rattle.midi_clip.specs.declared.step.ClipFault.{ClipFault}
use Rattle.midi_clip.specs.declared.step.ClipFault.TheVariants as fault
use Rattle.midi_clip.specs.declared.step.ClipStep.{ClipStep}
use Rattle.midi_clip.specs.declared.step.ClipStep.TheVariants.{Before, Began, Event, Delta, Ended}
use Rattle.text_lines.specs.PacketLines.{packet_text}
use Rattle.pass_loop.specs.Pass.{Tail, Work}
use Rattle.pass_loop.specs.Put.{Put, in_output, output_in}
use Rattle.pass_loop.specs.declared.ends.Reason.{Reason}
use Rattle.pass_loop.specs.declared.ends.Reason.TheVariants.{NoResolution, AfterEnd, NoEnd}
use Rattle.clip_pass.specs.Cutting.{packets_of}
use Rattle.clip_pass.specs.Lines.{end_text, resolution_text, ticks_text}

abbrev pub reason_of : ClipFault → Reason
reason_of fault.NoResolution = NoResolution
reason_of fault.AfterEnd = AfterEnd
reason_of fault.NoEnd = NoEnd

-- why a packet at an offset is refused, by what it is to the clip
abbrev pub refusal_by : Result ClipStep ClipFault → ℕ → Tail
refusal_by (Ok step) offset = None
refusal_by (Err fault) offset = Some (reason_of fault, offset)

-- the line of an event: the ticks at which it stands, and the line of its packet
abbrev pub event_text : ℕ → Framed × Packet → List ℕ
event_text ticks item = ticks_text ticks ++ packet_text item.1 item.0.words item.0.offset

-- what is put for a packet: the ticks for a quarter note, an event's ticks and the line of its packet, or the ticks at the end
abbrev pub step_puts : ClipStep → Framed × Packet → List Put
step_puts Before item = []
step_puts (Began resolution) item = in_output (resolution_text resolution) ∷ []
step_puts (Event ticks) item = in_output (event_text ticks item) ∷ []
step_puts Delta item = []
step_puts (Ended ticks) item = in_output (end_text ticks) ∷ []

abbrev pub puts_by : Result ClipStep ClipFault → Framed × Packet → List Put
puts_by (Ok step) item = step_puts step item
puts_by (Err fault) item = []

-- what is put for a packet after these, newest first
abbrev pub puts_at : List (Framed × Packet) → Framed × Packet → List Put
puts_at past item = puts_by (step_at (packets_of past) item.1) item

-- the lines of a clip, of which these packets came, newest first
abbrev pub clip_text : List (Framed × Packet) → List ℕ
clip_text [] = []
clip_text (item ∷ past) = clip_text past ++ output_in (puts_at past item)

-- the number of bytes of the header and of the words of these packets
abbrev pub size_over : List (Framed × Packet) → ℕ
size_over [] = length header_bytes
size_over (item ∷ past) = size_over past + 4 * length item.0.words

-- if the clip has not ended, the input is refused at its end
abbrev pub end_refusal : Bool → ℕ → Tail
end_refusal true size = None
end_refusal false size = Some (NoEnd, size)

-- What is done with a clip file. A packet is refused if it starts a clip without the ticks for a quarter note, or comes after the
-- end, and the input if it ends before the clip. What is put are the lines of the clip.
abbrev pub clipping : Work (Framed × Packet)
clipping =
    record {
      names = record { lanes = false; output = true; notes = false };
      grows = false;
      refusal = λ past item. refusal_by (step_at (packets_of past) item.1) item.0.offset;
      IsPut = λ past item puts. puts ≡ puts_at past item;
      refusal_at_end = λ past. end_refusal (is_ended (packets_of past)) (size_over past);
      IsPutAtEnd = λ past puts. puts ≡ [];
      Means = λ past puts. output_in puts ≡ clip_text past;
    }
