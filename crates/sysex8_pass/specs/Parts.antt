-- The parts of 8-bit exclusives in the packets of a recording.
use Rattle.std.specs.Prelude.{ℕ, ◌-◌, ◌==◌, if◌then◌else◌, List, [], map, take, Option, None, Some}
use Rattle.std.specs.List.{flat_map}
use Rattle.std.specs.Option.{option_map, option_to_list}
use Rattle.voice_messages.specs.declared.voice2.Form.{Form}
use Rattle.voice_messages.specs.declared.voice2.Form.TheVariants as form
use Rattle.packet_words.specs.declared.words.Framed.{Framed}
use Rattle.ump_grammar.specs.declared.packet.Packet.{Packet}
use Rattle.ump_grammar.specs.declared.packet.Packet.TheVariants as packet
use Rattle.ump_grammar.specs.WordFields.{byte, group_of, opcode_of, count_of}
use Rattle.sysex_groups.specs.Exclusives.{Part, start_of}
use Rattle.sysex8_streams.specs.declared.part8.Part8.{Part8}
use Rattle.sysex8_streams.specs.History.{part_of, opened8}
use Rattle.sysex8_streams.specs.Reading.{data_places, is_left_out}

-- the form of a number up to 3
abbrev pub form_in : ℕ → Form
form_in number =
    if number == 0 then form.Complete
    else (if number == 1 then form.Start else (if number == 2 then form.Continue else form.End))

-- what the words of a type 5 packet spell
abbrev pub spelled8 : List ℕ → Part8
spelled8 words =
    record {
      group = group_of words;
      form = form_in (opcode_of words);
      stream = byte words 3;
      bytes = take (count_of words - 1) (data_places words);
    }

-- the part in such words, unless they are left out
abbrev pub part_in : List ℕ → Option Part8
part_in words = if is_left_out words then None else Some (spelled8 words)

-- the parts in a packet at an offset: one or none
abbrev pub parts_of : ℕ → Packet → List Part
parts_of offset (packet.Data8 group words) = map (λ part. part_of part offset) (option_to_list (part_in words))
parts_of offset _ = []

-- the parts in these packets, the newest first
abbrev pub parts_at : List (Framed × Packet) → List Part
parts_at items = flat_map (λ item. parts_of item.0.offset item.1) items

-- the offset at which the exclusive began that a stream has open after these parts
abbrev pub open_since : ℕ → ℕ → List Part → ℕ → Option ℕ
open_since slots room past key = option_map start_of (opened8 slots room past key)
