-- The part in a packet, and the offsets at which exclusives began.
use Rattle.std.proofs.Common.{ℕ, ◌≡◌, ◌-◌, ◌∙◌, ap, sym, refl, List, [], ◌∷◌, ◌++◌, take, map}
use Rattle.std.proofs.Common.{Option, None, Some, Bool, true, false, cond, arith, length-take}
use Rattle.std.specs.Option.{option_map, option_to_list}
use Rattle.std.proofs.lemmas.Bool.{cond-true, cond-false}
use Rattle.voice_messages.specs.declared.voice2.Form.{Form}
use Rattle.voice_messages.specs.declared.voice2.Form.TheVariants as form
use Rattle.ump_grammar.specs.WordFields.{byte, count_of, group_of, opcode_of}
use Rattle.ump_grammar.specs.Spelling.{form_number}
use Rattle.ump_grammar.specs.declared.packet.Packet.{Packet}
use Rattle.ump_grammar.specs.declared.packet.Packet.TheVariants as packet
use Rattle.sysex_groups.specs.Exclusives.{Part, opened, start_of, started}
use Rattle.sysex_groups.specs.Table.{begun_over, begun_of}
use Rattle.sysex8_streams.specs.declared.part8.Part8.{Part8}
use Rattle.sysex8_streams.specs.History.{part_of}
use Rattle.sysex8_streams.specs.Reading.{Reads8, data_places, is_left_out}
use Rattle.sysex8_streams.specs.Table.{AreParts8, table8_over}
use Rattle.sysex8_pass.specs.Held.{data8_after, packet_after}
use Rattle.sysex8_pass.specs.Parts.{form_in, part_in, parts_of}

form-is : (f : Form) → form_in (form_number f) ≡ f
form-is form.Complete = refl
form-is form.Start = refl
form-is form.Continue = refl
form-is form.End = refl

abbrev made8 : ℕ → Form → ℕ → List ℕ → Part8
made8 group f stream bytes = record { group = group; form = f; stream = stream; bytes = bytes }

-- what is read is the part
pub part-read : (words : List ℕ) (result : Option Part8) → Reads8 words result → result ≡ part_in words
part-read words None left = sym (cond-true (is_left_out words) None _ left)
part-read words (Some part) (kept, spells) =
    ap Some
    (ap (λ g. made8 g part.form part.stream part.bytes) spells.group
    ∙ ap (λ f. made8 (group_of words) f part.stream part.bytes) (sym (form-is part.form) ∙ ap form_in spells.form)
    ∙ ap (λ s. made8 (group_of words) (form_in (opcode_of words)) s part.bytes) spells.stream
    ∙ ap (made8 (group_of words) (form_in (opcode_of words)) (byte words 3)) spells.bytes)
    ∙ sym (cond-false (is_left_out words) None _ kept)

-- it has at most thirteen bytes
pub parts-few : (offset : ℕ) (p : Packet) → AreParts8 (parts_of offset p)
parts-few offset (packet.Data8 group words) = go (is_left_out words)
  where
    go : (left : Bool) →
        AreParts8 (map (λ part. part_of part offset)
        (option_to_list (cond left None
        (Some (made8 (group_of words) (form_in (opcode_of words)) (byte words 3) (take (count_of words - 1) (data_places words)))))))
    go true = tt
    go false = (omega (arith, length-take (count_of words - 1) (data_places words)), tt)
parts-few offset (packet.Utility status value) = tt
parts-few offset (packet.System group message) = tt
parts-few offset (packet.Voice1 group message) = tt
parts-few offset (packet.Exclusive group form bytes) = tt
parts-few offset (packet.Voice2 group message) = tt
parts-few offset (packet.Flex group words) = tt
parts-few offset (packet.Stream format status low second third fourth) = tt
parts-few offset (packet.Reserved words) = tt

pub parts-then : (first more : List Part) → AreParts8 first → AreParts8 more → AreParts8 (first ++ more)
parts-then [] more few rest = rest
parts-then (part ∷ first) more few rest = (few.0, parts-then first more few.1 rest)

-- the streams after a packet
pub after-packet : (slots room offset : ℕ) (p : Packet) (past : List Part)
    → packet_after offset p (table8_over slots room past) ≡ table8_over slots room (parts_of offset p ++ past)
after-packet slots room offset (packet.Data8 group words) past = go (part_in words)
  where
    go : (part : Option Part8) →
        data8_after offset part (table8_over slots room past)
        ≡ table8_over slots room (map (λ q. part_of q offset) (option_to_list part) ++ past)
    go None = refl
    go (Some part) = refl
after-packet slots room offset (packet.Utility status value) past = refl
after-packet slots room offset (packet.System group message) past = refl
after-packet slots room offset (packet.Voice1 group message) past = refl
after-packet slots room offset (packet.Exclusive group form bytes) past = refl
after-packet slots room offset (packet.Voice2 group message) past = refl
after-packet slots room offset (packet.Flex group words) past = refl
after-packet slots room offset (packet.Stream format status low second third fourth) past = refl
after-packet slots room offset (packet.Reserved words) past = refl

-- the offset at which an exclusive that is begun began
pub begun-started : (room key : ℕ) (past : List Part)
    → option_map (λ begun. begun.start) (begun_over (Some room) key past) ≡ started (Some room) key past
begun-started room key past = go (opened (Some room) key past)
  where
    go : (o : Option (List Part)) → option_map (λ begun. begun.start) (option_map begun_of o) ≡ option_map start_of o
    go None = refl
    go (Some parts) = refl
