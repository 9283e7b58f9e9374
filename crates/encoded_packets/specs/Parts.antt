-- 7-bit exclusives in which no byte is high, counted or not (M2-104-UM, system exclusive 7-bit messages).
use Rattle.std.specs.Prelude.{◌==◌, ◌&&◌, nat_le, nat_lt, ℕ, Bool, false, List, length, slice_index}
use Rattle.voice_messages.specs.declared.voice2.Form.{Form}
use Rattle.voice_messages.specs.declared.voice2.Form.TheVariants as form
use Rattle.ump_grammar.specs.WordFields.{byte, field}
use Rattle.ump_grammar.specs.declared.packet.Packet.{Packet}
use Rattle.ump_grammar.specs.declared.packet.Packet.TheVariants as packet

-- the first word of one that counts at most six bytes
abbrev pub begins_part : ℕ → Bool
begins_part first = field first 28 4 == 3 && nat_le (field first 20 4) 3 && nat_le (field first 16 4) 6

-- no byte in its six places is high
abbrev pub has_low_bytes : List ℕ → Bool
has_low_bytes words =
    nat_lt (byte words 3) 128 && nat_lt (byte words 4) 128 && nat_lt (byte words 5) 128 && nat_lt (byte words 6) 128
    && nat_lt (byte words 7) 128
    && nat_lt (byte words 8) 128

abbrev pub is_low_part : List ℕ → Bool
is_low_part words = begins_part (slice_index words 0) && has_low_bytes words

-- the packet is an exclusive of which all six places count
abbrev pub is_full_part : Packet → Bool
is_full_part (packet.Exclusive group form bytes) = length bytes == 6
is_full_part _ = false

-- a part continues an exclusive by six bytes
abbrev pub is_six_more : Form → List ℕ → Bool
is_six_more form.Continue bytes = length bytes == 6
is_six_more _ bytes = false

-- the packet is such a part
abbrev pub continues_by_six : Packet → Bool
continues_by_six (packet.Exclusive group form bytes) = is_six_more form bytes
continues_by_six _ = false
