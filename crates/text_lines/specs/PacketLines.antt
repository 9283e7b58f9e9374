-- The line of a packet: its offset, its words, its kind and its fields.
use Rattle.std.specs.Prelude.{ℕ, List, ◌++◌, codes, decimal, Some}
use Rattle.text_lines.specs.Fields.{field, word_field, hex_field, hex_bytes, hex_words}
use Rattle.text_lines.specs.Voice1Lines.{voice1_fields, system_fields}
use Rattle.text_lines.specs.Voice2Lines.{voice2_fields}
use Rattle.voice_messages.specs.declared.voice2.Form.{Form}
use Rattle.voice_messages.specs.declared.voice2.Form.TheVariants.{Complete, Start, Continue, End}
use Rattle.ump_grammar.specs.declared.packet.Packet.{Packet}
use Rattle.ump_grammar.specs.declared.packet.Packet.TheVariants as packet

abbrev pub utility : ℕ → ℕ → List ℕ
utility status value = codes "utility" ++ field (codes "status") status ++ field (codes "value") value

abbrev pub form_word : Form → List ℕ
form_word Complete = codes "complete"
form_word Start = codes "start"
form_word Continue = codes "continue"
form_word End = codes "end"

abbrev pub exclusive : ℕ → Form → List ℕ → List ℕ
exclusive group form bytes =
    codes "exclusive" ++ field (codes "group") group ++ word_field (codes "form") (form_word form)
    ++ codes " bytes=" ++ hex_bytes bytes

abbrev pub data8 : ℕ → List ℕ
data8 group = codes "data8" ++ field (codes "group") group

abbrev pub flex : ℕ → List ℕ
flex group = codes "flex" ++ field (codes "group") group

-- the status in three hexadecimal digits
abbrev pub stream : ℕ → ℕ → List ℕ
stream format status = codes "stream" ++ field (codes "format") format ++ hex_field (codes "status") 3 status

-- the kind of a packet and its fields
abbrev pub packet_fields : Packet → List ℕ
packet_fields (packet.Utility status value) = utility status value
packet_fields (packet.System group message) = system_fields (Some group) message
packet_fields (packet.Voice1 group message) = voice1_fields (Some group) message
packet_fields (packet.Exclusive group form bytes) = exclusive group form bytes
packet_fields (packet.Voice2 group message) = voice2_fields (Some group) message
packet_fields (packet.Data8 group words) = data8 group
packet_fields (packet.Flex group words) = flex group
packet_fields (packet.Stream format status low second third fourth) = stream format status
packet_fields (packet.Reserved words) = codes "reserved"

-- the whole line
abbrev pub packet_text : Packet → List ℕ → ℕ → List ℕ
packet_text packet words offset =
    decimal offset ++ hex_words words ++ codes " " ++ packet_fields packet ++ codes "\n"
