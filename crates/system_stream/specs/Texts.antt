-- The texts of stream messages (M2-104-UM, UMP stream messages: endpoint name, product instance id, function
-- block name).
use Rattle.std.specs.Prelude.{ℕ, ◌==◌, nat_le, Bool, ◌&&◌, if◌then◌else◌, List, [], ◌∷◌, reverse}
use Rattle.std.specs.List.{list_all}
use Rattle.std.specs.Str.{is_utf8}
use Rattle.voice_messages.specs.declared.voice2.Form.{Form}
use Rattle.system_stream.specs.declared.message.StreamMessage.{StreamMessage}
use Rattle.system_stream.specs.declared.message.StreamMessage.TheVariants as stream
use Rattle.system_stream.specs.declared.texts.TextKind.{TextKind}
use Rattle.system_stream.specs.declared.texts.TextKind.TheVariants as kind

-- the most bytes that a text may have, including the zeros that fill its last packet
abbrev pub limit_of : TextKind → ℕ
limit_of kind.EndpointName = 98
limit_of kind.ProductId = 42
limit_of kind.BlockName = 91

-- how many bytes of it each packet carries
abbrev pub part_size : TextKind → ℕ
part_size kind.EndpointName = 14
part_size kind.ProductId = 14
part_size kind.BlockName = 13

-- the message of a packet of a text
abbrev pub part_message : TextKind → Form → ℕ → List ℕ → StreamMessage
part_message kind.EndpointName form block text = stream.Name form text
part_message kind.ProductId form block text = stream.ProductId form text
part_message kind.BlockName form block text = stream.BlockName form block text

-- the bytes from the first one on that isn't zero
abbrev pub without_leading_zeros : List ℕ → List ℕ
without_leading_zeros [] = []
without_leading_zeros (byte ∷ bytes) = if byte == 0 then without_leading_zeros bytes else byte ∷ bytes

-- the bytes up to the last one that isn't zero
abbrev pub without_trailing_zeros : List ℕ → List ℕ
without_trailing_zeros bytes = reverse (without_leading_zeros (reverse bytes))

-- a printable character of ASCII
abbrev pub is_printable : ℕ → Bool
is_printable byte = nat_le 32 byte && nat_le byte 126

-- whether these bytes are a text of the kind
abbrev pub is_text : TextKind → List ℕ → Bool
is_text kind.EndpointName bytes = is_utf8 bytes
is_text kind.ProductId bytes = list_all is_printable bytes
is_text kind.BlockName bytes = is_utf8 bytes
