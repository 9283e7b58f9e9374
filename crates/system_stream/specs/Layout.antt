-- How stream messages are laid out in their packets (M2-104-UM, UMP stream messages): a row for each status.
-- Bytes are counted from 1 and bits from 0. Bytes 3 and 4 are the low half of word 1, and the fields are read
-- from it and from words 2 to 4.
use Rattle.std.specs.Prelude.{ℕ, ◌≡◌, ◌+◌, ◌*◌, ◌^◌, ◌<◌, ◌==◌, Bool, true, false, ◌||◌, ◌&&◌, not}
use Rattle.std.specs.Prelude.{if◌then◌else◌, List, [], ◌∷◌, ◌++◌, length, slice_index, Result, MatchResult}
use Rattle.std.specs.List.{All}
use Rattle.voice_messages.specs.declared.voice2.Form.{Form}
use Rattle.voice_messages.specs.declared.voice2.Form.TheVariants as form
use Rattle.ump_grammar.specs.declared.packet.Packet.{Packet}
use Rattle.ump_grammar.specs.declared.packet.Packet.TheVariants as packet
use Rattle.ump_grammar.specs.WordFields.{field}
use Rattle.ump_grammar.specs.Spelling.{form_number}
use Rattle.system_stream.specs.declared.message.StreamMessage.{StreamMessage}
use Rattle.system_stream.specs.declared.message.StreamMessage.TheVariants as stream
use Rattle.system_stream.specs.declared.message.BadFormat.{BadFormat}

abbrev pub IsStream : Packet → Type 0
IsStream (packet.Stream format status low second third fourth) = Unit {0}
IsStream _ = ⊥

-- the messages of one packet have format 0; a text's packets have any
abbrev pub has_one_packet : ℕ → Bool
has_one_packet status =
    status == 0x000 || status == 0x001 || status == 0x002 || status == 0x005 || status == 0x006
    || status == 0x010 || status == 0x011 || status == 0x020 || status == 0x021

abbrev pub has_bad_format : Packet → Bool
has_bad_format (packet.Stream format status low second third fourth) = has_one_packet status && not (format == 0)
has_bad_format _ = false

-- a field of one bit
abbrev pub flag : ℕ → ℕ → Bool
flag word bit = field word bit 1 == 1

-- the four bytes of a word
abbrev pub word_bytes : ℕ → List ℕ
word_bytes word = field word 24 8 ∷ field word 16 8 ∷ field word 8 8 ∷ field word 0 8 ∷ []

-- the form of a format
abbrev pub form_of : ℕ → Form
form_of format =
    if format == 0 then form.Complete
    else if format == 1 then form.Start
    else if format == 2 then form.Continue
    else form.End

-- the message of a packet with these fields
abbrev pub stream_message : ℕ → ℕ → ℕ → ℕ → ℕ → ℕ → StreamMessage
stream_message format status low second third fourth =
    if status == 0x000 then stream.Discovery (field low 8 8) (field low 0 8) (field second 0 8)
    else if status == 0x001 then
    stream.Info (field low 8 8) (field low 0 8) (flag second 31) (field second 24 7) (flag second 9) (flag second 8) (flag second 1)
    (flag second 0)
    else if status == 0x002 then
    stream.Identity (field second 16 8 ∷ field second 8 8 ∷ field second 0 8 ∷ []) (field third 24 8 ∷ field third 16 8 ∷ [])
    (field third 8 8 ∷ field third 0 8 ∷ []) (word_bytes fourth)
    else if status == 0x003 then
    stream.Name (form_of format) (field low 8 8 ∷ field low 0 8 ∷ word_bytes second ++ word_bytes third ++ word_bytes fourth)
    else if status == 0x004 then
    stream.ProductId (form_of format) (field low 8 8 ∷ field low 0 8 ∷ word_bytes second ++ word_bytes third ++ word_bytes fourth)
    else if status == 0x005 then stream.ConfigRequest (field low 8 8) (field low 0 8)
    else if status == 0x006 then stream.ConfigNotice (field low 8 8) (field low 0 8)
    else if status == 0x010 then stream.BlockDiscovery (field low 8 8) (field low 0 8)
    else if status == 0x011 then
    stream.BlockInfo (flag low 15) (field low 8 7) (field low 4 2) (field low 2 2) (field low 0 2) (field second 24 8) (field second 16 8)
    (field second 8 8) (field second 0 8)
    else if status == 0x012 then
    stream.BlockName (form_of format) (field low 8 8) (field low 0 8 ∷ word_bytes second ++ word_bytes third ++ word_bytes fourth)
    else if status == 0x020 then stream.StartClip
    else if status == 0x021 then stream.EndClip
    else stream.Other

abbrev pub message_in : Packet → StreamMessage
message_in (packet.Stream format status low second third fourth) = stream_message format status low second third fourth
message_in _ = stream.Other

-- what reading a stream packet answers
abbrev pub Reads : Packet → Result StreamMessage BadFormat → Type 0
Reads packet result =
    MatchResult result (λ message. (has_bad_format packet ≡ false) × (message ≡ message_in packet)) (λ bad. has_bad_format packet ≡ true)

-- the number of a bit
abbrev pub bit : Bool → ℕ
bit false = 0
bit true = 1

-- the half word of two bytes, and the word of four
abbrev pub half_of : ℕ → ℕ → ℕ
half_of first second = first * 2 ^ 8 + second

abbrev pub word_of : ℕ → ℕ → ℕ → ℕ → ℕ
word_of first second third fourth = first * 2 ^ 24 + second * 2 ^ 16 + third * 2 ^ 8 + fourth

-- the word of four bytes of a text, from index i on
abbrev pub text_word : List ℕ → ℕ → ℕ
text_word text i = word_of (slice_index text i) (slice_index text (i + 1)) (slice_index text (i + 2)) (slice_index text (i + 3))

-- the packet of a message, with zeros in the places that its row doesn't name
abbrev pub packet_of : StreamMessage → Packet
packet_of (stream.Discovery major minor filter) = packet.Stream 0 0x000 (half_of major minor) filter 0 0
packet_of (stream.Info major minor fixed blocks midi2 midi1 receives_jr sends_jr) =
    packet.Stream 0 0x001 (half_of major minor)
    (bit fixed * 2 ^ 31 + blocks * 2 ^ 24 + bit midi2 * 2 ^ 9 + bit midi1 * 2 ^ 8 + bit receives_jr * 2 + bit sends_jr) 0 0
packet_of (stream.Identity manufacturer family model revision) =
    packet.Stream 0 0x002 0 (word_of 0 (slice_index manufacturer 0) (slice_index manufacturer 1) (slice_index manufacturer 2))
    (word_of (slice_index family 0) (slice_index family 1) (slice_index model 0) (slice_index model 1)) (text_word revision 0)
packet_of (stream.Name form text) =
    packet.Stream (form_number form) 0x003 (half_of (slice_index text 0) (slice_index text 1)) (text_word text 2) (text_word text 6)
    (text_word text 10)
packet_of (stream.ProductId form text) =
    packet.Stream (form_number form) 0x004 (half_of (slice_index text 0) (slice_index text 1)) (text_word text 2) (text_word text 6)
    (text_word text 10)
packet_of (stream.ConfigRequest protocol jr) = packet.Stream 0 0x005 (half_of protocol jr) 0 0 0
packet_of (stream.ConfigNotice protocol jr) = packet.Stream 0 0x006 (half_of protocol jr) 0 0 0
packet_of (stream.BlockDiscovery block filter) = packet.Stream 0 0x010 (half_of block filter) 0 0 0
packet_of (stream.BlockInfo active block hint midi1 direction first count ci sysex8) =
    packet.Stream 0 0x011 (half_of (bit active * 2 ^ 7 + block) (hint * 2 ^ 4 + midi1 * 2 ^ 2 + direction)) (word_of first count ci sysex8)
    0 0
packet_of (stream.BlockName form block text) =
    packet.Stream (form_number form) 0x012 (half_of block (slice_index text 0)) (text_word text 1) (text_word text 5) (text_word text 9)
packet_of stream.StartClip = packet.Stream 0 0x020 0 0 0 0
packet_of stream.EndClip = packet.Stream 0 0x021 0 0 0 0
packet_of stream.Other = packet.Reserved []

-- this many bytes
abbrev pub AreBytes : ℕ → List ℕ → Type 0
AreBytes count bytes = (length bytes ≡ count) × All (λ byte. byte < 2 ^ 8) bytes

-- The messages of the rows, if each field fits its place. First what the types of the fields leave open.
abbrev pub FitsPlaces : StreamMessage → Type 0
FitsPlaces (stream.Info major minor fixed blocks midi2 midi1 receives_jr sends_jr) = blocks < 2 ^ 7
FitsPlaces (stream.BlockInfo active block hint midi1 direction first count ci sysex8) =
    (block < 2 ^ 7) × (hint < 2 ^ 2) × (midi1 < 2 ^ 2) × (direction < 2 ^ 2)
FitsPlaces stream.Other = ⊥
FitsPlaces _ = Unit {0}

-- all of it
abbrev pub IsWritten : StreamMessage → Type 0
IsWritten (stream.Discovery major minor filter) = (major < 2 ^ 8) × (minor < 2 ^ 8) × (filter < 2 ^ 8)
IsWritten (stream.Info major minor fixed blocks midi2 midi1 receives_jr sends_jr) = (major < 2 ^ 8) × (minor < 2 ^ 8) × (blocks < 2 ^ 7)
IsWritten (stream.Identity manufacturer family model revision) =
    AreBytes 3 manufacturer × AreBytes 2 family × AreBytes 2 model × AreBytes 4 revision
IsWritten (stream.Name form text) = AreBytes 14 text
IsWritten (stream.ProductId form text) = AreBytes 14 text
IsWritten (stream.ConfigRequest protocol jr) = (protocol < 2 ^ 8) × (jr < 2 ^ 8)
IsWritten (stream.ConfigNotice protocol jr) = (protocol < 2 ^ 8) × (jr < 2 ^ 8)
IsWritten (stream.BlockDiscovery block filter) = (block < 2 ^ 8) × (filter < 2 ^ 8)
IsWritten (stream.BlockInfo active block hint midi1 direction first count ci sysex8) =
    (block < 2 ^ 7) × (hint < 2 ^ 2) × (midi1 < 2 ^ 2) × (direction < 2 ^ 2) × (first < 2 ^ 8) × (count < 2 ^ 8) × (ci < 2 ^ 8)
    × (sysex8 < 2 ^ 8)
IsWritten (stream.BlockName form block text) = (block < 2 ^ 8) × AreBytes 13 text
IsWritten stream.StartClip = Unit {0}
IsWritten stream.EndClip = Unit {0}
IsWritten stream.Other = ⊥
