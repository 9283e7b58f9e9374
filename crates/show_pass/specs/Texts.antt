-- The texts that the stream packets of a recording carry, and the lines of those that end (M2-104-UM, UMP
-- stream messages).
use Rattle.std.specs.Prelude.{◌≡◌, ℕ, Bool, true, false, if◌then◌else◌, List, [], ◌∷◌, Option, Some, None}
use Rattle.std.specs.List.{flat_map}
use Rattle.std.specs.Option.{option_map, option_and_then, option_to_list}
use Rattle.ump_grammar.specs.declared.packet.Packet.{Packet}
use Rattle.system_stream.specs.declared.message.StreamMessage.{StreamMessage}
use Rattle.system_stream.specs.declared.message.StreamMessage.TheVariants as stream
use Rattle.system_stream.specs.declared.texts.TextKind.{TextKind}
use Rattle.system_stream.specs.declared.texts.TextKind.TheVariants as kinds
use Rattle.system_stream.specs.Joining.{State, after_part, text_answer, idle}
use Rattle.system_stream.specs.Layout.{message_in}
use Rattle.system_stream.specs.Parts.{Part, answer_at}
use Rattle.midi_lines.specs.TextLines.{joined_text}
use Rattle.pass_loop.specs.Put.{Put, in_output}
use Rattle.show_pass.specs.declared.texts.TextPart.{TextPart}
use Rattle.show_pass.specs.declared.texts.Texts.{Texts}

-- the kind and the part of the text that a message carries; only the name of a block tells its block
abbrev pub text_in : StreamMessage → Option (TextKind × Part)
text_in (stream.Name form text) = Some (kinds.EndpointName, record { form = form; block = 0; bytes = text })
text_in (stream.ProductId form text) = Some (kinds.ProductId, record { form = form; block = 0; bytes = text })
text_in (stream.BlockName form block text) =
    Some (kinds.BlockName, record { form = form; block = block; bytes = text })
text_in _ = None

abbrev pub text_of : Packet → Option (TextKind × Part)
text_of packet = text_in (message_in packet)

-- ---- by the packets before, the newest first

abbrev pub same_kind : TextKind → TextKind → Bool
same_kind kinds.EndpointName kinds.EndpointName = true
same_kind kinds.ProductId kinds.ProductId = true
same_kind kinds.BlockName kinds.BlockName = true
same_kind _ _ = false

abbrev pub of_kind : TextKind → Option (TextKind × Part) → List Part
of_kind kind None = []
of_kind kind (Some text) = if same_kind kind text.0 then text.1 ∷ [] else []

-- the parts of this kind's texts among these packets
abbrev pub parts_of_kind : TextKind → List Packet → List Part
parts_of_kind kind past = flat_map (λ packet. of_kind kind (text_of packet)) past

-- the line of the text that a packet ends, if it ends one
abbrev pub text_line : List Packet → Packet → Option (List ℕ)
text_line past packet =
    option_and_then (λ text. joined_text text.0 (answer_at text.0 (parts_of_kind text.0 past) text.1))
    (text_of packet)

abbrev pub text_puts : Option (List ℕ) → List Put
text_puts line = option_to_list (option_map in_output line)

-- ---- by the state: the texts of each kind, joined

abbrev pub part_view : TextPart → TextKind × Part
part_view part = (part.kind, record { form = part.form; block = part.block; bytes = part.bytes.now })

-- nothing is open
abbrev pub new_texts : Texts
new_texts =
    record { names = idle kinds.EndpointName; products = idle kinds.ProductId; blocks = idle kinds.BlockName }

abbrev pub joined_of : TextKind → Texts → State
joined_of kinds.EndpointName texts = texts.names
joined_of kinds.ProductId texts = texts.products
joined_of kinds.BlockName texts = texts.blocks

-- each is of its kind
abbrev pub AreOfTheirKinds : Texts → Type 0
AreOfTheirKinds texts = (kind : TextKind) → (joined_of kind texts).kind ≡ kind

abbrev pub texts_with : TextKind → Part → Texts → Texts
texts_with kinds.EndpointName part texts = record texts { names = after_part texts.names part }
texts_with kinds.ProductId part texts = record texts { products = after_part texts.products part }
texts_with kinds.BlockName part texts = record texts { blocks = after_part texts.blocks part }

-- the state after a packet
abbrev pub texts_after : Option (TextKind × Part) → Texts → Texts
texts_after None texts = texts
texts_after (Some text) texts = texts_with text.0 text.1 texts

abbrev pub texts_of : List Packet → Texts
texts_of [] = new_texts
texts_of (packet ∷ past) = texts_after (text_of packet) (texts_of past)

-- the line of the text that a packet ends
abbrev pub line_of_text : Option (TextKind × Part) → Texts → Option (List ℕ)
line_of_text None texts = None
line_of_text (Some text) texts = joined_text text.0 (text_answer (joined_of text.0 texts) text.1)
