-- The packets of a text are read as its parts.
use Rattle.std.proofs.Common.{ℕ, ◌≡◌, ◌<◌, ◌*◌, ◌-◌, ◌^◌, List, length, drop, replicate, arith, lit<, length-take, length-append}
use Rattle.std.specs.List.{All}
use Rattle.std.specs.Fork.{slice_chunk}
use Rattle.std.proofs.lemmas.List.{length-replicate}
use Rattle.std.proofs.lemmas.List.Elements.{All-append, All-take, All-drop, All-replicate}
use Rattle.system_stream.specs.declared.texts.TextKind.{TextKind}
use Rattle.system_stream.specs.declared.texts.TextKind.TheVariants as kind
use Rattle.system_stream.specs.Cut.{form_at, part_bytes, part_count}
use Rattle.system_stream.specs.Layout.{AreBytes, message_in, packet_of}
use Rattle.system_stream.specs.Texts.{part_message, part_size}
use Rattle.system_stream.proofs.LayoutLaws.{message-read}

abbrev IsByte : ℕ → Type 0
IsByte byte = byte < 2 ^ 8

-- a part has as many bytes as its kind says
pub part-bytes : (size : ℕ) (text : List ℕ) (k : ℕ) → All (λ byte. byte < 2 ^ 8) text → AreBytes size (part_bytes size text k)
part-bytes size text k bytes =
    let chunk : List ℕ = slice_chunk text size k in
    let filling : List ℕ = replicate (size - length chunk) 0 in
    let zero_fits : IsByte 0 = lit< tt in (
      omega (arith, length-append chunk filling, length-replicate {A = ℕ} (size - length chunk) 0, length-take size (drop (k * size) text)),
      All-append IsByte chunk filling (All-take IsByte size (drop (k * size) text) (All-drop IsByte (k * size) text bytes))
          (All-replicate IsByte (size - length chunk) 0 zero_fits),
    )

pub packet-read : (kind : TextKind) (block : ℕ) (text : List ℕ) → block < 2 ^ 8 → All (λ byte. byte < 2 ^ 8) text → (k : ℕ)
    → k < part_count kind text →
    message_in (packet_of (part_message kind (form_at (part_count kind text) k) block (part_bytes (part_size kind) text k)))
    ≡ part_message kind (form_at (part_count kind text) k) block (part_bytes (part_size kind) text k)
packet-read kind.EndpointName block text small bytes k within =
    message-read (part_message kind.EndpointName _ block _) (part-bytes 14 text k bytes)
packet-read kind.ProductId block text small bytes k within =
    message-read (part_message kind.ProductId _ block _) (part-bytes 14 text k bytes)
packet-read kind.BlockName block text small bytes k within =
    message-read (part_message kind.BlockName _ block _) (small, part-bytes 13 text k bytes)
