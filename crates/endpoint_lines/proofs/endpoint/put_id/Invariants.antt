use Rattle.std.proofs.Common.{◌≡◌, ◌+◌, ◌*◌, ◌++◌, length, take}
use Rattle.text_lines.specs.Fields.{hex_bytes}
use Rattle.endpoint_lines.proofs.endpoint.put_id.Given as goal

abbrev pub invariant-loop-byte : goal.invariant-loop-byte
invariant-loop-byte l =
    (l.line ≡ l.initial.line ++ hex_bytes (take l.byte-index l.id)) × (length l.line ≡ length l.initial.line + 2 * l.byte-index)
