-- A payload cut into the packets of one exclusive (M2-104-UM, system exclusive messages): `size` bytes in each but
-- the last.
use Rattle.std.specs.Prelude.{ℕ, max, nat_lt, if◌then◌else◌, List, ◌∷◌, length, Option, Some, None}
use Rattle.std.proofs.Common.{zero, suc}
use Rattle.std.specs.Int.{div_ceil}
use Rattle.std.specs.Fork.{slice_chunk}
use Rattle.voice_messages.specs.declared.voice2.Form.{Form}
use Rattle.sysex_groups.specs.Exclusives.{Part}
pub use Rattle.voice_messages.specs.Forms.{form_at}

-- how many packets; a payload without bytes has one as well
abbrev pub cut_count : ℕ → List ℕ → ℕ
cut_count size payload = max 1 (div_ceil (length payload) size)

-- packet k, counted from 0
abbrev pub cut_packet : ℕ → List ℕ → ℕ → Option (Form × List ℕ)
cut_packet size payload k =
    if nat_lt k (cut_count size payload)
    then Some (form_at (cut_count size payload) k, slice_chunk payload size k) else None

-- Packet k as a part that comes in a group, or of a stream; its offset is that of `offsets`.
abbrev pub cut_part : ℕ → ℕ → (ℕ → ℕ) → List ℕ → ℕ → Part
cut_part size group offsets payload k = record {
  group = group;
  form = form_at (cut_count size payload) k;
  bytes = slice_chunk payload size k;
  offset = offsets k;
}

-- the parts of a group once the first k packets have come after others of the group, newest first
abbrev pub cut_parts : ℕ → ℕ → (ℕ → ℕ) → List ℕ → List Part → ℕ → List Part
cut_parts size group offsets payload past zero = past
cut_parts size group offsets payload past (suc k) =
    cut_part size group offsets payload k ∷ cut_parts size group offsets payload past k

-- ---- a 7-bit exclusive: six bytes in each packet but the last

abbrev pub part_count : List ℕ → ℕ
part_count payload = cut_count 6 payload

abbrev pub part_at : List ℕ → ℕ → Option (Form × List ℕ)
part_at payload k = cut_packet 6 payload k

abbrev pub sent_part : ℕ → (ℕ → ℕ) → List ℕ → ℕ → Part
sent_part group offsets payload k = cut_part 6 group offsets payload k

abbrev pub sent : ℕ → (ℕ → ℕ) → List ℕ → List Part → ℕ → List Part
sent group offsets payload past k = cut_parts 6 group offsets payload past k
