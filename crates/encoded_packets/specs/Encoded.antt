-- The packet that some words encode (M2-104-UM).
use Rattle.std.specs.Prelude.{◌≡◌, ℕ, List, None}
use Rattle.std.proofs.Common.{sym}
use Rattle.std.specs.Coded.{Coded, Coded-set, codes}
use mathlib.Core.Logic.{∥∥₁_elim, ∥∥₁_prop}
use mathlib.Core.HLevel.{is_prop→PathP}
use Rattle.ump_grammar.specs.declared.packet.Packet.{Packet}
use Rattle.ump_grammar.specs.Reason.{reason}
use Rattle.ump_grammar.specs.Spelling.{Spells}

-- the words spell this packet alone, and there is no reason to refuse them
pub record IsEncodedBy (words : List ℕ) (packet : Packet) : Type 0 where
  pub fine : reason words ≡ None
  pub spelled : Spells packet words
  pub only : (other : Packet) → Spells other words → other ≡ packet

-- the packet that the words encode
abbrev pub ThePacket : List ℕ → Type 0
ThePacket words = (packet : Packet) × ∥ IsEncodedBy words packet ∥₁

pub packet-code : Coded Packet
packet-code = hlevel codes

pub packet-set : IsSet Packet
packet-set = Coded-set packet-code

-- there is one at most
pub the_packet-prop : (words : List ℕ) → IsProp (ThePacket words)
the_packet-prop words p q =
    let same : p.0 ≡ q.0 = ∥∥₁_elim p.1 (packet-set p.0 q.0) (λ a. ∥∥₁_elim q.1 (packet-set p.0 q.0) (λ b. sym (a.only q.0 b.spelled))) in
    λ i. (same i, is_prop→PathP (λ j. ∥ IsEncodedBy words (same j) ∥₁) (λ j. ∥∥₁_prop) p.1 q.1 i)
