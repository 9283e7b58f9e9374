-- What is known of the packet that words encode.
use Rattle.std.proofs.Common.{◌≡◌, ℕ, List, Option, None, sym, subst}
use Rattle.std.specs.Coded.{Coded, Coded-set, codes, coded_ℕ}
use mathlib.Core.Logic.{∥∥₁_elim}
use Rattle.packet_words.specs.Words.{IsWhole}
use Rattle.ump_grammar.specs.declared.packet.Bad.{Bad}
use Rattle.ump_grammar.specs.declared.packet.Packet.{Packet}
use Rattle.ump_grammar.specs.Ranges.{IsPacket}
use Rattle.ump_grammar.specs.Reason.{reason}
use Rattle.ump_grammar.specs.Spelling.{Spells}
use Rattle.encoded_packets.specs.Encoded.{ThePacket, packet-set}

-- it is each packet that they spell
pub the_one : (words : List ℕ) (t : ThePacket words) (p : Packet) → Spells p words → t.0 ≡ p
the_one words t p spelled = ∥∥₁_elim t.1 (packet-set t.0 p) (λ a. sym (a.only p spelled))

reason-code : Coded (Option Bad)
reason-code = hlevel codes

pub is_fine : (words : List ℕ) → ThePacket words → reason words ≡ None
is_fine words t = ∥∥₁_elim t.1 (Coded-set reason-code (reason words) None) (λ a. a.fine)

pub is_whole : (words : List ℕ) → ThePacket words → IsWhole words
is_whole words t = ∥∥₁_elim t.1 (Coded-set coded_ℕ _ _) (λ a. a.spelled.whole)

-- the same if they are a copy
pub spelled_by : (words given : List ℕ) (t : ThePacket words) (p : Packet) → words ≡ given → Spells p given → Spells t.0 given
spelled_by words given t p e spelled =
    subst (λ q. Spells q given) (sym (the_one words t p (subst (Spells p) (sym e) spelled))) spelled

pub fits_by : (words given : List ℕ) (t : ThePacket words) (p : Packet) → words ≡ given → Spells p given → IsPacket p → IsPacket t.0
fits_by words given t p e spelled fits = subst IsPacket (sym (the_one words t p (subst (Spells p) (sym e) spelled))) fits
