-- A recording and its reverse.
use Rattle.std.proofs.Common.{◌≡◌, List, [], ◌∷◌, ◌++◌, refl, ap, sym, ◌∙◌, subst}
use Rattle.std.specs.Prelude.{reverse}
use Rattle.std.specs.List.{AllByRecursion}
use Rattle.std.proofs.lemmas.List.{reverse-append}
use mathlib.Core.List.{reverse-cons}
use Rattle.ump_grammar.specs.declared.packet.Packet.{Packet}
use Rattle.midi_meaning.specs.Packets.{IsInRange}

range-push : (packets : List Packet) (packet : Packet) → AllByRecursion IsInRange packets → IsInRange packet
    → AllByRecursion IsInRange (packets ++ packet ∷ [])
range-push [] packet range one = (one, tt)
range-push (p ∷ packets) packet range one = (range.0, range-push packets packet range.1 one)

pub range-turned_packets : (packets : List Packet) → AllByRecursion IsInRange packets → AllByRecursion IsInRange (reverse packets)
range-turned_packets [] range = tt
range-turned_packets (p ∷ packets) range =
    let A : List Packet → Type 0 = λ ps. AllByRecursion IsInRange ps in
    subst A (sym (reverse-cons p packets)) (range-push (reverse packets) p (range-turned_packets packets range.1) range.0)

pub twice : (packets : List Packet) → reverse (reverse packets) ≡ packets
twice [] = refl
twice (p ∷ packets) = ap reverse (reverse-cons p packets) ∙ reverse-append (reverse packets) (p ∷ []) ∙ ap (λ ps. p ∷ ps) (twice packets)
