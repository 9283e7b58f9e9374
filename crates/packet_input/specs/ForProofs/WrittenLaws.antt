-- The puts of packets that are written go to the output, one packet after the other.
use Rattle.std.proofs.Common.{List, [], ◌∷◌, ◌++◌, refl, ap, sym, ◌∙◌, subst}
use Rattle.std.proofs.lemmas.List.{append_assoc}
use Rattle.packet_words.specs.declared.words.Order.{Order}
use Rattle.ump_grammar.specs.declared.packet.Packet.{Packet}
use Rattle.pass_loop.specs.Named.{AreNamed, named-then}
use Rattle.pass_loop.specs.Put.{Put}
use Rattle.packet_input.specs.Written.{AreWritten, output_and_notes}

pub written_named : (order : Order) (packets : List Packet) (puts : List Put) →
    AreWritten order packets puts → AreNamed output_and_notes puts
written_named order [] puts written =
    let A : List Put → Type 0 = λ ps. AreNamed output_and_notes ps in subst A (sym written) tt
written_named order (packet ∷ packets) puts written =
    let A : List Put → Type 0 = λ ps. AreNamed output_and_notes ps in
    subst A (sym written.4)
    (named-then output_and_notes written.0 written.1 (subst A (sym written.2.2) (refl, tt))
    (written_named order packets written.1 written.3))

pub written-then : (order : Order) (packets others : List Packet) (ps qs : List Put) →
    AreWritten order packets ps → AreWritten order others qs → AreWritten order (packets ++ others) (ps ++ qs)
written-then order [] others ps qs first second =
    let W : List Put → Type 0 = λ xs. AreWritten order others xs in subst W (sym (ap (λ xs. xs ++ qs) first)) second
written-then order (packet ∷ packets) others ps qs first second = (
  first.0,
  first.1 ++ qs,
  first.2,
  written-then order packets others first.1 qs first.3 second,
  ap (λ xs. xs ++ qs) first.4 ∙ append_assoc first.0 first.1 qs,
)
