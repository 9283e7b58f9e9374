-- The bytes between F0 and F7 are data bytes.
use Rattle.std.proofs.Common.{ℕ, ◌≡◌, ◌<◌, ◌≤◌, ◌+◌, ◌-◌, ◌∙◌, List, [], ◌∷◌, ◌++◌, length}
use Rattle.std.proofs.Common.{take, drop, subst, sym, ap, arith, length-append, length-drop}
use Rattle.std.proofs.Math.Seq.{take-append-le, drop-append-le}
use Rattle.std.proofs.lemmas.List.Elements.{All-take, All-drop}
use Rattle.ci_messages.specs.Fields.{IsData}
use Rattle.ci_messages.specs.Reading.{IsExclusive, body_of}

part-payload : (payload : List ℕ) → 13 ≤ length payload →
    take (length payload - 13) (drop 13 (payload ++ 0xF7 ∷ [])) ≡ take (length payload - 13) (drop 13 payload)
part-payload payload long =
    ap (take (length payload - 13)) (drop-append-le 13 payload (0xF7 ∷ []) long)
    ∙ take-append-le (length payload - 13) (drop 13 payload) (0xF7 ∷ []) (omega (arith, length-drop 13 payload))

pub body_is_data : (message : List ℕ) → IsExclusive message → 15 ≤ length message → IsData (body_of message)
body_is_data message (payload, is, data_bytes) long =
    let size : length message ≡ length payload + 2 = omega (arith, ap length is, length-append payload (0xF7 ∷ [])) in
    let least : 13 ≤ length payload = omega (arith, size, long) in
    let same : body_of message ≡ take (length payload - 13) (drop 13 payload) =
    rw is (
    ap (λ n. take n (drop 13 (payload ++ 0xF7 ∷ []))) (omega (arith, length-append payload (0xF7 ∷ [])))
    ∙ part-payload payload least
    ) in
    subst IsData (sym same)
    (All-take (λ b. b < 128) (length payload - 13) (drop 13 payload) (All-drop (λ b. b < 128) 13 payload data_bytes))
