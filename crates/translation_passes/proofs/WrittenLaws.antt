-- The words of a packet are put as a packet is written.
use Rattle.std.proofs.Common.{◌≡◌, ℕ, List, [], ◌∷◌, refl}
use Rattle.std.specs.List.{flat_map}
use Rattle.packet_words.specs.Words.{word_bytes}
use Rattle.packet_words.specs.declared.words.Order.{Order}
use Rattle.ump_grammar.specs.Reading.{Encodes}
use Rattle.ump_grammar.specs.declared.packet.Packet.{Packet}
use Rattle.std.specs.Prelude.{Result, Ok, Err}
use Rattle.pass_loop.specs.Places.{Places, Puts}
use Rattle.pass_loop.specs.Put.{in_output}
use Rattle.pass_loop.specs.declared.ends.RunEnd.{RunEnd}
use Rattle.translation_passes.specs.Raised.{CarriesOut}
use Rattle.packet_input.specs.Written.{IsWritten}

pub words_carry_out : {Held : Type 0} (from : Held) (order : Order) (packet : Packet) (words : List ℕ) → Encodes packet words
    → (old new : Places) (result : Result (Unit {0}) RunEnd)
    → Puts (in_output (flat_map (word_bytes order) words) ∷ []) old new result
    → CarriesOut (λ to puts. (to ≡ from) × IsWritten order packet puts) from old new result
words_carry_out from order packet words encodes old new (Ok done) put =
    (in_output (flat_map (word_bytes order) words) ∷ [], (refl, (words, encodes, refl)), put)
words_carry_out from order packet words encodes old new (Err end) put =
    (from, in_output (flat_map (word_bytes order) words) ∷ [], (refl, (words, encodes, refl)), put)
