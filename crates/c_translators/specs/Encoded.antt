-- The words of packets, in the caller's buffer.
use Rattle.std.specs.Prelude.{◌≡◌, ℕ, List, [], ◌∷◌, ◌++◌, length}
use Rattle.ump_grammar.specs.Reading.{Encodes}
use Rattle.ump_grammar.specs.declared.packet.Packet.{Packet}
use Rattle.c_answers.specs.Fronts.{with_front}

-- words that encode these packets, one after another
abbrev pub EncodesAll : List Packet → List ℕ → Type 0
EncodesAll [] words = words ≡ []
EncodesAll (packet ∷ packets) words =
    (own : List ℕ) × (others : List ℕ) × (words ≡ own ++ others) × Encodes packet own × EncodesAll packets others

-- the words of a packet are at the front of a buffer, and `count` is their number
pub record IsEncoded (packet : Packet) (old : List ℕ) (count : ℕ) (new : List ℕ) : Type 0 where
  pub words : List ℕ
  pub encoded : Encodes packet words
  pub count_is : count ≡ length words
  pub front : new ≡ with_front words old

-- the same of packets one after another
pub record AreEncoded (packets : List Packet) (old : List ℕ) (count : ℕ) (new : List ℕ) : Type 0 where
  pub words : List ℕ
  pub encoded : EncodesAll packets words
  pub count_is : count ≡ length words
  pub front : new ≡ with_front words old
