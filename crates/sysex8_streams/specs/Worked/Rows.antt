-- Worked rows: the definitions, computed.
use Rattle.std.specs.Prelude.{◌≡◌, ℕ, List, [], ◌∷◌, ◌++◌, Some}
use Rattle.voice_messages.specs.declared.voice2.Form.{Form}
use Rattle.voice_messages.specs.declared.voice2.Form.TheVariants as form
use Rattle.sysex_groups.specs.Exclusives.{Part}
use Rattle.sysex8_streams.specs.History.{Answer8, held8, whole8, stray8, restarted_whole8, too_long8, full8, key_of, answer8}
use Rattle.sysex8_streams.specs.Reading.{Reads8}

-- what each of these parts is answered, in the order in which they came
abbrev pub answers8 : ℕ → ℕ → List Part → List Answer8
answers8 slots room [] = []
answers8 slots room (part ∷ past) = answers8 slots room past ++ answer8 slots room past part ∷ []

-- a part of a stream of group 0
abbrev pub part8 : Form → ℕ → List ℕ → ℕ → Part
part8 form stream bytes offset = record { group = key_of 0 stream; form = form; bytes = bytes; offset = offset }

-- two streams, the second within the first
abbrev pub crossed : List Part
crossed =
    part8 form.End 1 (0xA1 ∷ []) 48 ∷ part8 form.End 2 (0xB1 ∷ []) 32 ∷ part8 form.Start 2 (0xB0 ∷ []) 16 ∷ part8 form.Start 1 (0xA0 ∷ []) 0
    ∷ []

-- one stream after another in one slot
abbrev pub in_turn : List Part
in_turn =
    part8 form.Start 2 [] 96 ∷ part8 form.Continue 1 (1 ∷ []) 80 ∷ part8 form.Continue 1 (4 ∷ 5 ∷ 6 ∷ 7 ∷ 8 ∷ 9 ∷ 10 ∷ 11 ∷ 12 ∷ 13 ∷ []) 64
    ∷ part8 form.Start 2 [] 48 ∷ part8 form.Start 1 (1 ∷ 2 ∷ 3 ∷ 4 ∷ []) 32 ∷ part8 form.Complete 1 (2 ∷ []) 16 ∷ part8 form.Start 1 [] 0
    ∷ []

pub record WorkedRows : Type 0 where
  pub complete : Reads8 (0x500307AA ∷ 0xBB000000 ∷ 0 ∷ 0 ∷ [])
      (Some (record { group = 0; form = form.Complete; stream = 7; bytes = 0xAA ∷ 0xBB ∷ [] }))
  pub continued : Reads8 (0x5F2E0901 ∷ 0x02030405 ∷ 0x06070809 ∷ 0x0A0B0C0D ∷ [])
      (Some (record { group = 15; form = form.Continue; stream = 9; bytes = 1 ∷ 2 ∷ 3 ∷ 4 ∷ 5 ∷ 6 ∷ 7 ∷ 8 ∷ 9 ∷ 10 ∷ 11 ∷ 12 ∷ 13 ∷ [] }))
  pub two_slots : answers8 16 1048576 crossed ≡ held8 ∷ held8 ∷ whole8 (0xB0 ∷ 0xB1 ∷ []) ∷ whole8 (0xA0 ∷ 0xA1 ∷ []) ∷ []
  pub one_slot : answers8 1 1048576 crossed ≡ held8 ∷ full8 ∷ stray8 ∷ whole8 (0xA0 ∷ 0xA1 ∷ []) ∷ []
  pub given_back : answers8 1 13 in_turn ≡ held8 ∷ restarted_whole8 0 (2 ∷ []) ∷ held8 ∷ full8 ∷ too_long8 ∷ stray8 ∷ held8 ∷ []
