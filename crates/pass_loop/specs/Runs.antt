-- Bytes that are taken at once, by what is done with them one by one. The item of a byte is the byte after its offset, which is the
-- number of bytes before it.
use Rattle.std.specs.Prelude.{◌≡◌, ◌⊎◌, ℕ, List, [], ◌∷◌, length, take, Result, Ok, Err}
use Rattle.pass_loop.specs.Pass.{Work, StepEnds, Steps}
use Rattle.pass_loop.specs.Places.{Places}
use Rattle.pass_loop.specs.declared.ends.RunEnd.{RunEnd}

-- the item of a byte after these, the newest first
abbrev pub next_item : List (ℕ × ℕ) → ℕ → ℕ × ℕ
next_item past byte = (length past, byte)

-- an engine holds what some bytes leave, and they are so many
abbrev pub HoldsSoMany : {Engine : Type 0} → (Engine → Engine → List (ℕ × ℕ) → Type 0) → Engine → ℕ → Type 0
HoldsSoMany {Engine} Holds engine count =
    (first : Engine) × (past : List (ℕ × ℕ)) × Holds first engine past × (count ≡ length past)

module _ {Engine : Type 0} (work : Work (ℕ × ℕ)) (Holds : Engine → List (ℕ × ℕ) → Type 0) where
  -- After these items the bytes are accepted one after the other, and the puts of each are put; an engine holds what each leaves, and at
  -- the end this one does.
  abbrev pub StepsOver : Engine → List (ℕ × ℕ) → List ℕ → Places → Places → Type 0
  StepsOver after past [] old new = Holds after past × (new ≡ old)
  StepsOver after past (byte ∷ bytes) old new =
      (between : Places) × (engine : Engine) × Steps work past old between (next_item past byte) (Ok tt)
      × Holds engine (next_item past byte ∷ past) × StepsOver after (next_item past byte ∷ past) bytes between new

  -- After these items one of the bytes ends the pass, and those before it are accepted as above.
  abbrev pub EndsWithin : List (ℕ × ℕ) → List ℕ → Places → Places → RunEnd → Type 0
  EndsWithin past [] old new end = ⊥
  EndsWithin past (byte ∷ bytes) old new end =
      StepEnds work past old new (next_item past byte) end
      ⊎ ((between : Places) × (engine : Engine) × Steps work past old between (next_item past byte) (Ok tt)
      × Holds engine (next_item past byte ∷ past) × EndsWithin (next_item past byte ∷ past) bytes between new end)

  -- so many of the bytes are stepped over, or one of them ends the pass
  abbrev pub TakesRun : List ℕ → Engine → List (ℕ × ℕ) → Places → Places → Result ℕ RunEnd → Type 0
  TakesRun bytes after past old new (Ok count) = StepsOver after past (take count bytes) old new
  TakesRun bytes after past old new (Err end) = EndsWithin past bytes old new end
