-- What the parser answers.
use Rattle.std.specs.Prelude.{◌≡◌, ◌-◌, List, [], ◌∷◌, ◌++◌, length, take, drop, ℕ, Option, Some, None}
use Rattle.midi1_bytes.specs.declared.step.Step.{Step}
use Rattle.midi1_bytes.specs.declared.step.Step.TheVariants as step
use Rattle.midi1_bytes.specs.declared.step.AfterCut.{AfterCut}
use Rattle.midi1_bytes.specs.declared.step.CutKind.{CutKind}
use Rattle.midi1_bytes.specs.Messages.{voice, common, exclusive, real_time, AreData}
use Rattle.midi1_bytes.specs.Spoken.{voice_in, common_in, real_time_in}
use Rattle.midi1_bytes.specs.Steps as steps

-- the bytes between F0 and F7
abbrev pub payload_of : List ℕ → List ℕ
payload_of bytes = take (length bytes - 2) (drop 1 bytes)

abbrev pub framed : List ℕ → List ℕ
framed payload = 0xf0 ∷ payload ++ 0xf7 ∷ []

abbrev pub step_view : Step → steps.Step
step_view step.Held = steps.held
step_view (step.Voice bytes) = steps.completes (voice (voice_in bytes))
step_view (step.Common bytes) = steps.completes (common (common_in bytes))
step_view (step.RealTime byte) = steps.completes (real_time (real_time_in byte))
step_view (step.Exclusive bytes) = steps.completes (exclusive (payload_of bytes.now))
step_view step.Stray = steps.stray
step_view step.Undefined = steps.undefined
step_view (step.Cut start what after) = steps.cut start what after
step_view step.TooLong = steps.too_long

-- an exclusive that is lent has its F0 and its F7
abbrev pub LendsFramed : Step → Type 0
LendsFramed (step.Exclusive bytes) = bytes.now ≡ framed (payload_of bytes.now)
LendsFramed _ = Unit {0}

-- an exclusive that is lent has data bytes alone between its F0 and its F7
abbrev pub LendsData : Step → Type 0
LendsData (step.Exclusive bytes) = AreData (payload_of bytes.now)
LendsData _ = Unit {0}

-- what a status byte does: if something is open it cuts that off and does `besides`, and else it does `alone`
abbrev pub cut_off_by : Option (ℕ × CutKind) → AfterCut → steps.Step → steps.Step
cut_off_by None besides alone = alone
cut_off_by (Some open_one) besides alone = steps.cut open_one.0 open_one.1 besides
